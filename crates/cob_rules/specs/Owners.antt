-- The way up from a chunk through its parents, all by identifier: what the topmost owner is proved against.
use Rattle.std.specs.Prelude.{◌≡◌, ℕ, cond, List, [], ◌∷◌, eqb}
use Rattle.cob_rules.specs.declared.Record.{Record}
use Rattle.cob_rules.specs.Layout.{Chunk, identifier, parent}

-- the parent of the chunk of identifier x; 0 where there is none
abbrev pub parent_of : List Chunk → ℕ → ℕ
parent_of [] x = 0
parent_of (c ∷ cs) x = cond (eqb (identifier c) x) (parent c) (parent_of cs x)

-- From x, through parents, the way ends at t: t has no parent and x is t; or x has one, and the way goes on from it.
pub data WayUp (cs : List Chunk) (t : ℕ) : ℕ → Type 0 where
  top : parent_of cs t ≡ 0 → WayUp cs t t
  up : {x : ℕ} → (parent_of cs x ≡ 0 → ⊥) → WayUp cs t (parent_of cs x) → WayUp cs t x

-- a record of a file of these chunks has its parent and its topmost owner
pub record Owned (cs : List Chunk) (r : Record) : Type 0 where
  pub parent_is : parent_of cs r.identifier ≡ r.parent
  pub owner_is : WayUp cs r.owner r.identifier
  -- "a chunk of parent 0 owns itself"
  pub owns-itself : r.parent ≡ 0 → r.owner ≡ r.identifier
