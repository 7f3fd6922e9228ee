-- What is proved of the walk's verdict and of what the rules give.
use Rattle.std.specs.Prelude.{◌≡◌, ◌↔◌, ℕ, ◌≤◌, true, List, [], length}
use Rattle.shared_words.specs.Refusals.{limit}
use Rattle.cob_rules.specs.declared.Kind.{Kind}
use Rattle.shared_words.specs.Conditions.{accepted}
use Rattle.shared_words.specs.Lists.{All}
use Rattle.shared_flat.specs.Flat.{after_all, records}
use Rattle.shared_flat.specs.Put.{Mark, without, with}
use Rattle.cob_rules.specs.Kinds.{tells_end, parts}
use Rattle.cob_rules.specs.Body.{behind_all, fits, exact, up_to}
use Rattle.cob_rules.specs.Layout.{Chunk, Layout, bytes}
use Rattle.cob_rules.specs.Rules.{remember, Meets}
use Rattle.cob_rules.specs.Walk.{verdict}
use Rattle.cob_rules.specs.Gives.{caligari}
use Rattle.cob_rules.specs.Owners.{WayUp, Owned}
use Rattle.cob_rules.specs.PutIn.{ending, MayPut, MayTake, Unchanged}

-- A file is accepted, with a layout, exactly when it meets the rules with that layout. (For every list of numbers, so for every
-- list of bytes.)
abbrev pub AcceptedExactly : Type 0
AcceptedExactly = (s : List ℕ) (l : Layout) → (verdict s ≡ accepted l) ↔ Meets s l

-- A file has one layout.
abbrev pub OneLayout : Type 0
OneLayout = (s : List ℕ) (l l' : Layout) → Meets s l → Meets s l' → l ≡ l'

-- A body of size -1 is refused with 10 exactly where its parts do not fit: where they do, what they take is their exact body. (So
-- the walk's one condition for 10 says both of Q-4's.)
abbrev pub ToldExactly : Type 0
ToldExactly = (k : Kind) (s : List ℕ) → tells_end k ≡ true → exact k (up_to s (behind_all (parts k) s)) ≡ fits (behind_all (parts k) s)

-- ---- owners

-- all chunks before END, the last first
abbrev pub seen_in : Layout → List Chunk
seen_in l = after_all remember [] l.chunks

-- Each record before END has the parent of its chunk, and as its owner the end of the way up from it: there is one, and no other.
abbrev pub OwnersFound : Type 0
OwnersFound = (s : List ℕ) (l : Layout) → Meets s l → All (Owned (seen_in l)) (records caligari [] 32 l.chunks)

abbrev pub OneOwner : Type 0
OneOwner = (cs : List Chunk) (x t t' : ℕ) → WayUp cs t x → WayUp cs t' x → t ≡ t'

-- ---- demand 3: for all marked chunks together, put before any chunk and never after END. (Crate claim_demands says it of the calls.)

-- an accepted file, with chunks put in, is accepted within the length limit
abbrev pub PutIn : Type 0
PutIn = (m : List (Mark Chunk)) (last : Chunk) (s : List ℕ) → verdict s ≡ accepted (ending last (without m)) → MayPut m →
    length (bytes (ending last (with m))) ≤ limit →
    (verdict (bytes (ending last (with m))) ≡ accepted (ending last (with m))) × Unchanged m last

-- an accepted file, with chunks taken out, is accepted
abbrev pub TakenOut : Type 0
TakenOut = (m : List (Mark Chunk)) (last : Chunk) (s : List ℕ) → verdict s ≡ accepted (ending last (with m)) → MayTake m →
    (verdict (bytes (ending last (without m))) ≡ accepted (ending last (without m))) × Unchanged m last
