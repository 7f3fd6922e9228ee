-- OWNERS ARE CHUNKS OF THE FILE: in a Caligari file that meets the rules the topmost owner of every record, and its parent where it has one,
-- is the identifier of a chunk before END. (That a parent stands earlier is a rule: `parent_earlier`.)
use Rattle.std.specs.Prelude.{◌≡◌, ◌⊎◌, true, List, [], ℕ}
use Rattle.shared_words.specs.Lists.{All}
use Rattle.shared_flat.specs.Flat.{records}
use Rattle.cob_rules.specs.declared.Record.{Record}
use Rattle.cob_rules.specs.Layout.{Chunk, Layout}
use Rattle.cob_rules.specs.Rules.{used, Meets}
use Rattle.cob_rules.specs.Gives.{caligari}
use Rattle.cob_rules.specs.Theorems.{seen_in}

pub record OwnerThere (cs : List Chunk) (r : Record) : Type 0 where
  pub owner_there : used r.owner cs ≡ true
  pub parent-there : (r.parent ≡ 0) ⊎ (used r.parent cs ≡ true)

abbrev pub OwnersThere : Type 0
OwnersThere = (s : List ℕ) (l : Layout) → Meets s l → All (OwnerThere (seen_in l)) (records caligari [] 32 l.chunks)
