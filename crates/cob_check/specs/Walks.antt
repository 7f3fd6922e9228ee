-- What the walk promises, by the rules' answer.
use Rattle.std.specs.Prelude.{◌≡◌, ℕ, suc, ◌*◌, ◌≤◌, Result, Ok, Err, List, length, get_or}
use Rattle.shared_words.specs.declared.Refusal.{Refusal}
use Rattle.shared_words.specs.Conditions.{refused, accepted}
use Rattle.shared_words.specs.Refusals.{limit}
use Rattle.cob_rules.specs.Layout.{Layout}
use Rattle.cob_rules.specs.Walk.{Verdict}
use Rattle.cob_rules.specs.Gives.{list}
use Rattle.cob_rules.specs.Theorems.{seen_in}
use Rattle.cob_seen.specs.Tree.{Represents}
use Rattle.cob_step.specs.Steps.{Holds}
use Rattle.cob_check.specs.declared.Walked.{Walked}

-- rows for a file: a tree of node 0 alone, and room for all its chunks, which have at least 20 bytes each
pub record Prepared (s ids links : List ℕ) : Type 0 where
  pub tree : Represents ids links 1
  pub first : get_or ids 0 0 ≡ 0
  pub short : length s ≤ limit
  pub nodes : length s ≤ 20 * length ids
  pub sides : length s ≤ 10 * length links

-- an accepted file: its records are counted, and the tree holds the identifiers of its chunks before END
pub record Accepted (l : Layout) (count records : ℕ) (ids links : List ℕ) : Type 0 where
  pub records_are : records ≡ length (list l)
  pub nodes_are : count ≡ suc (length l.chunks)
  pub tree : Represents ids links count
  pub holds : Holds ids (seen_in l)

abbrev pub WalkIs : Verdict → Result Walked Refusal → List ℕ → List ℕ → Type 0
WalkIs (refused q) (Err r) ids links = r ≡ q
WalkIs (refused q) (Ok w) ids links = ⊥
WalkIs (accepted l) (Err r) ids links = ⊥
WalkIs (accepted l) (Ok w) ids links = Accepted l w.nodes w.records ids links
