-- A tree of n names that are those of the entries so far.
use Rattle.std.specs.Prelude.{◌≡◌, List, ℕ}
use Rattle.shared_name_tree.specs.Names.{name_of, held, Holds}
use Rattle.slip_rules.specs.Rules.{named_before}

pub record Seen (names nodes : List ℕ) (n : ℕ) (seen : List (List ℕ)) : Type 0 where
  pub holds : Holds names nodes n
  pub those : (x : List ℕ) → held (name_of names nodes) n x ≡ named_before x seen
