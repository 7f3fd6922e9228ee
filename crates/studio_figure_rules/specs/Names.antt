-- What the tests behind 29 and 30 say of names, in plain words.
use Rattle.std.specs.Prelude.{◌≡◌, ◌↔◌, ℕ, ◌<◌, true, List, [], length, get_or}
use Rattle.std.proofs.Math.Option.{none}
use Rattle.shared_words.specs.Conditions.{broken}
use Rattle.studio_figure_rules.specs.Judged.{one_of, differ}

-- no two of them are equal
abbrev pub Differ : List (List ℕ) → Type 0
Differ names = (i j : ℕ) → i < j → j < length names → get_or names i [] ≡ get_or names j [] → ⊥

-- one of them is this
abbrev pub Among : List (List ℕ) → List ℕ → Type 0
Among names name = (i : ℕ) × (i < length names) × (get_or names i [] ≡ name)

-- 29 is not given exactly where names differ; 30, where each name of a group is the name of a material
pub record NamesAsked : Type 0 where
  pub differ_exactly : (names : List (List ℕ)) → (broken (differ [] names) ≡ none) ↔ Differ names
  pub among_exactly : (names : List (List ℕ)) (name : List ℕ) → (one_of names name ≡ true) ↔ Among names name
