-- A run of chunks in the file, and the run from its first child of an identifier on.
use Rattle.std.specs.Prelude.{cond, List, ℕ, eqb}
use Rattle.studio_rules.specs.Layout.{Run, end, skip, known}
use Rattle.studio_rules.specs.Rules.{Parent, Obeys, Meets}
use Rattle.studio_stands.specs.Stands.{Stands}

-- the run t of p stands in the file s from `at` to `stop`, behind children with the identifiers `seen`, and obeys the rules
pub record Spans (p : Parent) (t : Run) (s : List ℕ) (at stop : ℕ) : Type 0 where
  pub seen : List ℕ
  pub stands : Stands t s at stop
  pub obeys : Obeys p seen t

abbrev pub SomeRun : List ℕ → ℕ → ℕ → Type 0
SomeRun s at stop = (p : Parent) × (t : Run) × Spans p t s at stop

-- a run that begins with a chunk x
abbrev pub Begins : ℕ → List ℕ → ℕ → Type 0
Begins x s at = (p : Parent) × (own : List ℕ) × (kids : Run) × (rest : Run) × (stop : ℕ) × Spans p (known x own kids rest) s at stop

-- the file meets the rules
abbrev pub Accepted : List ℕ → Type 0
Accepted s = (kids : Run) × Meets s kids

-- the run from its first child x on
abbrev pub onward : ℕ → Run → Run
onward x end = end
onward x (skip id body rest) = onward x rest
onward x (known id own kids rest) = cond (eqb id x) (known id own kids rest) (onward x rest)
