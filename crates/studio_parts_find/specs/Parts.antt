-- Where the parts of a figure stand in its file.
use Rattle.std.specs.Prelude.{List, ℕ}
use Rattle.studio_rules.specs.Layout.{Run, known, held}
use Rattle.studio_rules.specs.Rules.{Parent, Meets}
use Rattle.studio_child.specs.Runs.{Spans}

-- the file s meets the rules with this layout, and the children of its B000 stand there from `from` to `stop`
pub record PartsAt (s : List ℕ) (kids : Run) (from stop : ℕ) : Type 0 where
  pub meets : Meets s kids
  pub p : Parent
  pub spans : Spans p (held 0xB000 kids) s from stop

abbrev pub SomeParts : List ℕ → ℕ → ℕ → Type 0
SomeParts s from stop = (kids : Run) × PartsAt s kids from stop

-- a part, and what follows it up to `stop`
abbrev pub SomePart : List ℕ → ℕ → ℕ → Type 0
SomePart s at stop = (p : Parent) × (own : List ℕ) × (kids : Run) × (rest : Run) × Spans p (known 0xB002 own kids rest) s at stop
