-- Runs and chunks that the search is asked about.
use Rattle.std.specs.Prelude.{◌≡◌, List, ℕ}
use Rattle.studio_rules.specs.Table.{shape, counted}
use Rattle.studio_rules.specs.Layout.{Run}
use Rattle.studio_rules.specs.Rules.{Parent}
use Rattle.studio_meshes_rules.specs.Standing.{standing_of, standing}
use Rattle.studio_child.specs.Runs.{Spans}

-- the children of some 3D3D
abbrev pub SomeObjects : List ℕ → ℕ → ℕ → Type 0
SomeObjects s at stop = (p : Parent) × (t : Run) × (p.id ≡ 0x3D3D) × Spans p t s at stop

-- those of the figure from some object on, where they stand in its file: its meshes are the ones in them
pub record ObjectsAt (s : List ℕ) (kids : Run) (from stop : ℕ) : Type 0 where
  pub p : Parent
  pub t : Run
  pub id : p.id ≡ 0x3D3D
  pub spans : Spans p t s from stop
  pub name_at : ℕ
  pub name_length : ℕ
  pub meshes_in : standing kids ≡ standing_of from name_at name_length t

-- chunks x have own data that is a count word and elements
abbrev pub IsCounted : ℕ → Type 0
IsCounted x = (k : ℕ) × (shape x ≡ counted k)
