-- A bare figure is written as before: one object, without smoothing words, groups and materials.
use Rattle.std.specs.Prelude.{◌≡◌, ℕ, List, [], ◌∷◌, map, Float}
use Rattle.std.specs.Float.{binary32}
use Rattle.std.specs.Float.Ieee.{to_bits}
use Rattle.shared_words.specs.Conditions.{broken}
use Rattle.studio_write_judge.specs.Judged.{figure_size, write_conditions}
use Rattle.studio_write_bytes.specs.Bare.{bare}
use Rattle.studio_write.specs.Write.{write_call}
use Rattle.studio_write.specs.ReadsBack.{Floats32}
use Rattle.studio_figure_rules.specs.Given.{Figure}
use Rattle.studio_figure_rules.specs.Built.{layout}
use Rattle.studio_figure_rules.specs.Judged.{size_of, conditions}
use Rattle.studio_figure_rules.specs.Write.{write_figure}

abbrev pub bare_figure : List ℕ → List Float → List ℕ → Figure
bare_figure name vertices corners = record {
  objects = record { name = name; vertices = map (to_bits binary32) vertices; corners = corners; smoothing = []; groups = [] } ∷ [];
  materials = [];
}

pub record AsBefore (name : List ℕ) (vertices : List Float) (corners : List ℕ) : Type 0 where
  pub same_layout : layout (bare_figure name vertices corners) ≡ bare name vertices corners
  pub same_size : size_of (bare_figure name vertices corners) ≡ figure_size name vertices corners
  -- the first broken condition is the bare writer's, and so is the call
  pub same_faults : (room : ℕ) → broken (conditions (bare_figure name vertices corners) room) ≡ broken (write_conditions name vertices corners room)
  pub same-call : (out : List ℕ) → write_figure (bare_figure name vertices corners) out ≡ write_call name vertices corners out

abbrev pub BareAsBefore : Type 0
BareAsBefore = (name : List ℕ) (vertices : List Float) (corners : List ℕ) → Floats32 vertices → AsBefore name vertices corners
