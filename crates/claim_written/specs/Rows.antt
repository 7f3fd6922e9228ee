-- THE WRITER OF FIGURES WITH MATERIALS, of the call and in the rows lent to it.
use Rattle.std.specs.Prelude.{◌≡◌, List, [], ◌∷◌, ℕ, ◌≤◌, Float, length, take, drop, Ok}
use Rattle.std.proofs.Math.Option.{some}
use Rattle.std.proofs.Math.ListN.{get_elem?}
use Rattle.shared_words.specs.Effects.{leaving, filled}
use Rattle.studio_rules.specs.Calls.{Rows, in_numbers, tables_call}
use Rattle.studio_write_judge.specs.Judged.{triples}
use Rattle.studio_write.specs.Write.{write_call}
use Rattle.studio_write.specs.ReadsBack.{Floats32}
use Rattle.studio_figure_rules.specs.ReadsBack.{NameStands}
use Rattle.studio_figure_rules.specs.Described.{Flat, ObjectCounts, objects_in, write_flat}

-- ---- a bare figure is written as before

-- one object and nothing else, as rows
abbrev pub bare_rows : List ℕ → List Float → List ℕ → Flat
bare_rows name vertices corners = record {
  names = name;
  objects = length name ∷ length vertices ∷ length corners ∷ 0 ∷ 0 ∷ [];
  vertices = vertices;
  corners = corners;
  smoothing = [];
  groups = [];
  faces = [];
  materials = [];
  colours = [];
}

-- A BARE FIGURE IS WRITTEN AS BEFORE, or refused as before: the whole call is the bare writer's.
abbrev pub BareAsBefore : Type 0
BareAsBefore = (name : List ℕ) (vertices : List Float) (corners out : List ℕ) → Floats32 vertices →
    write_flat (bare_rows name vertices corners) out ≡ write_call name vertices corners out

-- ---- what is written reads back to the very rows

-- what is lent of an object: its part of three of the rows
pub record Lent : Type 0 where
  pub name : List ℕ
  pub floats : List Float
  pub corners : List ℕ

abbrev pub lent_objects : List ObjectCounts → List ℕ → List Float → List ℕ → List Lent
lent_objects [] names vertices corners = []
lent_objects (c ∷ cs) names vertices corners =
    record { name = take c.name names; floats = take c.floats vertices; corners = take c.corners corners } ∷
    lent_objects cs (drop c.name names) (drop c.floats vertices) (drop c.corners corners)

-- mesh k of the file s is that object: its name stands there, and its tables are filled with the floats and corners that were lent
pub record GivenBack (s : List ℕ) (k : ℕ) (o : Lent) : Type 0 where
  pub name : NameStands s k o.name
  pub tables : (rows : Rows Float ℕ Float) → length o.floats ≤ length rows.vertices → length o.corners ≤ length rows.corners →
      tables_call in_numbers s k rows ≡
      leaving (Ok record { vertices = triples o.floats; faces = triples o.corners; pairs = 0 })
      record { vertices = filled o.floats rows.vertices; corners = filled o.corners rows.corners; mapping = rows.mapping }

-- THE VERY FLOATS AND CORNERS are read that were lent, bit for bit.
abbrev pub RowsGivenBack : Type 0
RowsGivenBack = (r : Flat) (out : List ℕ) (size : ℕ) → Floats32 r.vertices → (write_flat r out).answer ≡ Ok size →
    (k : ℕ) (o : Lent) → get_elem? (lent_objects (objects_in r) r.names r.vertices r.corners) k ≡ some o →
    GivenBack (take size (write_flat r out).rows) k o
