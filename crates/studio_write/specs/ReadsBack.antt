-- What is written reads back: the reader's own calls give the name, the floats and the corners that were written.
use Rattle.std.specs.Prelude.{◌≡◌, ℕ, suc, ◌+◌, ◌*◌, ◌≤◌, true, List, [], ◌∷◌, Float, length, take, drop, Ok, Err}
use Rattle.std.specs.Float.{binary32}
use Rattle.std.specs.Float.Ieee.{fits}
use Rattle.shared_words.specs.declared.Refusal.TheVariants.{NoSuchMesh}
use Rattle.shared_words.specs.Lists.{every}
use Rattle.studio_rules.specs.Rules.{Meets}
use Rattle.shared_words.specs.Conditions.{accepted}
use Rattle.studio_rules.specs.Walk.{verdict}
use Rattle.studio_rules.specs.Gives.{record_numbers}
use Rattle.studio_rules.specs.Encodings.{flat_records}
use Rattle.shared_words.specs.Effects.{leaving, filled}
use Rattle.studio_rules.specs.Calls.{list_call, Rows, in_numbers, tables_call, name_call}
use Rattle.studio_write_judge.specs.Judged.{triples, figure_size}
use Rattle.studio_write_bytes.specs.Bare.{bare, bare_bytes}
use Rattle.studio_write.specs.Write.{write_call}

-- each is the value of an f32, as the elements of a slice are
abbrev pub Floats32 : List Float → Type 0
Floats32 vertices = every (fits binary32) vertices ≡ true

-- the list, where the name has k bytes: identifier, offset, length, depth, parent, own data, the number behind the branch
abbrev pub six_records : ℕ → ℕ → ℕ → List ℕ
six_records k n f =
    0x4D4D ∷ 0 ∷ (41 + k + 12 * n + 8 * f) ∷ 0 ∷ 0 ∷ 0 ∷ 6 ∷
    0x3D3D ∷ 6 ∷ (35 + k + 12 * n + 8 * f) ∷ 1 ∷ 0 ∷ 0 ∷ 6 ∷
    0x4000 ∷ 12 ∷ (29 + k + 12 * n + 8 * f) ∷ 2 ∷ 1 ∷ (1 + k) ∷ 6 ∷
    0x4100 ∷ (19 + k) ∷ (22 + 12 * n + 8 * f) ∷ 3 ∷ 2 ∷ 0 ∷ 6 ∷
    0x4110 ∷ (25 + k) ∷ (8 + 12 * n) ∷ 4 ∷ 3 ∷ (2 + 12 * n) ∷ 5 ∷
    0x4120 ∷ (33 + k + 12 * n) ∷ (8 + 8 * f) ∷ 4 ∷ 3 ∷ (2 + 8 * f) ∷ 6 ∷ []

-- THE FILE s READS BACK to a name, a row of floats and a row of corners
pub record ReadsBack (name : List ℕ) (vertices : List Float) (corners s : List ℕ) : Type 0 where
  pub is : s ≡ bare_bytes name vertices corners
  pub size : length s ≡ figure_size name vertices corners
  pub meets-rules : Meets s (bare name vertices corners)
  pub is-accepted : verdict s ≡ accepted (bare name vertices corners)
  -- its list is the six records, and nothing is skipped
  pub list : (row : List ℕ) → 6 * record_numbers ≤ length row →
      list_call flat_records s row ≡
      leaving (Ok record { records = 6; headers = 36; own = 5 + length name + 12 * triples vertices + 8 * triples corners; skipped = 0 })
      (filled (six_records (length name) (triples vertices) (triples corners)) row)
  -- it has one mesh, number 0
  pub one-mesh : (k : ℕ) → name_call s (suc k) ≡ Err (NoSuchMesh 1)
  -- the mesh's name, and what stands there
  pub name-at : name_call s 0 ≡ Ok record { offset = 18; size = length name }
  pub name-is : take (length name) (drop 18 s) ≡ name
  -- the mesh's tables, bit for bit
  pub tables : (rows : Rows Float ℕ Float) → length vertices ≤ length rows.vertices → length corners ≤ length rows.corners →
      tables_call in_numbers s 0 rows ≡
      leaving (Ok record { vertices = triples vertices; faces = triples corners; pairs = 0 })
      record { vertices = filled vertices rows.vertices; corners = filled corners rows.corners; mapping = rows.mapping }

-- WHAT IS WRITTEN READS BACK: for every name, rows and buffer that are not refused, the first `size` bytes of the buffer
abbrev pub WrittenReadsBack : Type 0
WrittenReadsBack = (name : List ℕ) (vertices : List Float) (corners out : List ℕ) (size : ℕ) → Floats32 vertices →
    (write_call name vertices corners out).answer ≡ Ok size → ReadsBack name vertices corners (take size (write_call name vertices corners out).rows)
