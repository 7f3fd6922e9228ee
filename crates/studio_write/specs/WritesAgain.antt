-- Writing again what was read: of every accepted file of just the six chunks, in their order and with flag words 0, it
-- gives the same file.
use Rattle.std.specs.Prelude.{◌≡◌, ℕ, zero, suc, ◌*◌, ◌≤◌, true, List, [], ◌∷◌, map, eqb, Float, length, take, drop, Ok}
use Rattle.studio_rules.specs.declared.Record.{Record}
use Rattle.studio_rules.specs.declared.Sizes.{Sizes}
use Rattle.studio_rules.specs.declared.Span.{Span}
use Rattle.shared_words.specs.Bytes.{value, Bytes}
use Rattle.shared_words.specs.Lists.{every}
use Rattle.studio_rules.specs.OwnData.{count}
use Rattle.studio_rules.specs.Layout.{Run, figure}
use Rattle.shared_words.specs.Conditions.{accepted}
use Rattle.studio_rules.specs.Walk.{verdict}
use Rattle.studio_rules.specs.Gives.{list, skipped}
use Rattle.shared_words.specs.Effects.{leaving, filled}
use Rattle.studio_rules.specs.Calls.{Rows, in_numbers, tables_call, name_call}
use Rattle.studio_write_bytes.specs.Bare.{six_chunks}
use Rattle.studio_write.specs.Write.{write_call}

-- JUST THESE SIX CHUNKS, in this order: an accepted file whose list has their identifiers, and of which nothing is
-- skipped, has the layout `six_chunks`.
abbrev pub JustSix : Type 0
JustSix = (s : List ℕ) → Bytes s → (kids : Run) → verdict s ≡ accepted kids →
    map (λ (r : Record). r.identifier) (list kids) ≡ 0x4D4D ∷ 0x3D3D ∷ 0x4000 ∷ 0x4100 ∷ 0x4110 ∷ 0x4120 ∷ [] → skipped (figure kids) ≡ 0 →
    (name : List ℕ) × (vertices : List ℕ) × (faces : List ℕ) × (kids ≡ six_chunks name vertices faces)

-- the flag words of f faces, and of the own data of a 4120
abbrev pub flags : ℕ → List ℕ → List ℕ
flags zero s = []
flags (suc f) s = value (take 2 (drop 6 s)) ∷ flags f (drop 8 s)

abbrev pub face_flags : List ℕ → List ℕ
face_flags own = flags (count own) (drop 2 own)

-- A name, floats and corners WERE READ of mesh 0 of the file s: the name stands where the reader says, and the rows are
-- what it filled of the lent ones.
pub record WereRead (s name : List ℕ) (vertices : List Float) (corners : List ℕ) : Type 0 where
  pub span : Span
  pub name-at : name_call s 0 ≡ Ok span
  pub name-is : name ≡ take span.size (drop span.offset s)
  pub rows : Rows Float ℕ Float
  pub sizes : Sizes
  pub rows-filled : (tables_call in_numbers s 0 rows).answer ≡ Ok sizes
  pub vertices_are : vertices ≡ take (3 * sizes.vertices) (tables_call in_numbers s 0 rows).rows.vertices
  pub corners_are : corners ≡ take (3 * sizes.faces) (tables_call in_numbers s 0 rows).rows.corners

-- WRITING AGAIN gives the same file, where there is room for it
abbrev pub WritesAgain : Type 0
WritesAgain = (s : List ℕ) → Bytes s → (name_own vertex_own face_own : List ℕ) → verdict s ≡ accepted (six_chunks name_own vertex_own face_own) →
    every (λ flag. eqb flag 0) (face_flags face_own) ≡ true →
    (name : List ℕ) (vertices : List Float) (corners : List ℕ) → WereRead s name vertices corners →
    (out : List ℕ) → length s ≤ length out → write_call name vertices corners out ≡ leaving (Ok (length s)) (filled s out)
