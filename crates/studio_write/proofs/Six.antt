-- Six chunks, by the own data of three of them: when they obey the rules, and what the reader gets of them.
use Rattle.std.specs.Prelude.{Ok, Err}
use mathlib.Core.Path.{◌≡◌, refl, ap, ◌∙◌}
use Prim.Native.Nat.{ℕ, suc, ◌+◌, ◌-◌, ◌*◌, ◌/◌, ◌≤◌}
use native.Mathlib.Omega.{arith}
use mathlib.Core.Bool.{true}
use mathlib.Core.List.{List, []}
use lib.Ieee.{Float}
use lib.ListN.{length}
use borrow.Author.Tests.{eqb-true, eq-eqb, le-leb}
use Rattle.shared_words.specs.declared.Refusal.TheVariants.{NoSuchMesh}
use Rattle.shared_words.specs.Lists.{every}
use Rattle.studio_rules.specs.Table.{rows, at_most_one_ids, at_least_one_ids, under, shape, plus, limits, needs}
use Rattle.shared_words.specs.Floats.{finite}
use Rattle.shared_words.specs.Labels.{fits_label}
use Rattle.studio_rules.specs.OwnData.{name_size, count, text, vertex_numbers, face_corners}
use Rattle.studio_rules.specs.Layout.{Run, figure}
use Rattle.studio_rules.specs.Rules.{Parent, file, is_in_place, not_twice, names_fit, own_data_exact, numbers_finite, face_numbers_below, father_earlier, all_below, children_in_plus, none_missing, corners_below, mapping_matches, Own, Children, Obeys}
use Rattle.studio_rules.specs.Gives.{record_numbers, owned, Mesh}
use Rattle.shared_words.specs.Conditions.{accepted}
use Rattle.studio_rules.specs.Walk.{verdict}
use Rattle.studio_rules.specs.Encodings.{flat_records}
use Rattle.shared_words.specs.Effects.{leaving, filled}
use Rattle.studio_rules.specs.Calls.{list_of, list_call, of_mesh, Rows, in_numbers, tables_of, tables_call, name_of, name_call}
use Rattle.shared_words.proofs.Bools.{both, and_parts}
use Rattle.studio_write_bytes.specs.Bare.{six_chunks}
use Rattle.studio_write.specs.ReadsBack.{six_records}

-- the rules of one chunk and of its children, in the order of the records
pub own_obeys : {p : Parent} {seen : List ℕ} {id : ℕ} {own : List ℕ} →
    is_in_place p id own ≡ true → not_twice p seen id ≡ true → names_fit p id own ≡ true → own_data_exact p id own ≡ true → numbers_finite p id own ≡ true →
    face_numbers_below p id own ≡ true → father_earlier p id own ≡ true → Own p seen id own
own_obeys a b c d e f g = record { in_place = a; not_twice_lem = b; names_fit_lem = c; own_data_exact_lem = d; numbers-finite = e; face-numbers-below = f; father_earlier_lem = g }

pub children_obey : {q : Parent} {kids : Run} → children_in_plus q kids ≡ true → none_missing q kids ≡ true → corners_below q kids ≡ true → mapping_matches q kids ≡ true → Children q kids
children_obey a b c d = record { in_plus = a; none-missing = b; corners-below = c; mapping_matches_lem = d }

module _ (name vertices faces : List ℕ) where
  -- what the rules ask of the own data
  pub record Exact : Type 0 where
    pub name-ends : name_size name ≡ length name
    pub name-fits : fits_label (text name) ≡ true
    pub vertices-exact : 2 + 12 * count vertices ≡ length vertices
    pub faces-exact : 2 + 8 * count faces ≡ length faces
    pub numbers-finite : every finite (vertex_numbers vertices) ≡ true
    pub corners-below : all_below (count vertices) (face_corners faces) ≡ true

  pub obeys : Exact → Obeys (file 0) [] (figure (six_chunks name vertices faces))
  unfolding every rows at_most_one_ids at_least_one_ids under shape plus limits needs
  obeys x =
      let top = own_obeys refl refl refl refl refl refl refl in
      let in-figure = children_obey refl refl refl refl in
      let scene = own_obeys refl refl refl refl refl refl refl in
      let in_scene = children_obey refl refl refl refl in
      let object = own_obeys refl refl x.name-fits (eq-eqb _ _ x.name-ends) refl refl refl in
      let in-object = children_obey refl refl refl refl in
      let mesh = own_obeys refl refl refl refl refl refl refl in
      let in-mesh = children_obey refl refl x.corners-below refl in
      let vertex-list = own_obeys refl refl refl (eq-eqb _ _ x.vertices-exact) (both _ _ x.numbers-finite refl) refl refl in
      let face-list = own_obeys refl refl refl (eq-eqb _ _ x.faces-exact) refl refl refl in
      let no-children = children_obey refl refl refl refl in
      let no-children' = children_obey refl refl refl refl in
      (top, in-figure, (scene, in_scene, (object, in-object, (mesh, in-mesh, (vertex-list, no-children, tt, (face-list, no-children', tt, tt)), tt), tt), tt), tt)

  pub exact : Obeys (file 0) [] (figure (six_chunks name vertices faces)) → Exact
  unfolding every rows at_most_one_ids at_least_one_ids under shape plus limits needs
  exact o =
      let object = o.2.2 in
      let mesh = object.2 in
      let lists = mesh.2 in
      record {
        name-ends = eqb-true _ _ object.0.own_data_exact_lem;
        name-fits = object.0.names_fit_lem;
        vertices-exact = eqb-true _ _ lists.0.own_data_exact_lem;
        faces-exact = eqb-true _ _ lists.3.0.own_data_exact_lem;
        numbers-finite = (and_parts _ _ lists.0.numbers-finite).0;
        corners-below = mesh.1.corners-below;
      }

  -- their one mesh
  abbrev pub mesh : Mesh
  mesh = record {
    name_at = 18;
    name_length = length name - 1;
    vertex_count = count vertices;
    vertices = vertex_numbers vertices;
    face_count = count faces;
    corners = face_corners faces;
    pair_count = 0;
    mapping = [];
  }

-- ---- the calls of the reader, of a file that is accepted with this layout

module _ (s name vertices faces : List ℕ) (e : verdict s ≡ accepted (six_chunks name vertices faces)) where
  pub name-call : name_call s 0 ≡ Ok record { offset = 18; size = length name - 1 }
  unfolding name_call
  name-call = ap (of_mesh Err name_of 0) e

  pub no_other : (k : ℕ) → name_call s (suc k) ≡ Err (NoSuchMesh 1)
  unfolding name_call
  no_other k = ap (of_mesh Err name_of (suc k)) e

  pub tables-call : (rows : Rows Float ℕ Float) → tables_call in_numbers s 0 rows ≡ tables_of in_numbers rows (mesh name vertices faces)
  unfolding tables_call
  tables-call rows = ap (of_mesh (λ r. leaving (Err r) rows) (tables_of in_numbers rows) 0) e

  pub list-call : (k n f : ℕ) → length name ≡ 1 + k → length vertices ≡ 2 + 12 * n → length faces ≡ 2 + 8 * f → (row : List ℕ) → 6 * record_numbers ≤ length row →
      list_call flat_records s row ≡
      leaving (Ok record { records = 6; headers = 36; own = 5 + k + 12 * n + 8 * f; skipped = 0 }) (filled (six_records k n f) row)
  unfolding list_call
  list-call k n f a b c row room =
      let own : owned (figure (six_chunks name vertices faces)) ≡ 5 + k + 12 * n + 8 * f = omega arith in
      let n₁ : 6 + (6 + (6 + length name + (6 + (6 + length vertices + 0 + (6 + length faces + 0 + 0)) + 0) + 0) + 0) ≡ 41 + k + 12 * n + 8 * f = omega arith in
      let n₂ : 6 + (6 + length name + (6 + (6 + length vertices + 0 + (6 + length faces + 0 + 0)) + 0) + 0) ≡ 35 + k + 12 * n + 8 * f = omega arith in
      let n₃ : 6 + length name + (6 + (6 + length vertices + 0 + (6 + length faces + 0 + 0)) + 0) ≡ 29 + k + 12 * n + 8 * f = omega arith in
      let n₄ : 6 + (6 + length vertices + 0 + (6 + length faces + 0 + 0)) ≡ 22 + 12 * n + 8 * f = omega arith in
      let o₆ : 12 + (6 + length name) + 6 + (6 + length vertices + 0) ≡ 33 + k + 12 * n = omega arith in
      let o₅ : 12 + (6 + length name) + 6 ≡ 25 + k = omega arith in
      let o₄ : 12 + (6 + length name) ≡ 19 + k = omega arith in
      let n₅ : 6 + length vertices + 0 ≡ 8 + 12 * n = omega arith in
      let n₆ : 6 + length faces + 0 ≡ 8 + 8 * f = omega arith in
      ap (list_of flat_records row) e ∙ rw (le-leb 6 (length row / record_numbers) (omega arith), own, n₁, n₂, n₃, n₄, o₆, o₅, o₄, n₅, n₆, a, b, c)
