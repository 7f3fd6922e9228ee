-- Rows that fit give the same figure by position as taken apart from the front.
use mathlib.Core.Path.{◌≡◌, refl, ap, ◌∙◌}
use Prim.Native.Nat.{ℕ, zero, suc, ◌+◌, ◌*◌, ◌<◌}
use native.Mathlib.Omega.{arith}
use mathlib.Core.Option.{none}
use mathlib.Core.List.{List, [], ◌∷◌, map}
use lib.Ieee.{binary32, to_bits}
use lib.ListN.{length, take, drop}
use lib.Seq.{drop-drop}
use borrow.Author.Tests.{eqb-true}
use Rattle.shared_words.specs.Conditions.{broken}
use Rattle.shared_words.proofs.Conditions.{met}
use Rattle.shared_words.specs.Lists.{total}
use Rattle.studio_figure_rules.specs.Described.{Flat, ObjectCounts, GroupCounts, objects_in, groups_in, object_name_bytes, material_name_bytes, group_name_bytes, groups_of, materials_of, fit_conditions, described}
use Rattle.studio_figure_rows.specs.Rows.{entry, sum_to, run, part, object_count, group_count, materials_from, groups_from, group_at, object_at, material_at, figure_of}
use Rattle.studio_figure_rows.specs.Same.{Fits, ByPosition}
use Rattle.studio_figure_rows.proofs.Runs.{run-part, run-same, sum_inside}
use Rattle.studio_figure_rows.proofs.Apart.{counts_at, group_counts_at, all-objects, all_groups, all_materials_lem, total-run, group_cut, groups_cut, material_cut, materials_cut, object_cut, objects-cut}

map-take : {A B : Type 0} (f : A → B) (n : ℕ) (s : List A) → take n (map f s) ≡ map f (take n s)
map-take f zero s = refl
map-take f (suc n) [] = refl
map-take f (suc n) (x ∷ s) = ap (λ l. f x ∷ l) (map-take f n s)

map-drop : {A B : Type 0} (f : A → B) (n : ℕ) (s : List A) → drop n (map f s) ≡ map f (drop n s)
map-drop f zero s = refl
map-drop f (suc n) [] = refl
map-drop f (suc n) (x ∷ s) = map-drop f n s

map-part : {A B : Type 0} (f : A → B) (at n : ℕ) (s : List A) → part at n (map f s) ≡ map f (part at n s)
map-part f at n s = ap (take n) (map-drop f at s) ∙ map-take f n (drop at s)

module _ (r : Flat) where
  pub object-total : (size : ObjectCounts → ℕ) (j : ℕ) → ((i : ℕ) → size (counts_at r.objects i) ≡ entry 5 j r.objects i) →
      total size (objects_in r) ≡ sum_to 5 j r.objects (object_count r)
  object-total size j e =
      let n = object_count r in
      let z : 0 + n ≡ n = omega arith in
      ap (total size) (all-objects n r.objects) ∙ omega (arith, rw z at (total-run size (counts_at r.objects) 5 j r.objects e 0 n))

  pub group-total : (size : GroupCounts → ℕ) (j : ℕ) → ((i : ℕ) → size (group_counts_at r.groups i) ≡ entry 2 j r.groups i) →
      total size (groups_in r) ≡ sum_to 2 j r.groups (group_count r)
  group-total size j e =
      let n = group_count r in
      let z : 0 + n ≡ n = omega arith in
      ap (total size) (all_groups n r.groups) ∙ omega (arith, rw z at (total-run size (group_counts_at r.groups) 2 j r.groups e 0 n))

  pub object-names : object_name_bytes r ≡ materials_from r
  object-names = object-total (λ (c : ObjectCounts). c.name) 0 (λ i. refl)

  pub material-names : material_name_bytes r ≡ sum_to 1 0 r.materials (length r.materials)
  material-names =
      let n = length r.materials in
      let z : 0 + n ≡ n = omega arith in
      ap (total (λ n. n)) (all_materials_lem r.materials) ∙
      omega (arith, rw z at (total-run (λ n. n) (entry 1 0 r.materials) 1 0 r.materials (λ i. refl) 0 n))

  pub group-names : group_name_bytes r ≡ sum_to 2 0 r.groups (group_count r)
  group-names = group-total (λ (c : GroupCounts). c.name) 0 (λ i. refl)

  fit : broken (fit_conditions r) ≡ none → Fits r
  fit b =
      let m = met (fit_conditions r) b in
      let m₂ = m.1.1.1 in
      let g = eqb-true _ _ m.1.0 ∙ ap (λ (t : ℕ). 2 * t) (object-total (λ (c : ObjectCounts). c.groups) 4 (λ i. refl)) in
      let n : length r.names ≡ object_name_bytes r + (material_name_bytes r + group_name_bytes r) = eqb-true _ _ m.1.1.0 in
      record {
        objects = eqb-true _ _ m.0;
        groups = g;
        names = omega (arith, n, object-names, material-names, group-names);
        vertices = eqb-true _ _ m₂.0 ∙ object-total (λ (c : ObjectCounts). c.floats) 1 (λ i. refl);
        corners = eqb-true _ _ m₂.1.0 ∙ object-total (λ (c : ObjectCounts). c.corners) 2 (λ i. refl);
        smoothing = eqb-true _ _ m₂.1.1.0 ∙ object-total (λ (c : ObjectCounts). c.smoothing) 3 (λ i. refl);
        faces = eqb-true _ _ m₂.1.1.1.0 ∙ group-total (λ (c : GroupCounts). c.faces) 1 (λ i. refl);
        colours = eqb-true _ _ m₂.1.1.1.1.0;
      }

  groups_at_lem : groups_of (groups_in r) (drop (object_name_bytes r + material_name_bytes r) r.names) r.faces ≡ run (group_at r) 0 (group_count r)
  groups_at_lem =
      let from = groups_from r in
      let a : object_name_bytes r + material_name_bytes r ≡ from = omega (arith, object-names, material-names) in
      rw (a, all_groups (group_count r) r.groups)
      (groups_cut r.groups (drop from r.names) r.faces 0 (group_count r) ∙
      run-same (group_cut r.groups (drop from r.names) r.faces) (group_at r) 0 (group_count r)
      (λ k _ _. rw (drop-drop (sum_to 2 0 r.groups k) from r.names)))

  materials_at_lem : materials_of r.materials (drop (object_name_bytes r) r.names) r.colours ≡ run (material_at r) 0 (length r.materials)
  materials_at_lem =
      let from = materials_from r in
      let n = length r.materials in
      let names = drop from r.names in
      ap (λ (t : ℕ). materials_of r.materials (drop t r.names) r.colours) object-names ∙
      ap (λ (l : List ℕ). materials_of l names r.colours) (all_materials_lem r.materials) ∙
      materials_cut r.materials names r.colours 0 n ∙
      run-same (material_cut r.materials names r.colours) (material_at r) 0 n
      (λ k _ _. rw (drop-drop (sum_to 1 0 r.materials k) from r.names))

  same-figure : Fits r → described r ≡ figure_of r
  same-figure f =
      let n = object_count r in
      let bits = map (to_bits binary32) r.vertices in
      let gs = run (group_at r) 0 (group_count r) in
      let cut = object_cut r.objects r.names bits r.corners r.smoothing gs in
      let each : (k : ℕ) → k < 0 + n → cut k ≡ object_at r k = λ k h.
      let inside = sum_inside 5 4 r.objects k n (omega arith) in
      let z : 0 + sum_to 5 0 r.objects k ≡ sum_to 5 0 r.objects k = omega arith in
      rw (z, map-part (to_bits binary32) (sum_to 5 1 r.objects k) (entry 5 1 r.objects k) r.vertices, run-part (group_at r) (sum_to 5 4 r.objects k) (entry 5 4 r.objects k) (group_count r) (omega (arith, f.groups))) in
      rw (groups_at_lem, materials_at_lem, all-objects n r.objects, objects-cut r.objects r.names bits r.corners r.smoothing gs 0 n, run-same cut (object_at r) 0 n (λ k _ h. each k h))

  pub by_position : ByPosition r
  by_position = record { fits = fit; same = same-figure }
