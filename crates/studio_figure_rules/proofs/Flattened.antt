-- Rows laid flat and taken apart again: each part is cut off at its own length.
use mathlib.Core.Path.{◌≡◌, refl, sym, ap, ◌∙◌}
use Prim.Native.Nat.{ℕ, ◌+◌, ◌*◌, ◌/◌, ◌%◌, ◌^◌}
use native.Mathlib.Omega.{arith}
use mathlib.Core.Bool.{true}
use mathlib.Core.List.{List, [], ◌∷◌, ◌++◌, map, append_assoc}
use mathlib.Core.Option.{none}
use lib.Ieee.{binary32, to_bits}
use lib.ListN.{length, drop, length-append, length-map}
use lib.Seq.{drop_at, drop-drop, take-append_seam, drop-append_seam}
use borrow.Author.Tests.{eq-eqb}
use Rattle.shared_words.specs.Lists.{every, total}
use Rattle.studio_rules.specs.Rules.{all_below}
use Rattle.shared_words.specs.Floats.{float}
use Rattle.shared_words.specs.Conditions.{broken}
use Rattle.shared_words.proofs.Bools.{and_parts}
use Rattle.shared_words.proofs.Conditions.{unbroken}
use Rattle.studio_write.proofs.Floats.{patterns_back}
use Rattle.studio_figure_rules.specs.Given.{Group, Object, Material, Figure, over, colours, Bits32}
use Rattle.studio_figure_rules.specs.Described.{Flat, ObjectCounts, GroupCounts, object_counts, group_counts, objects_in, groups_in, objects_of, groups_of, materials_of, object_name_bytes, material_name_bytes, group_name_bytes, fit_conditions, described}
use Rattle.studio_figure_rules.specs.Flattened.{groups_over, object_numbers, group_numbers, flattened, FiniteFloats, GivenFlat}
use Rattle.studio_figure_rules.proofs.Lists.{every-both}

-- ---- the numbers say how long each part is

abbrev counts_of : Object → ObjectCounts
counts_of o = record { name = length o.name; floats = length o.vertices; corners = length o.corners; smoothing = length o.smoothing; groups = length o.groups }

abbrev group_counts_of : Group → GroupCounts
group_counts_of g = record { name = length g.name; faces = length g.faces }

object-numbers : (os : List Object) → object_counts (length os) (over object_numbers os) ≡ map counts_of os
object-numbers [] = refl
object-numbers (o ∷ os) = ap (λ (cs : List ObjectCounts). counts_of o ∷ cs) (object-numbers os)

five : (os : List Object) → length (over object_numbers os) ≡ 5 * length os
five [] = refl
five (o ∷ os) = omega (arith, five os)

group-numbers : (gs : List Group) → group_counts (length gs) (over group_numbers gs) ≡ map group_counts_of gs
group-numbers [] = refl
group-numbers (g ∷ gs) = ap (λ (cs : List GroupCounts). group_counts_of g ∷ cs) (group-numbers gs)

two : (gs : List Group) → length (over group_numbers gs) ≡ 2 * length gs
two [] = refl
two (g ∷ gs) = omega (arith, two gs)

objects_in_lem : (f : Figure) → objects_in (flattened f) ≡ map counts_of f.objects
objects_in_lem f =
    let n : length (over object_numbers f.objects) / 5 ≡ length f.objects = omega (arith, five f.objects) in
    ap (λ (k : ℕ). object_counts k (over object_numbers f.objects)) n ∙ object-numbers f.objects

groups_in_lem : (f : Figure) → groups_in (flattened f) ≡ map group_counts_of (groups_over f.objects)
groups_in_lem f =
    let gs = groups_over f.objects in
    let n : length (over group_numbers gs) / 2 ≡ length gs = omega (arith, two gs) in
    ap (λ (k : ℕ). group_counts k (over group_numbers gs)) n ∙ group-numbers gs

-- ---- lengths add up

-- a total over counts is the length of the row
total-over : {A C B : Type 0} (count : A → C) (number : C → ℕ) (row : A → List B) → ((x : A) → number (count x) ≡ length (row x)) → (xs : List A) →
    total number (map count xs) ≡ length (over row xs)
total-over count number row h [] = refl
total-over count number row h (x ∷ xs) = omega (arith, h x, total-over count number row h xs, length-append (row x) (over row xs))

-- ---- cutting

abbrev name_row : Object → List ℕ
name_row o = o.name

abbrev vertex_row : Object → List ℕ
vertex_row o = o.vertices

abbrev corner_row : Object → List ℕ
corner_row o = o.corners

abbrev smoothing_row : Object → List ℕ
smoothing_row o = o.smoothing

abbrev group_row : Object → List Group
group_row o = o.groups

groups_cut : (gs : List Group) → groups_of (map group_counts_of gs) (over (λ (g : Group). g.name) gs) (over (λ (g : Group). g.faces) gs) ≡ gs
groups_cut [] = refl
groups_cut (g ∷ gs) =
    let names = over (λ (g : Group). g.name) gs in
    let faces = over (λ (g : Group). g.faces) gs in
    rw (take-append_seam g.name names, drop-append_seam g.name names, take-append_seam g.faces faces, drop-append_seam g.faces faces, groups_cut gs)

materials_cut : (ms : List Material) (more : List ℕ) → materials_of (map (λ (m : Material). length m.name) ms) (over (λ (m : Material). m.name) ms ++ more) (over colours ms) ≡ ms
materials_cut [] more = refl
materials_cut (m ∷ ms) more =
    let names = over (λ (m : Material). m.name) ms in
    rw (append_assoc m.name names more, take-append_seam m.name (names ++ more), drop-append_seam m.name (names ++ more), materials_cut ms more)

objects-cut : (os : List Object) (more : List ℕ) →
    objects_of (map counts_of os) (over name_row os ++ more) (over vertex_row os) (over corner_row os) (over smoothing_row os) (over group_row os) ≡ os
objects-cut [] more = refl
objects-cut (o ∷ os) more =
    let names = over name_row os in
    let vertices = over vertex_row os in
    let corners = over corner_row os in
    let smoothing = over smoothing_row os in
    let groups = over group_row os in
    rw (
      append_assoc o.name names more,
      take-append_seam o.name (names ++ more),
      drop-append_seam o.name (names ++ more),
      take-append_seam o.vertices vertices,
      drop-append_seam o.vertices vertices,
      take-append_seam o.corners corners,
      drop-append_seam o.corners corners,
      take-append_seam o.smoothing smoothing,
      drop-append_seam o.smoothing smoothing,
      take-append_seam o.groups groups,
      drop-append_seam o.groups groups,
      objects-cut os more,
    )

-- ---- the figure

bits-over : (os : List Object) → every (λ (o : Object). all_below (256 ^ 4) o.vertices) os ≡ true → all_below (256 ^ 4) (over vertex_row os) ≡ true
unfolding every
bits-over [] h = refl
bits-over (o ∷ os) h =
    let k = and_parts (all_below (256 ^ 4) o.vertices) _ h in
    every-both _ o.vertices (over vertex_row os) k.0 (bits-over os k.1)

objects_alike : {cs cs' : List ObjectCounts} {ds ds' : List GroupCounts} {l l' v v' : List ℕ} (names corners smoothing faces : List ℕ) → cs ≡ cs' → v ≡ v' → ds ≡ ds' → l ≡ l' →
    objects_of cs names v corners smoothing (groups_of ds l faces) ≡ objects_of cs' names v' corners smoothing (groups_of ds' l' faces)
objects_alike names corners smoothing faces a b c d = cc

pub figures_alike : {f g : Figure} → f.objects ≡ g.objects → f.materials ≡ g.materials → f ≡ g
figures_alike {f} {g} a b = made a b
  where
    made : {os ps : List Object} {ms ns : List Material} → os ≡ ps → ms ≡ ns → ◌≡◌ {A = Figure} (record { objects = os; materials = ms }) (record { objects = ps; materials = ns })
    made a b = cc

module _ (f : Figure) where
  abbrev os : List Object
  os = f.objects

  abbrev gs : List Group
  gs = groups_over f.objects

  abbrev ms : List Material
  ms = f.materials

  abbrev rows : Flat
  rows = flattened f

  abbrev group_part : List ℕ
  group_part = over (λ (g : Group). g.name) gs

  abbrev material_part : List ℕ
  material_part = over (λ (m : Material). m.name) ms

  objects-total : {B : Type 0} (number : ObjectCounts → ℕ) (row : Object → List B) → ((o : Object) → number (counts_of o) ≡ length (row o)) →
      total number (objects_in rows) ≡ length (over row os)
  objects-total number row h = ap (total number) (objects_in_lem f) ∙ total-over counts_of number row h os

  groups_total : {B : Type 0} (number : GroupCounts → ℕ) (row : Group → List B) → ((g : Group) → number (group_counts_of g) ≡ length (row g)) →
      total number (groups_in rows) ≡ length (over row gs)
  groups_total number row h = ap (total number) (groups_in_lem f) ∙ total-over group_counts_of number row h gs

  object-name-bytes : object_name_bytes rows ≡ length (over name_row os)
  object-name-bytes = objects-total (λ (c : ObjectCounts). c.name) name_row (λ o. refl)

  material-name-bytes : material_name_bytes rows ≡ length material_part
  material-name-bytes = total-over (λ (m : Material). length m.name) (λ n. n) (λ (m : Material). m.name) (λ m. refl) ms

  group-name-bytes : group_name_bytes rows ≡ length group_part
  group-name-bytes = groups_total (λ (c : GroupCounts). c.name) (λ (g : Group). g.name) (λ g. refl)

  nine : (xs : List Material) → length (over colours xs) ≡ 9 * length (map (λ (m : Material). length m.name) xs)
  nine [] = refl
  nine (m ∷ xs) = omega (arith, nine xs)

  rows_fit : broken (fit_conditions rows) ≡ none
  rows_fit =
      let objects : length rows.objects % 5 ≡ 0 = omega (arith, five os) in
      let groups : length rows.groups ≡ 2 * total (λ (c : ObjectCounts). c.groups) (objects_in rows) =
      omega (arith, two gs, objects-total (λ (c : ObjectCounts). c.groups) group_row (λ o. refl)) in
      let names : length rows.names ≡ object_name_bytes rows + (material_name_bytes rows + group_name_bytes rows) =
      omega (arith, object-name-bytes, material-name-bytes, group-name-bytes, length-append (over name_row os) (material_part ++ group_part), length-append material_part group_part) in
      let vertices : length rows.vertices ≡ total (λ (c : ObjectCounts). c.floats) (objects_in rows) =
      omega (arith, length-map (over vertex_row os) float, objects-total (λ (c : ObjectCounts). c.floats) vertex_row (λ o. refl)) in
      let corners = sym (objects-total (λ (c : ObjectCounts). c.corners) corner_row (λ o. refl)) in
      let smoothing = sym (objects-total (λ (c : ObjectCounts). c.smoothing) smoothing_row (λ o. refl)) in
      let faces = sym (groups_total (λ (c : GroupCounts). c.faces) (λ (g : Group). g.faces) (λ g. refl)) in
      unbroken (fit_conditions rows) (
        eq-eqb _ _ objects,
        (
          eq-eqb _ _ groups,
          (eq-eqb _ _ names, (eq-eqb _ _ vertices, (eq-eqb _ _ corners, (eq-eqb _ _ smoothing, (eq-eqb _ _ faces, (eq-eqb _ _ (nine ms), tt)))))),
        ),
      )

  behind-objects : drop (object_name_bytes rows) rows.names ≡ material_part ++ group_part
  behind-objects = drop_at (over name_row os) (material_part ++ group_part) (object_name_bytes rows) (sym object-name-bytes)

  behind_materials : drop (object_name_bytes rows + material_name_bytes rows) rows.names ≡ group_part
  behind_materials =
      sym (drop-drop (material_name_bytes rows) (object_name_bytes rows) rows.names) ∙ ap (drop (material_name_bytes rows)) behind-objects ∙
      drop_at material_part group_part (material_name_bytes rows) (sym material-name-bytes)

  same-figure : Bits32 f → FiniteFloats f → described rows ≡ f
  same-figure b h =
      let v : map (to_bits binary32) (map float (over vertex_row os)) ≡ over vertex_row os = patterns_back (over vertex_row os) (bits-over os b) h in
      let objects : (described rows).objects ≡ os =
      objects_alike rows.names rows.corners rows.smoothing rows.faces (objects_in_lem f) v (groups_in_lem f) behind_materials ∙
      ap (objects_of (map counts_of os) rows.names (over vertex_row os) rows.corners rows.smoothing) (groups_cut gs) ∙
      objects-cut os (material_part ++ group_part) in
      let materials : (described rows).materials ≡ ms = ap (λ (l : List ℕ). materials_of rows.materials l rows.colours) behind-objects ∙ materials_cut ms group_part in
      figures_alike objects materials

pub given-flat : (f : Figure) → GivenFlat f
given-flat f = record { fits = rows_fit f; same = same-figure f }
