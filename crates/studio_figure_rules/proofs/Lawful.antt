-- Each kind of chunk of a figure is lawful where it stands; and so a figure that is ready obeys the rules, whatever the
-- version: no 4140 is written.
use mathlib.Core.Path.{◌≡◌, refl}
use Prim.Native.Nat.{ℕ, ◌+◌, ◌*◌, ◌≤◌}
use native.Mathlib.Omega.{arith}
use mathlib.Core.Bool.{true}
use mathlib.Core.List.{List, [], ◌∷◌}
use lib.ListN.{length, drop}
use borrow.Author.Tests.{eq-eqb, le-leb}
use Rattle.shared_words.specs.Bytes.{packed}
use Rattle.shared_words.specs.Lists.{every, All}
use Rattle.studio_rules.specs.Table.{rows, at_most_one_ids, at_least_one_ids, under, shape, plus, limits, needs}
use Rattle.studio_rules.specs.OwnData.{name_size, text, count, vertex_numbers, face_corners, face_numbers}
use Rattle.shared_words.specs.Labels.{fits_label}
use Rattle.shared_words.specs.Floats.{finite}
use Rattle.studio_rules.specs.Layout.{Run, end, known, figure}
use Rattle.studio_rules.specs.Rules.{Parent, file, not_twice, all_below, tally, Obeys}
use Rattle.shared_words.proofs.Bools.{both}
use Rattle.shared_words.proofs.Bytes.{length-packed}
use Rattle.studio_write_judge.specs.Judged.{triples, not_zero}
use Rattle.studio_write_bytes.specs.Bare.{name_data, face_data}
use Rattle.studio_write_bytes.proofs.Bare.{length-face_data}
use Rattle.studio_write.proofs.Six.{own_obeys, children_obey}
use Rattle.studio_write.proofs.Unpacked.{name-size, name-text}
use Rattle.studio_figure_rules.specs.Given.{Group, Object, Colour, Material, Figure, rgb}
use Rattle.studio_figure_rules.specs.Built.{vertex_list, group_data, each, group_chunk, smoothing_chunk, face_children, mesh_children, object_chunk, material_children, material_chunk, layout}
use Rattle.studio_figure_rules.specs.Judged.{none_or_each}
use Rattle.studio_figure_rules.proofs.Lists.{all_map}
use Rattle.studio_figure_rules.proofs.Ready.{GroupReady, ObjectReady, MaterialReady}
use Rattle.studio_figure_rules.proofs.OwnData.{vertex-count, face-count, length-vertices, vertex-numbers, face-corners, length-name_data, group-name, group-text, group-count, length-group, group-faces, one-a-face}

-- chunks of one identifier, one after another, behind children of which `Before` holds
obeys-each : {A : Type 0} (p : Parent) (id : ℕ) (Before : List ℕ → Type 0) (chunk : A → Run → Run) (xs : List A) (rest : Run) →
    ((seen : List ℕ) → Before seen → Before (id ∷ seen)) → All (λ x. (seen : List ℕ) (more : Run) → Before seen → Obeys p (id ∷ seen) more → Obeys p seen (chunk x more)) xs →
    ((seen : List ℕ) → Before seen → Obeys p seen rest) → (seen : List ℕ) → Before seen → Obeys p seen (each chunk xs rest)
obeys-each p id Before chunk [] rest keeps a h seen b = h seen b
obeys-each p id Before chunk (x ∷ xs) rest keeps a h seen b =
    a.0 seen (each chunk xs rest) b (obeys-each p id Before chunk xs rest keeps a.1 h (id ∷ seen) (keeps seen b))

-- in a 3D3D any may stand before
abbrev Any : List ℕ → Type 0
Any seen = Unit

-- a name that is ready fits the label
name-fits : (name : List ℕ) → every not_zero name ≡ true → fits_label name ≡ true → fits_label (text (name_data name)) ≡ true
name-fits name z h = rw (name-text name [] z) h

colour-obeys : (p : Parent) (c : Colour) → under p.id 0x0011 ≡ true → not_twice p [] 0x0011 ≡ true → Obeys p [] (known 0x0011 (rgb c) end end)
unfolding every rows at_most_one_ids at_least_one_ids shape plus limits needs
colour-obeys p c u t = (own_obeys u t refl refl refl refl refl, children_obey refl refl refl refl, tt, tt)

module _ (version : ℕ) where
  abbrev in_chunk_lem : ℕ → List ℕ → ℕ → Parent
  in_chunk_lem id own order = record { id = id; own = own; order = order; version = version }

  abbrev in_scene : Parent
  in_scene = in_chunk_lem 0x3D3D [] 0

  -- ---- a material

  module _ (m : Material) (r : MaterialReady m) where
    material-children : (order : ℕ) → Obeys (in_chunk_lem 0xAFFF [] order) [] (material_children m)
    unfolding every rows at_most_one_ids at_least_one_ids under shape plus limits needs
    material-children order =
        let name = own_obeys refl refl (name-fits m.name r.no_zero r.text) (eq-eqb _ _ (name-size m.name r.no_zero)) refl refl refl in
        let in-name = children_obey refl refl refl refl in
        let in-ambient = children_obey refl refl refl refl in
        let in-diffuse = children_obey refl refl refl refl in
        let in-specular = children_obey refl refl refl refl in
        let ambient = own_obeys refl refl refl refl refl refl refl in
        let diffuse = own_obeys refl refl refl refl refl refl refl in
        let specular = own_obeys refl refl refl refl refl refl refl in (
          name,
          in-name,
          tt,
          (
            ambient,
            in-ambient,
            colour-obeys _ m.ambient refl refl,
            (diffuse, in-diffuse, colour-obeys _ m.diffuse refl refl, (specular, in-specular, colour-obeys _ m.specular refl refl, tt)),
          ),
        )

    material-obeys : (seen : List ℕ) (rest : Run) → Any seen → Obeys in_scene (0xAFFF ∷ seen) rest → Obeys in_scene seen (material_chunk m rest)
    unfolding every rows at_most_one_ids at_least_one_ids under shape plus limits needs
    material-obeys seen rest b h = (own_obeys refl refl refl refl refl refl refl, children_obey refl refl refl refl, material-children (tally (0xAFFF ∷ []) seen), h)

  -- ---- what stands in a 4120

  -- no smoothing words yet
  abbrev Unsmoothed : List ℕ → Type 0
  Unsmoothed seen = tally (0x4150 ∷ []) seen ≡ 0

  module _ (o : Object) (r : ObjectReady o) where
    abbrev in_faces : Parent
    in_faces = in_chunk_lem 0x4120 (face_data o.corners) 0

    group-obeys : (g : Group) → GroupReady (triples o.corners) g → (seen : List ℕ) (rest : Run) → Unsmoothed seen → Obeys in_faces (0x4130 ∷ seen) rest → Obeys in_faces seen (group_chunk g rest)
    unfolding every rows at_most_one_ids at_least_one_ids under shape plus limits needs
    group-obeys g q seen rest b h =
        let few = r.few-corners in
        let fits : fits_label (text (group_data g)) ≡ true = rw (group-text (triples o.corners) g q) q.text in
        let exact : name_size (group_data g) + 2 + 2 * count (drop (name_size (group_data g)) (group_data g)) ≡ length (group_data g) =
        omega (arith, group-name (triples o.corners) g q, group-count (triples o.corners) g q, length-group g, length-name_data g.name) in
        let below : all_below (count (face_data o.corners)) (face_numbers (group_data g)) ≡ true = rw (face-count o r, group-faces (triples o.corners) g q (omega arith)) q.below in
        let once : tally (0x4150 ∷ []) (0x4130 ∷ seen) ≤ 1 = omega arith in
        (own_obeys refl (both _ _ (le-leb _ _ once) refl) fits (eq-eqb _ _ exact) refl below refl, children_obey refl refl refl refl, tt, h)

    smoothing_obeys : (words : List ℕ) → none_or_each (length words) (triples o.corners) ≡ true → (seen : List ℕ) → Unsmoothed seen → Obeys in_faces seen (smoothing_chunk words)
    unfolding every rows at_most_one_ids at_least_one_ids under shape plus limits needs
    smoothing_obeys [] h seen b = tt
    smoothing_obeys (w ∷ ws) h seen b =
        let exact : 4 * count (face_data o.corners) ≡ length (packed 4 (w ∷ ws)) =
        omega (arith, face-count o r, length-packed 4 (w ∷ ws), one-a-face (length ws) (triples o.corners) h) in
        let once : tally (0x4150 ∷ []) (0x4150 ∷ seen) ≤ 1 = omega arith in
        (own_obeys refl (both _ _ (le-leb _ _ once) refl) refl (eq-eqb _ _ exact) refl refl refl, children_obey refl refl refl refl, tt, tt)

    faces_obey : Obeys in_faces [] (face_children o)
    faces_obey =
        obeys-each in_faces 0x4130 Unsmoothed group_chunk o.groups (smoothing_chunk o.smoothing) (λ seen b. omega arith)
        (all_map group-obeys o.groups r.groups_ready) (smoothing_obeys o.smoothing r.words) [] refl

    -- ---- an object

    mesh-obeys : (order : ℕ) → Obeys (in_chunk_lem 0x4100 [] order) [] (mesh_children o)
    unfolding every rows at_most_one_ids at_least_one_ids under shape plus limits needs
    mesh-obeys order =
        let vertices-exact : 2 + 12 * count (vertex_list o.vertices) ≡ length (vertex_list o.vertices) = omega (arith, vertex-count o r, length-vertices o r) in
        let numbers : every finite (vertex_numbers (vertex_list o.vertices)) ≡ true = rw (vertex-numbers o r) r.finite-bits in
        let faces-exact : 2 + 8 * count (face_data o.corners) ≡ length (face_data o.corners) = omega (arith, face-count o r, length-face_data o.corners) in
        let vertices = own_obeys refl refl refl (eq-eqb _ _ vertices-exact) (both _ _ numbers refl) refl refl in
        let faces = own_obeys refl refl refl (eq-eqb _ _ faces-exact) refl refl refl in
        (vertices, children_obey refl refl refl refl, tt, (faces, children_obey refl refl refl refl, faces_obey, tt))

    object-obeys : (seen : List ℕ) (rest : Run) → Any seen → Obeys in_scene (0x4000 ∷ seen) rest → Obeys in_scene seen (object_chunk o rest)
    unfolding every rows at_most_one_ids at_least_one_ids under shape plus limits needs
    object-obeys seen rest b h =
        let object = own_obeys refl refl (name-fits o.name r.no_zero r.text) (eq-eqb _ _ (name-size o.name r.no_zero)) refl refl refl in
        let below : all_below (count (vertex_list o.vertices)) (face_corners (face_data o.corners)) ≡ true = rw (vertex-count o r, face-corners o r) r.below in
        let mesh = own_obeys refl refl refl refl refl refl refl in
        (object, children_obey refl refl refl refl, (mesh, children_obey refl refl below refl, mesh-obeys 0, tt), h)

  -- ---- the figure

  pub obeys-figure : (f : Figure) → All ObjectReady f.objects → All MaterialReady f.materials → Obeys (file version) [] (figure (layout f))
  unfolding every rows at_most_one_ids at_least_one_ids under shape plus limits needs
  obeys-figure f os ms =
      let objects = obeys-each in_scene 0x4000 Any object_chunk f.objects end (λ seen b. b) (all_map object-obeys f.objects os) (λ seen b. tt) in
      let scene =
      obeys-each in_scene 0xAFFF Any material_chunk f.materials (each object_chunk f.objects end) (λ seen b. b) (all_map material-obeys f.materials ms) objects [] tt in
      let top = own_obeys refl refl refl refl refl refl refl in
      let in_top = children_obey refl refl refl refl in
      (top, in_top, (own_obeys refl refl refl refl refl refl refl, children_obey refl refl refl refl, scene, tt), tt)
