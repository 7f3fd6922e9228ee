-- What code asks of rows that fit is what is asked of the figure that they give.
use mathlib.Core.Path.{◌≡◌, refl, ap, ◌∙◌}
use Prim.Native.Nat.{ℕ, zero, suc, ◌+◌, ◌-◌, ◌*◌, ◌/◌, ◌<◌, ◌≤◌}
use native.Mathlib.Omega.{arith}
use mathlib.Core.List.{List, [], ◌∷◌, ◌++◌, append_assoc, append-nil}
use lib.Ieee.{binary32, to_bits, fits}
use lib.ListN.{length, length-map}
use Rattle.shared_words.specs.Conditions.{Condition}
use Rattle.studio_write_judge.specs.Judged.{triples}
use Rattle.studio_write.specs.ReadsBack.{Floats32}
use Rattle.studio_figure_rules.specs.Given as goal
use Rattle.studio_figure_rules.specs.Given.{Group, Object, Material, over}
use Rattle.studio_figure_rules.specs.Judged as judged
use Rattle.studio_figure_rules.specs.Judged.{group_size, smoothing_size, object_size, material_size, size_of, without_zero, is_label, differ, conditions}
use Rattle.shared_words.specs.Lists.{total}
use Rattle.studio_figure_rules.specs.Described.{Flat}
use Rattle.studio_figure_rules.proofs.AsBefore.{all-finite, first-finite}
use Rattle.studio_figure_rows.specs.Rows as rows
use Rattle.studio_figure_rows.specs.Rows.{entry, sum_to, run, part, name_at, object_count, group_count, group_at, object_at, material_at, figure_of}
use Rattle.studio_figure_rows.specs.Same.{Fits}
use Rattle.studio_figure_rows.proofs.Runs.{run-map, sum_inside, sum-up, part_length}
use Rattle.studio_figure_objects.specs.Asked as asked
use Rattle.studio_figure_objects.specs.Asked.{group_counts, counts, floats, group_indices, indices}
use Rattle.studio_figure_objects.specs.Sizes.{size_of_words, object_bytes}
use Rattle.studio_figure_judge.specs.Judged.{object_names, material_names, group_names, material_asked, names_asked, numbers, objects_asked, size_of_rows, size_asked}
use Rattle.studio_figure_judge.proofs.Things.{over_append, over_shift, over-same, total-same, runs_joined, every-part}

smoothing_words : (words : List ℕ) → smoothing_size words ≡ size_of_words (length words)
smoothing_words [] = refl
smoothing_words (w ∷ ws) = refl

-- the same conditions, joined in other pairs
in_order : (a b c d e g h i j k l : List Condition) →
    (a ++ b) ++ ((c ++ d) ++ (e ++ (g ++ (h ++ (i ++ (j ++ (k ++ (l ++ [])))))))) ≡ ((a ++ b) ++ ((c ++ d) ++ ((e ++ g) ++ h))) ++ ((i ++ (j ++ k)) ++ l)
in_order a b c d e g h i j k l = simp (append_assoc, append-nil)

module _ (r : Flat) (f : Fits r) where
  -- ---- where the rows of a group, of an object and of a material end

  pub group-faces : (g : ℕ) → g < group_count r → length (group_at r g).faces ≡ entry 2 1 r.groups g
  group-faces g h = part_length (sum_to 2 1 r.groups g) (entry 2 1 r.groups g) r.faces (omega (arith, f.faces, sum_inside 2 1 r.groups g (group_count r) h))

  group-name : (g : ℕ) → g < group_count r → length (group_at r g).name ≡ entry 2 0 r.groups g
  group-name g h =
      part_length (rows.groups_from r + sum_to 2 0 r.groups g) (entry 2 0 r.groups g) r.names (omega (arith, f.names, sum_inside 2 0 r.groups g (group_count r) h))

  material-name : (i : ℕ) → i < length r.materials → length (material_at r i).name ≡ entry 1 0 r.materials i
  material-name i h =
      part_length (rows.materials_from r + sum_to 1 0 r.materials i) (entry 1 0 r.materials i) r.names
      (omega (arith, f.names, sum_inside 1 0 r.materials i (length r.materials) h))

  module _ (i : ℕ) (h : i < object_count r) where
    object-name : length (object_at r i).name ≡ entry 5 0 r.objects i
    object-name =
        part_length (0 + sum_to 5 0 r.objects i) (entry 5 0 r.objects i) r.names (omega (arith, f.names, sum_inside 5 0 r.objects i (object_count r) h))

    pub object-vertices : length (object_at r i).vertices ≡ entry 5 1 r.objects i
    object-vertices =
        length-map (part (sum_to 5 1 r.objects i) (entry 5 1 r.objects i) r.vertices) (to_bits binary32) ∙
        part_length (sum_to 5 1 r.objects i) (entry 5 1 r.objects i) r.vertices (omega (arith, f.vertices, sum_inside 5 1 r.objects i (object_count r) h))

    pub object-corners : length (object_at r i).corners ≡ entry 5 2 r.objects i
    object-corners =
        part_length (sum_to 5 2 r.objects i) (entry 5 2 r.objects i) r.corners (omega (arith, f.corners, sum_inside 5 2 r.objects i (object_count r) h))

    object_words : length (object_at r i).smoothing ≡ entry 5 3 r.objects i
    object_words =
        part_length (sum_to 5 3 r.objects i) (entry 5 3 r.objects i) r.smoothing (omega (arith, f.smoothing, sum_inside 5 3 r.objects i (object_count r) h))

    pub groups_inside : sum_to 5 4 r.objects i + entry 5 4 r.objects i ≤ group_count r
    groups_inside = omega (arith, f.groups, sum_inside 5 4 r.objects i (object_count r) h)

    abbrev first : ℕ
    first = sum_to 5 4 r.objects i

    abbrev many : ℕ
    many = entry 5 4 r.objects i

    -- ---- 13, 11, 12 of an object

    group-counts : over judged.group_count (object_at r i).groups ≡ group_counts r.groups first many
    group-counts =
        let z : first + 0 ≡ first = omega arith in
        rw z at (over_shift judged.group_count (group_at r) (asked.group_count r.groups) first 0 many (λ k p q. rw (group-faces (first + k) (omega (arith, groups_inside)))))

    counts_same : judged.counts (object_at r i) ≡ counts r.objects r.groups i
    counts_same = rw (object-vertices, object-corners, object_words, group-counts)

    floats_same : Floats32 r.vertices → judged.floats (object_at r i) ≡ floats r.objects r.vertices i
    floats_same b =
        let row = part (sum_to 5 1 r.objects i) (entry 5 1 r.objects i) r.vertices in
        let c = every-part (fits binary32) (sum_to 5 1 r.objects i) (entry 5 1 r.objects i) r.vertices b in
        rw (all-finite row c, first-finite row c)

    group-indices : (n : ℕ) → over (judged.group_indices n) (object_at r i).groups ≡ group_indices r.groups r.faces n first many
    group-indices n =
        let z : first + 0 ≡ first = omega arith in
        rw z at (over_shift (judged.group_indices n) (group_at r) (asked.group_index r.groups r.faces n) first 0 many (λ k p q. refl))

    indices-same : judged.indices (object_at r i) ≡ indices r.objects r.corners r.groups r.faces i
    indices-same = rw (object-vertices, object-corners, group-indices (entry 5 2 r.objects i / 3))

    -- ---- its size

    group-sizes : (g n : ℕ) → g + n ≤ group_count r → total group_size (run (group_at r) g n) + (sum_to 2 0 r.groups g + 2 * sum_to 2 1 r.groups g) ≡ 9 * n + (sum_to 2 0 r.groups (g + n) + 2 * sum_to 2 1 r.groups (g + n))
    group-sizes g zero l = let a : g + 0 ≡ g = omega arith in rw a (omega arith)
    group-sizes g (suc n) l =
        let a : g + suc n ≡ suc g + n = omega arith in
        let ih = group-sizes (suc g) n (omega arith) in
        let u = group-name g (omega arith) in
        let v = group-faces g (omega arith) in
        rw a (omega arith)

    pub size_same : object_size (object_at r i) ≡ object_bytes r.objects r.groups i
    size_same =
        let g = group-sizes first many groups_inside in
        let x : triples (object_at r i).vertices ≡ entry 5 1 r.objects i / 3 = ap (λ (t : ℕ). t / 3) object-vertices in
        let y : triples (object_at r i).corners ≡ entry 5 2 r.objects i / 3 = ap (λ (t : ℕ). t / 3) object-corners in
        let w : smoothing_size (object_at r i).smoothing ≡ size_of_words (entry 5 3 r.objects i) = smoothing_words (object_at r i).smoothing ∙ ap size_of_words object_words in
        let up₀ = sum-up 2 0 r.groups first (first + many) (omega arith) in
        let up₁ = sum-up 2 1 r.groups first (first + many) (omega arith) in
        omega (arith, object-name)

  -- ---- all of them

  abbrev n : ℕ
  n = object_count r

  counts_all : over judged.counts (figure_of r).objects ≡ over (counts r.objects r.groups) (numbers r.objects)
  counts_all = over-same judged.counts (object_at r) (counts r.objects r.groups) 0 n (λ k p q. counts_same k (omega arith))

  floats-all : Floats32 r.vertices → over judged.floats (figure_of r).objects ≡ over (floats r.objects r.vertices) (numbers r.objects)
  floats-all b = over-same judged.floats (object_at r) (floats r.objects r.vertices) 0 n (λ k p q. floats_same k (omega arith) b)

  indices-all : over judged.indices (figure_of r).objects ≡ over (indices r.objects r.corners r.groups r.faces) (numbers r.objects)
  indices-all = over-same judged.indices (object_at r) (indices r.objects r.corners r.groups r.faces) 0 n (λ k p q. indices-same k (omega arith))

  material-sizes : (i m : ℕ) → i + m ≤ length r.materials → total material_size (run (material_at r) i m) + sum_to 1 0 r.materials i ≡ 58 * m + sum_to 1 0 r.materials (i + m)
  material-sizes i zero l = let a : i + 0 ≡ i = omega arith in rw a (omega arith)
  material-sizes i (suc m) l =
      let a : i + suc m ≡ suc i + m = omega arith in
      let ih = material-sizes (suc i) m (omega arith) in
      let u = material-name i (omega arith) in
      rw a (omega arith)

  pub size-all : size_of (figure_of r) ≡ size_of_rows r.objects r.groups r.materials
  size-all =
      let m = length r.materials in
      let z : 0 + m ≡ m = omega arith in
      let os = total-same object_size (object_at r) (object_bytes r.objects r.groups) 0 n (λ k p q. size_same k (omega arith)) in
      let ms = rw z at (material-sizes 0 m (omega arith)) in
      omega (arith, os)

  -- ---- names

  object-names : goal.object_names (figure_of r) ≡ object_names r.names r.objects
  object-names = run-map (object_at r) (λ (o : Object). o.name) 0 n

  material-names : goal.material_names (figure_of r) ≡ material_names r.names r.objects r.materials
  material-names = run-map (material_at r) (λ (m : Material). m.name) 0 (length r.materials)

  group-names : goal.all_group_names (figure_of r) ≡ group_names r.names r.objects r.materials r.groups
  group-names =
      let one = name_at 2 r.groups r.names (rows.groups_from r) in
      let z : sum_to 5 4 r.objects (0 + n) - 0 ≡ group_count r = let a : 0 + n ≡ n = omega arith in rw a (omega (arith, f.groups)) in
      runs_joined goal.group_names (object_at r) one 5 4 r.objects (λ i. run-map (group_at r) (λ (g : Group). g.name) (sum_to 5 4 r.objects i) (entry 5 4 r.objects i)) 0 n ∙
      ap (λ (k : ℕ). run one 0 k) z

  -- ---- the whole

  pub asked-same : Floats32 r.vertices → (room : ℕ) →
      conditions (figure_of r) room ≡
      names_asked r.names r.objects r.materials r.groups ++
      (objects_asked r.objects r.vertices r.corners r.groups r.faces ++ size_asked (size_of_rows r.objects r.groups r.materials) room)
  asked-same b room =
      let os = object_names r.names r.objects in
      let ms = material_names r.names r.objects r.materials in
      rw (object-names, material-names, group-names, counts_all, floats-all b, indices-all, size-all, over_append without_zero os ms, over_append is_label os ms)
      (in_order (over without_zero os) (over without_zero ms) (over is_label os) (over is_label ms) (differ [] os) (differ [] ms)
      (material_asked r.names r.objects r.materials r.groups)
      (over (counts r.objects r.groups) (numbers r.objects)) (over (floats r.objects r.vertices) (numbers r.objects))
      (over (indices r.objects r.corners r.groups r.faces) (numbers r.objects))
      (size_asked (size_of_rows r.objects r.groups r.materials) room))
