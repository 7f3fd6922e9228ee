-- One object between two places: the parts of the rows, and how many bytes its pieces take.
use mathlib.Core.Path.{◌≡◌, sym, ap, ◌∙◌, subst}
use Prim.Native.Nat.{ℕ, zero, suc, ◌+◌, ◌-◌, ◌*◌, ◌/◌, ◌%◌, ◌<◌, ◌≤◌}
use native.Mathlib.Omega.{arith}
use mathlib.Core.Bool.{true}
use mathlib.Core.List.{List, [], ◌∷◌, ◌++◌}
use lib.Ieee.{Float}
use lib.ListN.{length, length-append}
use Rattle.shared_words.specs.Lists.{every}
use Rattle.studio_write_judge.specs.Judged.{triples, finite_float}
use Rattle.studio_figure_rows.specs.Rows.{entry, sum_to, run, part, name_at, Capped}
use Rattle.studio_figure_rows.proofs.Runs.{sum-up, capped-under, part_length}
use Rattle.studio_figure_objects.specs.Sizes as sizes
use Rattle.studio_figure_objects.specs.Sizes.{size_of_words, object_bytes}
use Rattle.studio_figure_chunks.specs.Chunks.{group_bytes, group_in, lists_bytes}
use Rattle.studio_figure_chunks.proofs.Chunks.{group-length}
use Rattle.studio_rules.specs.Layout.{end, known, header, bytes}
use Rattle.studio_write_bytes.specs.Bare.{name_data, vertex_data, face_data}
use Rattle.studio_write_bytes.proofs.Bare.{length-leaf, length-vertex_data, length-face_data}
use Rattle.studio_figure_rules.specs.Given.{over}
use Rattle.studio_figure_rules.specs.Built.{smoothing_chunk}
use Rattle.studio_figure_bytes.specs.declared.Place.{Place}
use Rattle.studio_figure_bytes.specs.Objects.{At, Behind, Writable, pieces}

module _ (names objects : List ℕ) (vertices : List Float) (corners smoothing groups faces : List ℕ) (from i : ℕ) (p q : Place) (size : ℕ) where
  pub record Pieces : Type 0 where
    pub size_is : size ≡ object_bytes objects groups i
    pub small : size ≤ 1048576
    -- the parts
    pub name-part : part p.name (q.name - p.name) names ≡ name_at 5 objects names 0 i
    pub vertex-part : part p.vertex (q.vertex - p.vertex) vertices ≡ part (sum_to 5 1 objects i) (entry 5 1 objects i) vertices
    pub corner-part : part p.corner (q.corner - p.corner) corners ≡ part (sum_to 5 2 objects i) (entry 5 2 objects i) corners
    pub word_part : part p.word (q.word - p.word) smoothing ≡ part (sum_to 5 3 objects i) (entry 5 3 objects i) smoothing
    pub name-long : length (part p.name (q.name - p.name) names) ≡ entry 5 0 objects i
    pub vertices-long : length (part p.vertex (q.vertex - p.vertex) vertices) ≡ entry 5 1 objects i
    pub corners-long : length (part p.corner (q.corner - p.corner) corners) ≡ entry 5 2 objects i
    pub words_long : length (part p.word (q.word - p.word) smoothing) ≡ entry 5 3 objects i
    pub words_in : q.word ≤ length smoothing
    -- what the groups ask
    pub groups_in_lem : 2 * (p.group + (q.group - p.group)) ≤ length groups
    pub labels_in : from + sum_to 2 0 groups (p.group + (q.group - p.group)) ≤ length names
    pub faces_in : sum_to 2 1 groups (p.group + (q.group - p.group)) ≤ length faces
    pub few : (j : ℕ) → j < q.group - p.group → entry 2 1 groups (p.group + j) ≤ 65535
    pub sum_is : size ≡ 29 + entry 5 0 objects i + 12 * (entry 5 1 objects i / 3) + 8 * (entry 5 2 objects i / 3) +
        (sizes.group_bytes groups p.group (q.group - p.group) + size_of_words (entry 5 3 objects i))
    -- what the lists ask
    pub whole : length (part p.vertex (q.vertex - p.vertex) vertices) % 3 ≡ 0
    pub few-vertices : length (part p.vertex (q.vertex - p.vertex) vertices) ≤ 196605
    pub few-corners : length (part p.corner (q.corner - p.corner) corners) ≤ 196605
    pub finite : every finite_float (part p.vertex (q.vertex - p.vertex) vertices) ≡ true
    pub enough : 29 + length (part p.name (q.name - p.name) names) + 12 * triples (part p.vertex (q.vertex - p.vertex) vertices) +
        8 * triples (part p.corner (q.corner - p.corner) corners) ≤ size

  pub pieces_of : At objects groups from i p → Behind objects groups i p q → Writable names objects vertices corners smoothing groups faces from i →
      Capped 0 (object_bytes objects groups i) 1048576 size → Pieces
  pieces_of a b w c =
      let exact : size ≡ object_bytes objects groups i = omega (arith, capped-under 0 _ 1048576 size c w.size) in
      let n₀ : q.name - p.name ≡ entry 5 0 objects i = omega (arith, b.name) in
      let n₁ : q.vertex - p.vertex ≡ entry 5 1 objects i = omega (arith, b.vertex) in
      let n₂ : q.corner - p.corner ≡ entry 5 2 objects i = omega (arith, b.corner) in
      let n₃ : q.word - p.word ≡ entry 5 3 objects i = omega (arith, b.word) in
      let z : 0 + sum_to 5 0 objects i ≡ sum_to 5 0 objects i = omega arith in
      let e₀ : part p.name (q.name - p.name) names ≡ name_at 5 objects names 0 i = rw (n₀, a.name, z) in
      let e₁ : part p.vertex (q.vertex - p.vertex) vertices ≡ part (sum_to 5 1 objects i) (entry 5 1 objects i) vertices = rw (n₁, a.vertex) in
      let e₂ : part p.corner (q.corner - p.corner) corners ≡ part (sum_to 5 2 objects i) (entry 5 2 objects i) corners = rw (n₂, a.corner) in
      let e₃ : part p.word (q.word - p.word) smoothing ≡ part (sum_to 5 3 objects i) (entry 5 3 objects i) smoothing = rw (n₃, a.word) in
      let l₀ = part_length p.name (q.name - p.name) names (omega (arith, a.name, w.name_in)) ∙ n₀ in
      let l₁ = part_length p.vertex (q.vertex - p.vertex) vertices (omega (arith, a.vertex, w.vertices_in_lem)) ∙ n₁ in
      let l₂ = part_length p.corner (q.corner - p.corner) corners (omega (arith, a.corner, w.corners_in)) ∙ n₂ in
      let l₃ = part_length p.word (q.word - p.word) smoothing (omega (arith, a.word, w.words_in)) ∙ n₃ in
      let t₁ = ap (λ (t : ℕ). t / 3) l₁ in
      let t₂ = ap (λ (t : ℕ). t / 3) l₂ in
      let n₄ : q.group - p.group ≡ entry 5 4 objects i = omega (arith, b.group) in
      record {
        groups_in_lem = rw (n₄, a.group) w.groups_in_lem;
        labels_in = rw (n₄, a.group) w.labels_in;
        faces_in = rw (n₄, a.group) w.faces_in;
        few = λ j h. rw a.group (w.few j (omega (arith, n₄)));
        sum_is = exact ∙ rw (n₄, a.group);
        size_is = exact;
        small = omega (arith, w.size);
        name-part = e₀;
        vertex-part = e₁;
        corner-part = e₂;
        word_part = e₃;
        name-long = l₀;
        vertices-long = l₁;
        corners-long = l₂;
        words_long = l₃;
        words_in = omega (arith, a.word, b.word, w.words_in);
        whole = rw l₁ w.whole;
        few-vertices = omega (arith, l₁, w.few-vertices);
        few-corners = omega (arith, l₂, w.few-corners);
        finite = rw e₁ w.finite;
        enough = omega (arith, l₀, t₁, t₂);
      }

  pub pieces-same : At objects groups from i p → Behind objects groups i p q → Pieces →
      lists_bytes (part p.name (q.name - p.name) names) (part p.vertex (q.vertex - p.vertex) vertices) (part p.corner (q.corner - p.corner) corners) size ++
      (over (λ j. group_bytes (group_in names groups faces from (p.group + j))) (run (λ j. j) 0 (q.group - p.group)) ++
      bytes (smoothing_chunk (part p.word (q.word - p.word) smoothing))) ≡
      pieces names objects vertices corners smoothing groups faces from i
  pieces-same a b k =
      let n₄ : q.group - p.group ≡ entry 5 4 objects i = omega (arith, b.group) in
      rw (k.name-part, k.vertex-part, k.corner-part, k.word_part, k.size_is, n₄, a.group)

-- ---- how long the pieces are

pub lists_length : (name : List ℕ) (vertices : List Float) (corners : List ℕ) (n : ℕ) → length vertices % 3 ≡ 0 →
    length (lists_bytes name vertices corners n) ≡ 29 + length name + 12 * triples vertices + 8 * triples corners
lists_length name vertices corners n h =
    let vs : List ℕ = bytes (known 0x4110 (vertex_data vertices) end end) in
    let tail : List ℕ = header 0x4120 (n - (21 + length name + 12 * triples vertices)) ++ face_data corners in
    omega (
      arith,
      length-append (name_data name) (header 0x4100 (n - (7 + length name)) ++ (vs ++ tail)),
      length-append name (0 ∷ []),
      length-append vs tail,
      length-leaf 0x4110 (vertex_data vertices),
      length-vertex_data vertices h,
      length-face_data corners,
    )

module _ (names groups faces : List ℕ) (from first : ℕ) where
  groups_long : (i n : ℕ) → from + sum_to 2 0 groups (first + (i + n)) ≤ length names → sum_to 2 1 groups (first + (i + n)) ≤ length faces →
      length (over (λ j. group_bytes (group_in names groups faces from (first + j))) (run (λ j. j) i n)) + (sum_to 2 0 groups (first + i) + 2 * sum_to 2 1 groups (first + i)) ≡
      9 * n + (sum_to 2 0 groups (first + (i + n)) + 2 * sum_to 2 1 groups (first + (i + n)))
  groups_long i zero a b = let z : i + 0 ≡ i = omega arith in rw z (omega arith)
  groups_long i (suc n) a b =
      let e : i + suc n ≡ suc i + n = omega arith in
      let d : first + suc i ≡ suc (first + i) = omega arith in
      let give : ℕ → List ℕ = λ j. group_bytes (group_in names groups faces from (first + j)) in
      let ih = rw d at (groups_long (suc i) n (rw e at a) (rw e at b)) in
      let u = sum-up 2 0 groups (suc (first + i)) (first + (i + suc n)) (omega arith) in
      let v = sum-up 2 1 groups (suc (first + i)) (first + (i + suc n)) (omega arith) in
      let k = part_length (from + sum_to 2 0 groups (first + i)) (entry 2 0 groups (first + i)) names (omega arith) in
      let m = part_length (sum_to 2 1 groups (first + i)) (entry 2 1 groups (first + i)) faces (omega arith) in
      let g = group-length (group_in names groups faces from (first + i)) in
      rw e (omega (arith, length-append (give i) (over give (run (λ j. j) (suc i) n))))

  pub groups_length : (n : ℕ) → from + sum_to 2 0 groups (first + n) ≤ length names → sum_to 2 1 groups (first + n) ≤ length faces →
      length (over (λ j. group_bytes (group_in names groups faces from (first + j))) (run (λ j. j) 0 n)) ≡ sizes.group_bytes groups first n
  groups_length n a b =
      let z : 0 + n ≡ n = omega arith in
      let y : first + 0 ≡ first = omega arith in
      let e = rw (z, y) at (groups_long 0 n (rw z a) (rw z b)) in
      let u = sum-up 2 0 groups first (first + n) (omega arith) in
      let v = sum-up 2 1 groups first (first + n) (omega arith) in
      omega arith

pub words_least : (n : ℕ) → n ≤ size_of_words n
words_least zero = omega arith
words_least (suc n) = omega arith

-- ---- the room for each piece, where an object of `size` bytes is lists, groups and words

module _ (size at front g w room : ℕ) (e : size ≡ front + (g + w)) (h : at + size ≤ room) where
  pub room-behind : (lists : ℕ) → lists ≡ at + front → (lists ≤ room) × (lists + g ≤ room) × (lists + g + w ≤ room)
  room-behind lists l = (omega arith, omega arith, omega arith)

pub labels_small : (size front n x y w : ℕ) → size ≡ front + (9 * n + x + 2 * y + w) → size ≤ 1048576 → x ≤ 1048576
labels_small size front n x y w e h = omega arith

pub words_small : (size front g n : ℕ) → size ≡ front + (g + size_of_words n) → size ≤ 1048576 → n ≤ 1048576
words_small size front g n e h = omega (arith, words_least n)

module _ (names objects : List ℕ) (vertices : List Float) (corners smoothing groups faces : List ℕ) (from i : ℕ) (p q : Place) (size : ℕ)
    (k : Pieces names objects vertices corners smoothing groups faces from i p q size) where
  abbrev pub front : ℕ
  front = 29 + entry 5 0 objects i + 12 * (entry 5 1 objects i / 3) + 8 * (entry 5 2 objects i / 3)

  pub front-is :
      length (lists_bytes (part p.name (q.name - p.name) names) (part p.vertex (q.vertex - p.vertex) vertices) (part p.corner (q.corner - p.corner) corners) size) ≡ front
  front-is =
      lists_length (part p.name (q.name - p.name) names) (part p.vertex (q.vertex - p.vertex) vertices) (part p.corner (q.corner - p.corner) corners) size k.whole ∙
      rw (k.name-long, k.vertices-long, k.corners-long)

  pub pieces_room : (at room lists : ℕ) → at + object_bytes objects groups i ≤ room →
      lists ≡ at + length (lists_bytes (part p.name (q.name - p.name) names) (part p.vertex (q.vertex - p.vertex) vertices) (part p.corner (q.corner - p.corner) corners) size) →
      (lists ≤ room) × (lists + sizes.group_bytes groups p.group (q.group - p.group) ≤ room) ×
      (lists + sizes.group_bytes groups p.group (q.group - p.group) + size_of_words (entry 5 3 objects i) ≤ room)
  pieces_room at room lists h e =
      room-behind size at front (sizes.group_bytes groups p.group (q.group - p.group)) (size_of_words (entry 5 3 objects i)) room k.sum_is
      (subst (λ (s : ℕ). at + s ≤ room) (sym k.size_is) h) lists (e ∙ ap (λ (n : ℕ). at + n) front-is)
