-- What the judgement tells of rows: they fit, each object can be put, and the bytes of the figure are those pieces in order.
use Rattle.std.specs.Prelude.{Ok}
use mathlib.Core.Path.{◌≡◌, refl, sym, ap, ◌∙◌, subst}
use Prim.Native.Nat.{ℕ, zero, suc, ◌+◌, ◌-◌, ◌*◌, ◌/◌, ◌^◌, ◌<◌, ◌≤◌}
use native.Mathlib.Omega.{arith}
use mathlib.Core.Bool.{Bool, true}
use mathlib.Core.List.{List, [], ◌++◌, append_assoc}
use mathlib.Core.Option.{Option, none, some}
use lib.Ieee.{Float, binary32, to_bits, fits}
use lib.ListN.{length, length-map}
use Rattle.shared_words.specs.declared.Refusal.{Refusal}
use Rattle.shared_words.specs.Lists.{every, All}
use Rattle.shared_words.specs.Conditions.{Condition, broken}
use Rattle.shared_words.proofs.Bools.{both}
use Rattle.shared_words.proofs.Conditions.{met}
use Rattle.studio_rules.specs.Layout.{Run, end, known, figure, size, header, bytes}
use Rattle.studio_rules.specs.Rules.{all_below}
use Rattle.studio_write_judge.specs.Judged.{triples}
use Rattle.studio_write_bytes.specs.Bare.{name_data, vertex_data, face_data}
use Rattle.studio_write.specs.ReadsBack.{Floats32}
use Rattle.studio_write.proofs.Floats.{floats_small}
use Rattle.studio_figure_rules.specs.Given.{Group, Object, Figure, over, Bits32}
use Rattle.studio_figure_rules.specs.Judged.{size_of, conditions}
use Rattle.studio_figure_rules.specs.Built.{vertex_list, group_data, group_chunk, smoothing_chunk, face_children, mesh_children, object_chunk, layout}
use Rattle.studio_figure_rules.specs.Described.{Flat, fit_conditions, described, judged_flat}
use Rattle.studio_figure_rules.proofs.Lists.{all_of}
use Rattle.studio_figure_rules.proofs.Ready.{GroupReady, ObjectReady, ready}
use Rattle.studio_figure_rules.proofs.Sizes.{object-size}
use Rattle.studio_figure_rules.proofs.OwnData.{length-name_data, length-vertices}
use Rattle.studio_figure_rules.proofs.InOrder.{chunk_bytes, each-bytes, in_order}
use Rattle.studio_figure_rules.proofs.ReadsBack.{answer-size}
use Rattle.studio_figure_rules.proofs.AsBefore.{all-finite}
use Rattle.studio_figure_rules.proofs.Described.{broken-first, broken-rest}
use Rattle.studio_figure_rows.specs.Rows as rows
use Rattle.studio_figure_rows.specs.Rows.{entry, sum_to, run, part, object_count, group_count, group_at, object_at, figure_of}
use Rattle.studio_figure_rows.specs.Same.{Fits}
use Rattle.studio_figure_rows.proofs.Same.{by_position}
use Rattle.studio_figure_rows.proofs.Runs.{sum_inside, sum-up}
use Rattle.studio_figure_objects.specs.Sizes.{object_bytes}
use Rattle.studio_figure_judge.specs.Judged.{size_of_rows}
use Rattle.studio_figure_judge.proofs.Things.{over-same, every-part}
use Rattle.studio_figure_judge.proofs.Same.{group-faces, object-vertices, object-corners, groups_inside, size_same, size-all}
use Rattle.studio_figure_chunks.specs.Chunks.{material_bytes, group_bytes, material_in, group_in}
use Rattle.studio_write_bytes.proofs.Bare.{last_chunk_bytes}
use Rattle.studio_figure_bytes.specs.Objects.{Writable, pieces}
use Rattle.studio_figure_bytes.proofs.Steps.{total_inside}

-- ---- runs

every-run : {A : Type 0} (p : A → Bool) (thing : ℕ → A) (i n : ℕ) → ((k : ℕ) → p (thing k) ≡ true) → every p (run thing i n) ≡ true
unfolding every
every-run p thing i zero h = refl
every-run p thing i (suc n) h = both (p (thing i)) (every p (run thing (suc i) n)) (h i) (every-run p thing (suc i) n h)

all-run : {A : Type 0} (P : A → Type 0) (thing : ℕ → A) (i n k : ℕ) → All P (run thing i n) → k < n → P (thing (i + k))
all-run P thing i zero k a h = absurd (omega arith)
all-run P thing i (suc n) zero a h = let z : i + 0 ≡ i = omega arith in rw z a.0
all-run P thing i (suc n) (suc k) a h = let z : i + suc k ≡ suc i + k = omega arith in rw z (all-run P thing (suc i) n k a.1 (omega arith))

over-from : {A B : Type 0} (give : A → List B) (thing : ℕ → A) (a i n : ℕ) → over give (run thing (a + i) n) ≡ over (λ j. give (thing (a + j))) (run (λ j. j) i n)
over-from give thing a i zero = refl
over-from give thing a i (suc n) = let e : suc (a + i) ≡ a + suc i = omega arith in rw (e, over-from give thing a (suc i) n)

-- conditions of which none is broken
none_first : (cs ds : List Condition) → broken (cs ++ ds) ≡ none → (broken cs ≡ none) × (broken ds ≡ none)
none_first cs ds h = go (broken cs) refl
  where
    go : (o : Option Refusal) → broken cs ≡ o → (broken cs ≡ none) × (broken ds ≡ none)
    go none e = (e, sym (broken-rest cs ds e) ∙ h)
    go (some x) e = let q = sym (broken-first cs ds x e) ∙ h in let z : ◌≡◌ {A = ℕ} 0 1 = cc in absurd (omega arith)

-- the same bytes, joined in other pairs
regroup : (a b c d e f g h : List ℕ) → a ++ (b ++ (c ++ (d ++ (e ++ (f ++ (g ++ h)))))) ≡ (a ++ (b ++ (c ++ (d ++ (e ++ f))))) ++ (g ++ h)
regroup a b c d e f g h = simp append_assoc

module _ (r : Flat) (f : Fits r) (b : Floats32 r.vertices) where
  abbrev from : ℕ
  from = rows.groups_from r

  module _ (i : ℕ) (h : i < object_count r) (o : ObjectReady (object_at r i)) where
    abbrev row : List Float
    row = part (sum_to 5 1 r.objects i) (entry 5 1 r.objects i) r.vertices

    row_in : sum_to 5 1 r.objects i + entry 5 1 r.objects i ≤ length r.vertices
    row_in = omega (arith, f.vertices, sum_inside 5 1 r.objects i (object_count r) h)

    corners_in : sum_to 5 2 r.objects i + entry 5 2 r.objects i ≤ length r.corners
    corners_in = omega (arith, f.corners, sum_inside 5 2 r.objects i (object_count r) h)

    few-faces : (j : ℕ) → j < entry 5 4 r.objects i → entry 2 1 r.groups (sum_to 5 4 r.objects i + j) ≤ 65_535
    few-faces j l =
        let g = all-run (GroupReady (triples (object_at r i).corners)) (group_at r) (sum_to 5 4 r.objects i) (entry 5 4 r.objects i) j o.groups_ready l in
        omega (arith, group-faces r f (sum_to 5 4 r.objects i + j) (omega (arith, groups_inside r f i h)), g.few)

    pub can_put : size_of_rows r.objects r.groups r.materials ≤ 1048576 → Writable r.names r.objects r.vertices r.corners r.smoothing r.groups r.faces from i
    can_put small =
        let inside = groups_inside r f i h in
        let up₀ = sum-up 2 0 r.groups (sum_to 5 4 r.objects i + entry 5 4 r.objects i) (group_count r) inside in
        let up₁ = sum-up 2 1 r.groups (sum_to 5 4 r.objects i + entry 5 4 r.objects i) (group_count r) inside in
        let c = every-part (fits binary32) (sum_to 5 1 r.objects i) (entry 5 1 r.objects i) r.vertices b in
        record {
          there = omega arith;
          name_in = omega (arith, f.names, sum_inside 5 0 r.objects i (object_count r) h);
          vertices_in_lem = row_in;
          corners_in = corners_in;
          words_in = omega (arith, f.smoothing, sum_inside 5 3 r.objects i (object_count r) h);
          groups_in_lem = omega (arith, f.groups, inside);
          labels_in = omega (arith, f.names, up₀);
          faces_in = omega (arith, f.faces, up₁);
          whole = rw (object-vertices r f i h) at o.whole-vertices;
          few-vertices = rw (object-vertices r f i h) at o.few-vertices;
          few-corners = rw (object-corners r f i h) at o.few-corners;
          finite = sym (all-finite row c) ∙ o.finite-bits;
          few = few-faces;
          size = omega (arith, total_inside (object_bytes r.objects r.groups) i (object_count r) h);
        }

    face-children : bytes (face_children (object_at r i)) ≡
        over (λ j. group_bytes (group_in r.names r.groups r.faces from (sum_to 5 4 r.objects i + j))) (run (λ j. j) 0 (entry 5 4 r.objects i)) ++ bytes (smoothing_chunk (object_at r i).smoothing)
    face-children =
        let gs = (object_at r i).groups in
        let z : sum_to 5 4 r.objects i + 0 ≡ sum_to 5 4 r.objects i = omega arith in
        let s = rw z at (over-from group_bytes (group_at r) (sum_to 5 4 r.objects i) 0 (entry 5 4 r.objects i)) in
        let alone : All (λ (g : Group). (more : Run) → bytes (group_chunk g more) ≡ bytes (group_chunk g end) ++ bytes more) gs = all_of (λ g more. chunk_bytes 0x4130 (group_data g) end more) gs in
        each-bytes group_chunk gs (smoothing_chunk (object_at r i).smoothing) alone ∙
        ap (λ (l : List ℕ). l ++ bytes (smoothing_chunk (object_at r i).smoothing)) s

    pub object-bytes : bytes (object_chunk (object_at r i) end) ≡ pieces r.names r.objects r.vertices r.corners r.smoothing r.groups r.faces from i
    object-bytes =
        let ob = object_at r i in
        let n = object_bytes r.objects r.groups i in
        let name = ob.name in
        let whole = object-size ob o end in
        let is = size_same r f i h in
        let ln = length-name_data name in
        let lv = length-vertices ob o in
        let t : triples ob.vertices ≡ triples row = ap (λ (k : ℕ). k / 3) (length-map row (to_bits binary32)) in
        let v : vertex_list ob.vertices ≡ vertex_data row = rw t in
        let mesh : Run = known 0x4100 [] (mesh_children ob) end in
        let faces : Run = known 0x4120 (face_data ob.corners) (face_children ob) end in
        let h₁ = header 0x4000 n in
        let h₂ = header 0x4100 (n - (7 + length name)) in
        let h₃ = header 0x4120 (n - (21 + length name + 12 * triples row)) in
        last_chunk_bytes 0x4000 (name_data name) mesh n (omega arith) ∙
        ap (λ (l : List ℕ). h₁ ++ (name_data name ++ l)) (last_chunk_bytes 0x4100 [] (mesh_children ob) (n - (7 + length name)) (omega arith)) ∙
        ap (λ (l : List ℕ). h₁ ++ (name_data name ++ (h₂ ++ l))) (chunk_bytes 0x4110 (vertex_list ob.vertices) end faces) ∙
        ap (λ (l : List ℕ). h₁ ++ (name_data name ++ (h₂ ++ (bytes (known 0x4110 l end end) ++ bytes faces)))) v ∙
        ap (λ (l : List ℕ). h₁ ++ (name_data name ++ (h₂ ++ (bytes (known 0x4110 (vertex_data row) end end) ++ l))))
        (last_chunk_bytes 0x4120 (face_data ob.corners) (face_children ob) (n - (21 + length name + 12 * triples row)) (omega arith) ∙
        ap (λ (l : List ℕ). h₃ ++ (face_data ob.corners ++ l)) face-children) ∙
        regroup h₁ (name_data name) h₂ (bytes (known 0x4110 (vertex_data row) end end)) h₃ (face_data ob.corners)
        (over (λ j. group_bytes (group_in r.names r.groups r.faces from (sum_to 5 4 r.objects i + j))) (run (λ j. j) 0 (entry 5 4 r.objects i))) (bytes (smoothing_chunk ob.smoothing))

  bits : Bits32 (figure_of r)
  bits =
      every-run (λ (o : Object). all_below (256 ^ 4) o.vertices) (object_at r) 0 (object_count r)
      (λ k. floats_small (part (sum_to 5 1 r.objects k) (entry 5 1 r.objects k) r.vertices) (every-part (fits binary32) (sum_to 5 1 r.objects k) (entry 5 1 r.objects k) r.vertices b))

-- ---- what a size tells

pub record Told (r : Flat) (room size : ℕ) : Type 0 where
  pub fit : Fits r
  pub size_is : size ≡ size_of_rows r.objects r.groups r.materials
  pub small : size ≤ 1048576
  pub enough : size ≤ room
  pub writable : (i : ℕ) → i < object_count r → Writable r.names r.objects r.vertices r.corners r.smoothing r.groups r.faces (rows.groups_from r) i
  pub bytes_are : (inner : ℕ) → size ≡ 6 + inner → bytes (figure (layout (described r))) ≡
      header 0x4D4D size ++ (header 0x3D3D inner ++
      (over material_bytes (run (material_in r.names r.materials r.colours (rows.materials_from r)) 0 (length r.materials)) ++
      over (pieces r.names r.objects r.vertices r.corners r.smoothing r.groups r.faces (rows.groups_from r)) (run (λ k. k) 0 (object_count r))))

pub told : (r : Flat) (room size : ℕ) → Floats32 r.vertices → judged_flat r room ≡ Ok size → Told r room size
unfolding judged_flat
told r room size b e =
    let a = answer-size (size_of (described r)) size (broken (fit_conditions r ++ conditions (described r) room)) e in
    let n = none_first (fit_conditions r) (conditions (described r) room) a.0 in
    let f = (by_position r).fits n.0 in
    let same = (by_position r).same f in
    let m = subst (λ (g : Figure). broken (conditions g room) ≡ none) same n.1 in
    let is : size ≡ size_of (figure_of r) = a.1 ∙ ap size_of same in
    let whole = size-all r f in
    let k = ready (figure_of r) room (bits r f b) (met (conditions (figure_of r) room) m) in
    let each : (i : ℕ) → i < object_count r → ObjectReady (object_at r i) =
    λ i h. let z : 0 + i ≡ i = omega arith in rw z at (all-run ObjectReady (object_at r) 0 (object_count r) i k.objects-ready h) in
    record {
      fit = f;
      size_is = is ∙ whole;
      small = omega (arith, k.within-limit);
      enough = omega (arith, k.within-room);
      writable = λ i h. can_put r f b i h (each i h) (omega (arith, k.within-limit));
      bytes_are = λ inner q.
          ap (λ (g : Figure). bytes (figure (layout g))) same ∙ in_order (figure_of r) inner k.objects-ready (sym is ∙ q) ∙
          ap (λ (l : List ℕ). header 0x4D4D (size_of (figure_of r)) ++ (header 0x3D3D inner ++ (over material_bytes (figure_of r).materials ++ l)))
          (over-same (λ (o : Object). bytes (object_chunk o end)) (object_at r) (pieces r.names r.objects r.vertices r.corners r.smoothing r.groups r.faces (rows.groups_from r)) 0 (object_count r)
          (λ i p h. object-bytes r f b i (omega arith) (each i (omega arith)))) ∙
          ap (λ (s : ℕ). header 0x4D4D s ++ (header 0x3D3D inner ++ (over material_bytes (figure_of r).materials ++ over (pieces r.names r.objects r.vertices r.corners r.smoothing r.groups r.faces (rows.groups_from r)) (run (λ k. k) 0 (object_count r))))) (sym is);
    }

-- as code puts them, where the names of materials and groups begin at positions that are known by equations
pub joined : (r : Flat) (room size : ℕ) → Told r room size → (first from inner : ℕ) → first ≡ rows.materials_from r → from ≡ rows.groups_from r → size ≡ 6 + inner →
    header 0x4D4D size ++ (header 0x3D3D inner ++
    (over material_bytes (run (material_in r.names r.materials r.colours first) 0 (length r.materials)) ++
    over (pieces r.names r.objects r.vertices r.corners r.smoothing r.groups r.faces from) (run (λ k. k) 0 (object_count r)))) ≡
    bytes (figure (layout (described r)))
joined r room size k first from inner e d q = rw (e, d) (sym (k.bytes_are inner q))
