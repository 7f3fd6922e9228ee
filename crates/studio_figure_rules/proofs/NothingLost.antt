-- Nothing that was given is lost: one file has one layout, and from a layout each part of the figure can be taken.
use mathlib.Core.Path.{◌≡◌, refl, sym, ap, ◌∙◌, subst}
use Prim.Native.Nat.{ℕ, ◌^◌, ◌≤◌}
use native.Mathlib.Omega.{arith}
use mathlib.Core.Bool.{true}
use mathlib.Core.List.{List, [], ◌∷◌, append_cancel_right}
use lib.ListN.{length, take}
use lib.Seq.{take_at}
use Rattle.shared_words.specs.Bytes.{packed, numbers}
use Rattle.shared_words.specs.Lists.{every, All}
use Rattle.studio_rules.specs.OwnData.{name_size, vertex_numbers, face_corners, face_numbers}
use Rattle.studio_rules.specs.Layout.{Run, end, known, figure, bytes}
use Rattle.studio_rules.specs.Rules.{all_below, Meets}
use Rattle.shared_words.specs.Conditions.{broken}
use Rattle.shared_words.proofs.Bools.{and_parts}
use Rattle.shared_words.proofs.Bytes.{length-packed}
use Rattle.shared_words.proofs.Conditions.{met}
use Rattle.studio_rules.proofs.Verdict.{one-layout}
use Rattle.studio_write_judge.specs.Judged.{triples}
use Rattle.studio_write_bytes.specs.Bare.{name_data}
use Rattle.studio_write.proofs.Unpacked.{numbers-packed}
use Rattle.studio_figure_rules.specs.Given.{Group, Object, Colour, Material, rgb}
use Rattle.studio_figure_rules.specs.Built.{group_data, each, group_chunk, smoothing_chunk, object_chunk, material_chunk, layout}
use Rattle.studio_figure_rules.specs.Judged.{size_of, conditions, judged_figure}
use Rattle.studio_figure_rules.specs.NothingLost.{NothingLost}
use Rattle.studio_figure_rules.proofs.Ready.{GroupReady, ObjectReady, ready}
use Rattle.studio_figure_rules.proofs.OwnData.{vertex-numbers, face-corners, group-name, group-faces}
use Rattle.studio_figure_rules.proofs.ReadsBack.{reads-back, answer-size}
use Rattle.studio_figure_rules.proofs.Flattened.{figures_alike}

-- ---- a chunk and its parts

module _ {id id' : ℕ} {own own' : List ℕ} {kids kids' rest rest' : Run} (e : known id own kids rest ≡ known id' own' kids' rest') where
  same_id : id ≡ id'
  same_id = cc

  same_own : own ≡ own'
  same_own = cc

  same_kids : kids ≡ kids'
  same_kids = cc

  same_rest : rest ≡ rest'
  same_rest = cc

never : {A : Type 0} {id : ℕ} {own : List ℕ} {kids rest : Run} → known id own kids rest ≡ end → A
never e = let z : ◌≡◌ {A = ℕ} 0 1 = cc in absurd (omega arith)

-- ---- own data

same_name : (a b : List ℕ) → name_data a ≡ name_data b → a ≡ b
same_name a b e = append_cancel_right a b (0 ∷ []) e

same_words : (ws vs : List ℕ) → all_below (256 ^ 4) ws ≡ true → all_below (256 ^ 4) vs ≡ true → packed 4 ws ≡ packed 4 vs → ws ≡ vs
same_words ws vs a b e =
    let n : length ws ≡ length vs = omega (arith, length-packed 4 ws, length-packed 4 vs, ap length e) in
    sym (numbers-packed 4 ws a) ∙ ap (numbers 4 (length ws)) e ∙ ap (λ (k : ℕ). numbers 4 k (packed 4 vs)) n ∙ numbers-packed 4 vs b

same-group : (f : ℕ) (g h : Group) → GroupReady f g → GroupReady f h → f ≤ 0x1_0000 → group_data g ≡ group_data h → g ≡ h
same-group f g h r q l e =
    let faces : g.faces ≡ h.faces = sym (group-faces f g r l) ∙ ap face_numbers e ∙ group-faces f h q l in
    let n : length (name_data g.name) ≡ length (name_data h.name) = sym (group-name f g r) ∙ ap name_size e ∙ group-name f h q in
    let names : name_data g.name ≡ name_data h.name =
    sym (take_at (name_data g.name) _ (length (name_data h.name)) n) ∙ ap (take (length (name_data h.name))) e ∙ take_at (name_data h.name) _ (length (name_data h.name)) refl in
    made (same_name g.name h.name names) faces
  where
    made : {a b c d : List ℕ} → a ≡ b → c ≡ d → ◌≡◌ {A = Group} (record { name = a; faces = c }) (record { name = b; faces = d })
    made a b = cc

same-colour : (c d : Colour) → rgb c ≡ rgb d → c ≡ d
same-colour c d e = made e
  where
    made : {a b c a' b' c' : ℕ} → ◌≡◌ {A = List ℕ} (a ∷ b ∷ c ∷ []) (a' ∷ b' ∷ c' ∷ []) → ◌≡◌ {A = Colour} (record { red = a; green = b; blue = c }) (record { red = a'; green = b'; blue = c' })
    made e = cc

-- ---- what stands in a 4120

same_smoothing : (ws vs : List ℕ) → all_below (256 ^ 4) ws ≡ true → all_below (256 ^ 4) vs ≡ true → smoothing_chunk ws ≡ smoothing_chunk vs → ws ≡ vs
same_smoothing [] [] a b e = refl
same_smoothing [] (v ∷ vs) a b e = never (sym e)
same_smoothing (w ∷ ws) [] a b e = never e
same_smoothing (w ∷ ws) (v ∷ vs) a b e = same_words (w ∷ ws) (v ∷ vs) a b (same_own e)

no-group : {A : Type 0} (g : Group) (rest : Run) (vs : List ℕ) → group_chunk g rest ≡ smoothing_chunk vs → A
no-group g rest [] e = never e
no-group g rest (v ∷ vs) e = let n = same_id e in absurd (omega arith)

module _ (f : ℕ) (l : f ≤ 0x1_0000) (ws vs : List ℕ) (a : all_below (256 ^ 4) ws ≡ true) (b : all_below (256 ^ 4) vs ≡ true) where
  same-faces : (gs hs : List Group) → All (GroupReady f) gs → All (GroupReady f) hs → each group_chunk gs (smoothing_chunk ws) ≡ each group_chunk hs (smoothing_chunk vs) → (gs ≡ hs) × (ws ≡ vs)
  same-faces [] [] r q e = (refl, same_smoothing ws vs a b e)
  same-faces [] (h ∷ hs) r q e = no-group h _ ws (sym e)
  same-faces (g ∷ gs) [] r q e = no-group g _ vs e
  same-faces (g ∷ gs) (h ∷ hs) r q e =
      let i = same-faces gs hs r.1 q.1 (same_rest e) in
      let s = same-group f g h r.0 q.0 l (same_own e) in
      let t = i.0 in
      (cc, i.1)

-- ---- an object

made : {a a' b b' c c' d d' : List ℕ} {e e' : List Group} → a ≡ a' → b ≡ b' → c ≡ c' → d ≡ d' → e ≡ e' →
    ◌≡◌ {A = Object} (record { name = a; vertices = b; corners = c; smoothing = d; groups = e }) (record { name = a'; vertices = b'; corners = c'; smoothing = d'; groups = e' })
made p q r s t = cc

abbrev Words : Object → Type 0
Words o = all_below (256 ^ 4) o.smoothing ≡ true

same_object : (o p : Object) (rest more : Run) → ObjectReady o → ObjectReady p → Words o → Words p → object_chunk o rest ≡ object_chunk p more → o ≡ p
same_object o p rest more r q a b e =
    let lists = same_kids (same_kids e) in
    let faces = same_rest lists in
    let vertices : o.vertices ≡ p.vertices = sym (vertex-numbers o r) ∙ ap vertex_numbers (same_own lists) ∙ vertex-numbers p q in
    let corners : o.corners ≡ p.corners = sym (face-corners o r) ∙ ap face_corners (same_own faces) ∙ face-corners p q in
    let few = r.few-corners in
    let ready-too = subst (λ (cs : List ℕ). All (GroupReady (triples cs)) p.groups) (sym corners) q.groups_ready in
    let below = same-faces (triples o.corners) (omega arith) o.smoothing p.smoothing a b o.groups p.groups r.groups_ready ready-too (same_kids faces) in
    made (same_name o.name p.name (same_own e)) vertices corners below.1 below.0

same-objects : (os ps : List Object) → All ObjectReady os → All ObjectReady ps → All Words os → All Words ps → each object_chunk os end ≡ each object_chunk ps end → os ≡ ps
same-objects [] [] r q a b e = refl
same-objects [] (p ∷ ps) r q a b e = never (sym e)
same-objects (o ∷ os) [] r q a b e = never e
same-objects (o ∷ os) (p ∷ ps) r q a b e =
    let h = same_object o p _ _ r.0 q.0 a.0 b.0 e in
    let t = same-objects os ps r.1 q.1 a.1 b.1 (same_rest e) in
    cc

-- ---- a material

same-material : (m n : Material) (rest more : Run) → material_chunk m rest ≡ material_chunk n more → m ≡ n
same-material m n rest more e =
    let name = same_kids e in
    let ambient = same_rest name in
    let diffuse = same_rest ambient in
    let specular = same_rest diffuse in
    built (same_name m.name n.name (same_own name)) (colour (same_kids ambient)) (colour (same_kids diffuse)) (colour (same_kids specular))
  where
    colour : {c d : Colour} → known 0x0011 (rgb c) end end ≡ known 0x0011 (rgb d) end end → c ≡ d
    colour {c} {d} e = same-colour c d (same_own e)

    built : {a a' : List ℕ} {b b' c c' d d' : Colour} → a ≡ a' → b ≡ b' → c ≡ c' → d ≡ d' →
        ◌≡◌ {A = Material} (record { name = a; ambient = b; diffuse = c; specular = d }) (record { name = a'; ambient = b'; diffuse = c'; specular = d' })
    built p q r s = cc

-- ---- the figure

no-material : {A : Type 0} (m : Material) (rest : Run) (ps : List Object) → material_chunk m rest ≡ each object_chunk ps end → A
no-material m rest [] e = never e
no-material m rest (p ∷ ps) e = let n = same_id e in absurd (omega arith)

same-scene : (ms ns : List Material) (os ps : List Object) → All ObjectReady os → All ObjectReady ps → All Words os → All Words ps →
    each material_chunk ms (each object_chunk os end) ≡ each material_chunk ns (each object_chunk ps end) → (ms ≡ ns) × (os ≡ ps)
same-scene [] [] os ps r q a b e = (refl, same-objects os ps r q a b e)
same-scene [] (n ∷ ns) os ps r q a b e = no-material n _ os (sym e)
same-scene (m ∷ ms) [] os ps r q a b e = no-material m _ ps e
same-scene (m ∷ ms) (n ∷ ns) os ps r q a b e =
    let h = same-material m n _ _ e in
    let i = same-scene ms ns os ps r q a b (same_rest e) in
    let t = i.0 in
    (cc, i.1)

words_all : (os : List Object) → every (λ (o : Object). all_below (256 ^ 4) o.smoothing) os ≡ true → All Words os
unfolding every
words_all [] h = tt
words_all (o ∷ os) h = let k = and_parts (all_below (256 ^ 4) o.smoothing) _ h in (k.0, words_all os k.1)

pub nothing_lost : NothingLost
unfolding judged_figure
nothing_lost f g room size bf wf bg wg jf jg e =
    let rf = ready f room bf (met _ (answer-size (size_of f) size (broken (conditions f room)) jf).0) in
    let rg = ready g room bg (met _ (answer-size (size_of g) size (broken (conditions g room)) jg).0) in
    let meets-too = subst (λ (s : List ℕ). Meets s (layout g)) (sym e) (reads-back g room rg).meets-rules in
    let one = one-layout (bytes (figure (layout f))) (layout f) (layout g) (reads-back f room rf).meets-rules meets-too in
    let parts = same-scene f.materials g.materials f.objects g.objects rf.objects-ready rg.objects-ready
    (words_all f.objects wf) (words_all g.objects wg) (same_kids one) in
    figures_alike parts.1 parts.0
