-- The own data of each kind of chunk: how long it is, and what the rules read from it.
use mathlib.Core.Path.{◌≡◌, refl, sym, ap, ◌∙◌}
use Prim.Native.Nat.{ℕ, suc, ◌+◌, ◌*◌, ◌≤◌}
use native.Mathlib.Omega.{arith}
use mathlib.Core.Bool.{Bool, true, false, not, ◌&&◌, cond, false≢true}
use mathlib.Core.List.{List, [], ◌∷◌, ◌++◌, append_assoc}
use lib.Dec.{eqb, ltb}
use lib.ListN.{length, drop, length-append}
use lib.Seq.{drop_at, drop-drop}
use borrow.Author.Tests.{eqb-true, ne_eqb, ltb-true, lt-ltb}
use Rattle.shared_words.specs.Bytes.{le, packed}
use Rattle.shared_words.specs.Lists.{every}
use Rattle.studio_rules.specs.OwnData.{name_size, text, count, vertex_numbers, face_corners, face_numbers}
use Rattle.studio_rules.specs.Rules.{all_below}
use Rattle.shared_words.proofs.Bools.{or_second, every_weaker}
use Rattle.shared_words.proofs.Bytes.{length-packed, value-le}
use Rattle.studio_write_judge.specs.Judged.{triples, not_zero}
use Rattle.studio_write_bytes.specs.Bare.{name_data, face_data}
use Rattle.studio_write.proofs.Unpacked.{numbers-packed, corners-packed, name-text}
use Rattle.studio_figure_rules.specs.Given.{Group, Object}
use Rattle.studio_figure_rules.specs.Built.{vertex_list, group_data}
use Rattle.studio_figure_rules.specs.Judged.{none_or_each}
use Rattle.studio_figure_rules.proofs.Ready.{GroupReady, ObjectReady}

-- numbers below a count word are words
pub below_words : (n : ℕ) (xs : List ℕ) → n ≤ 0x1_0000 → all_below n xs ≡ true → all_below 0x1_0000 xs ≡ true
below_words n xs l =
    every_weaker (λ x. ltb x n) (λ x. ltb x 0x1_0000) xs (λ x h. let k = ltb-true x n h in lt-ltb x 0x1_0000 (omega arith))

pub length-name_data : (name : List ℕ) → length (name_data name) ≡ length name + 1
length-name_data name = length-append name (0 ∷ [])

-- ---- an object's lists

module _ (o : Object) (r : ObjectReady o) where
  pub vertex-count : count (vertex_list o.vertices) ≡ triples o.vertices
  vertex-count = let l = r.few-vertices in value-le 2 (triples o.vertices) (omega arith)

  pub face-count : count (face_data o.corners) ≡ triples o.corners
  face-count = let l = r.few-corners in value-le 2 (triples o.corners) (omega arith)

  pub length-vertices : length (vertex_list o.vertices) ≡ 2 + 12 * triples o.vertices
  length-vertices =
      let w = r.whole-vertices in
      length-append (le 2 (triples o.vertices)) (packed 4 o.vertices) ∙ omega (arith, length-packed 4 o.vertices)

  pub vertex-numbers : vertex_numbers (vertex_list o.vertices) ≡ o.vertices
  vertex-numbers =
      let w = r.whole-vertices in
      let n : 3 * triples o.vertices ≡ length o.vertices = omega arith in
      rw (vertex-count, n) (numbers-packed 4 o.vertices r.bits)

  pub face-corners : face_corners (face_data o.corners) ≡ o.corners
  face-corners =
      let w = r.whole-corners in
      let l = r.few-vertices in
      rw face-count (corners-packed (triples o.corners) o.corners (omega arith) (below_words (triples o.vertices) o.corners (omega arith) r.below))

-- ---- a face group

-- a name ends at its zero, whatever follows
pub name-ends : (name more : List ℕ) → every not_zero name ≡ true → name_size (name_data name ++ more) ≡ length (name_data name)
unfolding every
name-ends [] more h = refl
name-ends (b ∷ name) more h = go (eqb b 0) h (name-ends name more)
  where
    go : (z : Bool) → (not z && every not_zero name) ≡ true → (every not_zero name ≡ true → name_size (name_data name ++ more) ≡ length (name_data name)) →
        cond z 1 (suc (name_size (name_data name ++ more))) ≡ suc (length (name_data name))
    go true h ih = absurd (false≢true h)
    go false h ih = ap suc (ih h)

-- behind its name
abbrev behind : Group → List ℕ
behind g = le 2 (length g.faces) ++ packed 2 g.faces

pub length-group : (g : Group) → length (group_data g) ≡ length g.name + 3 + 2 * length g.faces
length-group g = length-append (name_data g.name) (behind g) ∙ omega (arith, length-name_data g.name, length-packed 2 g.faces)

module _ (f : ℕ) (g : Group) (r : GroupReady f g) where
  pub group-name : name_size (group_data g) ≡ length (name_data g.name)
  group-name = name-ends g.name (behind g) r.no_zero

  pub group-text : text (group_data g) ≡ g.name
  group-text = ap text (append_assoc g.name (0 ∷ []) (behind g)) ∙ name-text g.name (behind g) r.no_zero

  name-gone : drop (name_size (group_data g)) (group_data g) ≡ behind g
  name-gone = rw group-name (drop_at (name_data g.name) (behind g) (length (name_data g.name)) refl)

  pub group-count : count (drop (name_size (group_data g)) (group_data g)) ≡ length g.faces
  group-count = let l = r.few in ap count name-gone ∙ value-le 2 (length g.faces) (omega arith)

  pub group-faces : f ≤ 0x1_0000 → face_numbers (group_data g) ≡ g.faces
  group-faces l =
      let d : drop (name_size (group_data g) + 2) (group_data g) ≡ packed 2 g.faces =
      sym (drop-drop 2 (name_size (group_data g)) (group_data g)) ∙ ap (drop 2) name-gone in
      rw (group-count, d) (numbers-packed 2 g.faces (below_words f g.faces l r.below))

-- ---- smoothing words

-- where there are any there is one a face
pub one-a-face : (words faces : ℕ) → none_or_each (suc words) faces ≡ true → suc words ≡ faces
one-a-face words faces h = eqb-true (suc words) faces (or_second (eqb (suc words) 0) _ h (ne_eqb (suc words) 0 (λ e. omega arith)))
