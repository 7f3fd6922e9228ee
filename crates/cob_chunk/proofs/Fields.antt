-- The numbers in the header of the chunk at an offset, and its kind.
use mathlib.Core.Path.{◌≡◌, refl, sym, ap, ◌∙◌}
use Prim.Native.Nat.{ℕ, ◌+◌, ◌≤◌}
use native.Mathlib.Omega.{arith}
use mathlib.Core.Bool.{Bool, true, false, ◌&&◌}
use mathlib.Core.List.{List}
use lib.Dec.{eqb}
use lib.ListN.{length, take, drop, length-take, length-drop, take-append-drop}
use lib.Seq.{drop-drop, take-take, take_all, length-take-le}
use borrow.Author.Tests.{eqb-true, eqb-false}
use Rattle.shared_words.specs.Bytes.{Bytes, value}
use Rattle.shared_words.specs.Lists.{same}
use Rattle.shared_words.proofs.Bytes.{bytes_take, bytes_drop, le-value}
use Rattle.shared_numbers.specs.Numbers.{long_at}
use Rattle.shared_numbers.proofs.Slices.{front-slice}
use Rattle.cob_rules.specs.Fields.{field}
use Rattle.cob_rules.specs.Kinds.{end_type, grou_type, polh_type, mat1_type}
use Rattle.cob_rules.specs.Layout.{kind, letters, identifier, parent, size_field}
use Rattle.cob_rules.specs.Walk.{chunk_at}
use Rattle.shared_words.proofs.Lists.{same_true, same_refl}
use Rattle.cob_chunk.specs.Chunks.{chunk_in, kind_by}

-- ---- numbers

field_in : (o w : ℕ) (s : List ℕ) (at : ℕ) → o + w ≤ 20 → field o w (take 20 (drop at s)) ≡ value (take w (drop (at + o) s))
field_in o w s at l = ap value (front-slice w o 20 (drop at s) l ∙ ap (take w) (drop-drop o at s))

module _ (s : List ℕ) (at : ℕ) where
  pub letters_in : letters (chunk_in s at) ≡ long_at s at
  unfolding chunk_at long_at
  letters_in = ap value (take-take 4 20 (drop at s) (omega arith))

  pub identifier_in : identifier (chunk_in s at) ≡ long_at s (at + 8)
  unfolding chunk_at long_at
  identifier_in = field_in 8 4 s at (omega arith)

  pub parent_in : parent (chunk_in s at) ≡ long_at s (at + 12)
  unfolding chunk_at long_at
  parent_in = field_in 12 4 s at (omega arith)

  pub size_in : size_field (chunk_in s at) ≡ long_at s (at + 16)
  unfolding chunk_at long_at
  size_in = field_in 16 4 s at (omega arith)

  pub head_in : at + 20 ≤ length s → length (chunk_in s at).head ≡ 20
  unfolding chunk_at
  head_in l = length-take-le 20 (drop at s) (omega (arith, length-drop at s))

-- ---- kinds

-- bytes of one number are the same
same-value : (a b : List ℕ) → Bytes a → Bytes b → length a ≡ length b → value a ≡ value b → a ≡ b
same-value a b p q l e = sym (le-value a p) ∙ rw (l, e) (le-value b q)

module _ (t u : List ℕ) (bt : Bytes t) (bu : Bytes u) (lt : length t ≡ 8) (lu : length u ≡ 8) where
  both-same : value (take 4 t) ≡ value (take 4 u) → value (drop 4 t) ≡ value (drop 4 u) → t ≡ u
  both-same a b =
      let x = same-value (take 4 t) (take 4 u) (bytes_take 4 t bt) (bytes_take 4 u bu) (omega (arith, length-take 4 t, length-take 4 u)) a in
      let y = same-value (drop 4 t) (drop 4 u) (bytes_drop 4 t bt) (bytes_drop 4 u bu) (omega (arith, length-drop 4 t, length-drop 4 u)) b in
      sym (take-append-drop 4 t) ∙ rw (x, y) (take-append-drop 4 u)

  not_same : (t ≡ u → ⊥) → same t u ≡ false
  not_same n = go (same t u) refl
    where
      go : (b : Bool) → same t u ≡ b → same t u ≡ false
      go true e = absurd (n (same_true t u e))
      go false e = e

  -- eight bytes are the same as two numbers are
  pub same_numbers : same t u ≡ (eqb (value (take 4 t)) (value (take 4 u)) && eqb (value (drop 4 t)) (value (drop 4 u)))
  same_numbers = go (eqb (value (take 4 t)) (value (take 4 u))) refl (eqb (value (drop 4 t)) (value (drop 4 u))) refl
    where
      go : (a : Bool) → eqb (value (take 4 t)) (value (take 4 u)) ≡ a → (b : Bool) → eqb (value (drop 4 t)) (value (drop 4 u)) ≡ b → same t u ≡ (a && b)
      go false e b f = not_same (λ q. eqb-false _ _ e (ap (λ (x : List ℕ). value (take 4 x)) q))
      go true e false f = not_same (λ q. eqb-false _ _ f (ap (λ (x : List ℕ). value (drop 4 x)) q))
      go true e true f = let q = both-same (eqb-true _ _ e) (eqb-true _ _ f) in rw q (same_refl u)

module _ (s : List ℕ) (at : ℕ) (b : Bytes s) (l : at + 20 ≤ length s) where
  eight : List ℕ
  eight = take 8 (drop at s)

  eight-long : length eight ≡ 8
  unfolding eight
  eight-long = length-take-le 8 (drop at s) (omega (arith, length-drop at s))

  first-four : value (take 4 eight) ≡ long_at s at
  unfolding eight long_at
  first-four = ap value (take-take 4 8 (drop at s) (omega arith))

  last_four : value (drop 4 eight) ≡ long_at s (at + 4)
  unfolding eight long_at
  last_four =
      ap value (sym (take_all 4 (drop 4 (take 8 (drop at s))) (omega (arith, length-drop 4 (take 8 (drop at s)), length-take 8 (drop at s)))) ∙
      front-slice 4 4 8 (drop at s) (omega arith) ∙ ap (take 4) (drop-drop 4 at s))

  type_is : (u : List ℕ) → Bytes u → length u ≡ 8 → same eight u ≡ (eqb (long_at s at) (value (take 4 u)) && eqb (long_at s (at + 4)) (value (drop 4 u)))
  unfolding eight
  type_is u bu lu = same_numbers eight u (bytes_take 8 (drop at s) (bytes_drop at s b)) bu eight-long lu ∙ rw (first-four, last_four)

  pub kind_in_lem : kind (chunk_in s at) ≡ kind_by (long_at s at) (long_at s (at + 4))
  unfolding chunk_at eight
  kind_in_lem =
      rw (
        take-take 8 20 (drop at s) (omega arith),
        type_is end_type (omega arith, (omega arith, (omega arith, (omega arith, (omega arith, (omega arith, (omega arith, (omega arith, tt)))))))) refl,
        type_is grou_type (omega arith, (omega arith, (omega arith, (omega arith, (omega arith, (omega arith, (omega arith, (omega arith, tt)))))))) refl,
        type_is polh_type (omega arith, (omega arith, (omega arith, (omega arith, (omega arith, (omega arith, (omega arith, (omega arith, tt)))))))) refl,
        type_is mat1_type (omega arith, (omega arith, (omega arith, (omega arith, (omega arith, (omega arith, (omega arith, (omega arith, tt)))))))) refl,
      )
