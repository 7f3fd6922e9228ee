-- A test of a whole list, one piece more at the end: the one law of every loop here; and the pieces of each list.
use mathlib.Core.Path.{◌≡◌, refl, sym, ap, ◌∙◌}
use mathlib.Core.Bool.{Bool, true, false, ◌&&◌, and-false, and-true}
use mathlib.Core.List.{List, [], ◌∷◌, ◌++◌}
use mathlib.Core.Logic.{◌⊎◌, inl, inr}
use Prim.Native.Nat.{ℕ, zero, suc, ◌+◌, ◌*◌, max}
use native.Mathlib.Nat.{mul-suc, mul-zero, add_comm}
use native.Mathlib.Numerals.{add-one}
use native.Mathlib.Omega.{arith}
use lib.Dec.{ltb}
use lib.ListN.{take, drop}
use lib.Seq.{drop-drop}
use borrow.Author.Tests.{lt-ltb, le-ltb, ltb-true, ltb-false}
use Rattle.shared_words.specs.Bytes.{value, numbers}
use Rattle.shared_words.specs.Lists.{every}
use Rattle.studio_rules.specs.OwnData.{corners}
use Rattle.studio_rules.specs.Rules.{all_below}
use Rattle.shared_numbers.specs.Numbers.{word_at, long_at}

-- ---- the test

every_append : {A : Type 0} (p : A → Bool) (xs ys : List A) → every p (xs ++ ys) ≡ (every p xs && every p ys)
unfolding every
every_append p [] ys = refl
every_append p (x ∷ xs) ys = go (p x) (every_append p xs ys)
  where
    go : (b : Bool) → every p (xs ++ ys) ≡ (every p xs && every p ys) → (b && every p (xs ++ ys)) ≡ ((b && every p xs) && every p ys)
    go true e = e
    go false e = refl

-- `good` says whether the list so far passes: with a piece that fails it becomes false, with one that passes it stays
pub one_more : (p : ℕ → Bool) (whole sofar piece : List ℕ) → whole ≡ sofar ++ piece → (good good' : Bool) → good ≡ every p sofar →
    ((every p piece ≡ false) × (good' ≡ false)) ⊎ ((every p piece ≡ true) × (good' ≡ good)) → good' ≡ every p whole
one_more p whole sofar piece more good good' g (inl (e, f)) =
    f ∙ sym (ap (every p) more ∙ every_append p sofar piece ∙ ap (λ (b : Bool). every p sofar && b) e ∙ and-false (every p sofar))
one_more p whole sofar piece more good good' g (inr (e, f)) =
    f ∙ g ∙ sym (ap (every p) more ∙ every_append p sofar piece ∙ ap (λ (b : Bool). every p sofar && b) e ∙ and-true (every p sofar))

pub every_one : (p : ℕ → Bool) (x : ℕ) → every p (x ∷ []) ≡ p x
unfolding every
every_one p x = and-true (p x)

-- ---- the pieces

-- w (i + 1) elements on is w i on and w on
further : (w i : ℕ) (s : List ℕ) → drop (w * i) (drop w s) ≡ drop (w * suc i) s
further w i s = drop-drop (w * i) w s ∙ ap (λ (k : ℕ). drop k s) (add_comm w (w * i) ∙ sym (mul-suc w i))

numbers_more : (w i : ℕ) (s : List ℕ) → numbers w (suc i) s ≡ numbers w i s ++ (value (take w (drop (w * i) s)) ∷ [])
numbers_more w zero s = rw (mul-zero w)
numbers_more w (suc i) s = rw (← (further w i s)) (ap (λ (l : List ℕ). value (take w s) ∷ l) (numbers_more w i (drop w s)))

corners-more : (i : ℕ) (s : List ℕ) → corners (suc i) s ≡ corners i s ++ corners 1 (drop (8 * i) s)
corners-more zero s = refl
corners-more (suc i) s =
    rw (← (further 8 i s))
    (ap (λ (l : List ℕ). value (take 2 s) ∷ value (take 2 (drop 2 s)) ∷ value (take 2 (drop 4 s)) ∷ l) (corners-more i (drop 8 s)))

-- ---- the same, at positions of a list

pub longs_more : (s : List ℕ) (at i : ℕ) → numbers 4 (i + 1) (drop at s) ≡ numbers 4 i (drop at s) ++ (long_at s (at + 4 * i) ∷ [])
unfolding long_at
longs_more s at i = rw (add-one i, ← (drop-drop (4 * i) at s)) (numbers_more 4 i (drop at s))

pub words_more : (s : List ℕ) (at i : ℕ) → numbers 2 (i + 1) (drop at s) ≡ numbers 2 i (drop at s) ++ (word_at s (at + 2 * i) ∷ [])
unfolding word_at
words_more s at i = rw (add-one i, ← (drop-drop (2 * i) at s)) (numbers_more 2 i (drop at s))

pub faces-more : (s : List ℕ) (at i : ℕ) → corners (i + 1) (drop at s) ≡ corners i (drop at s) ++ corners 1 (drop (at + 8 * i) s)
faces-more s at i = rw (add-one i, ← (drop-drop (8 * i) at s)) (corners-more i (drop at s))

-- the largest of three is below n just where each is
largest-below : (a b c n : ℕ) → ltb (max (max a b) c) n ≡ (ltb a n && (ltb b n && ltb c n))
largest-below a b c n = go (ltb a n) refl (ltb b n) refl (ltb c n) refl
  where
    go : (x : Bool) → ltb a n ≡ x → (y : Bool) → ltb b n ≡ y → (z : Bool) → ltb c n ≡ z → ltb (max (max a b) c) n ≡ (x && (y && z))
    go false e y f z g = le-ltb (max (max a b) c) n (omega (arith, ltb-false a n e))
    go true e false f z g = le-ltb (max (max a b) c) n (omega (arith, ltb-false b n f))
    go true e true f false g = le-ltb (max (max a b) c) n (omega (arith, ltb-false c n g))
    go true e true f true g = lt-ltb (max (max a b) c) n (omega (arith, ltb-true a n e, ltb-true b n f, ltb-true c n g))

-- the three corners of a face
pub face-is : (s : List ℕ) (at n a b c : ℕ) → a ≡ word_at s at → b ≡ word_at s (at + 2) → c ≡ word_at s (at + 4) →
    ltb (max (max a b) c) n ≡ all_below n (corners 1 (drop at s))
unfolding every word_at
face-is s at n a b c e f g =
    largest-below a b c n ∙ rw (e, f, g, ← (drop-drop 2 at s), ← (drop-drop 4 at s), and-true)
