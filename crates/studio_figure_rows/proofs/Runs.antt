-- Things by number: parts of a run, and what is made of each of them.
use mathlib.Core.Path.{◌≡◌, refl, ap, ◌∙◌, sym}
use Prim.Native.Nat.{ℕ, zero, suc, ◌+◌, ◌-◌, ◌*◌, ◌≤◌, ◌<◌}
use native.Mathlib.Nat.{suc-add, mul-suc, mul-le-mul_left, le_trans, le_of_eq}
use native.Mathlib.Omega.{arith}
use mathlib.Core.Bool.{Bool, true, false}
use mathlib.Core.List.{List, [], ◌∷◌, ◌++◌, map}
use lib.Dec.{eqb, leb}
use lib.ListN.{length, take, drop, get_or, length-drop}
use lib.Seq.{length-take-le}
use borrow.Author.Tests.{eqb-true, eqb-false, eq-eqb, ne_eqb, leb-true, leb-false}
use Rattle.studio_figure_rows.specs.Rows.{entry, sum_to, run, part, Capped}

module _ {A : Type 0} (thing : ℕ → A) where
  pub run_length : (i n : ℕ) → length (run thing i n) ≡ n
  run_length i zero = refl
  run_length i (suc n) = ap suc (run_length (suc i) n)

  pub run_drop : (k i n : ℕ) → drop k (run thing i (k + n)) ≡ run thing (i + k) n
  run_drop zero i n = let a : 0 + n ≡ n = omega arith in let b : i + 0 ≡ i = omega arith in rw (a, b)
  run_drop (suc k) i n = let b : suc i + k ≡ i + suc k = omega arith in rw (suc-add k n) (run_drop k (suc i) n ∙ ap (λ (t : ℕ). run thing t n) b)

  pub run_take : (k i n : ℕ) → take k (run thing i (k + n)) ≡ run thing i k
  run_take zero i n = refl
  run_take (suc k) i n = rw (suc-add k n) (ap (λ (l : List A). thing i ∷ l) (run_take k (suc i) n))

  -- a part of the things from 0 on
  pub run-part : (at k n : ℕ) → at + k ≤ n → take k (drop at (run thing 0 n)) ≡ run thing at k
  run-part at k n h =
      let a : n ≡ at + (k + (n - at - k)) = omega arith in
      let b : 0 + at ≡ at = omega arith in
      ap (λ (t : ℕ). take k (drop at (run thing 0 t))) a ∙ ap (take k) (run_drop at 0 (k + (n - at - k)) ∙ ap (λ (t : ℕ). run thing t (k + (n - at - k))) b) ∙ run_take k at (n - at - k)

  pub run_get : (i n j : ℕ) (d : A) → j < n → get_or (run thing i n) j d ≡ thing (i + j)
  run_get i zero j d h = absurd (omega arith)
  run_get i (suc n) zero d h = let a : i + 0 ≡ i = omega arith in rw a
  run_get i (suc n) (suc j) d h = let a : suc i + j ≡ i + suc j = omega arith in run_get (suc i) n j d (omega arith) ∙ rw a

  -- the first of those left, and the others
  pub run-opened : (i n : ℕ) → i < n → run thing i (n - i) ≡ thing i ∷ run thing (i + 1) (n - (i + 1))
  run-opened i n h =
      let a : n - i ≡ suc (n - (i + 1)) = omega arith in
      let b : suc i ≡ i + 1 = omega arith in
      ap (λ (t : ℕ). run thing i t) a ∙ ap (λ (t : ℕ). thing i ∷ run thing t (n - (i + 1))) b

  pub run_none : (i n : ℕ) → n ≤ i → run thing i (n - i) ≡ []
  run_none i n h = let a : n - i ≡ 0 = omega arith in ap (λ (t : ℕ). run thing i t) a

  pub run-joined : (i m n : ℕ) → run thing i (m + n) ≡ run thing i m ++ run thing (i + m) n
  run-joined i zero n = let a : 0 + n ≡ n = omega arith in let b : i + 0 ≡ i = omega arith in rw (a, b)
  run-joined i (suc m) n = let b : suc i + m ≡ i + suc m = omega arith in rw (suc-add m n) (ap (λ (l : List A). thing i ∷ l) (run-joined (suc i) m n ∙ ap (λ (t : ℕ). run thing (suc i) m ++ run thing t n) b))

  pub run-map : {B : Type 0} (f : A → B) (i n : ℕ) → map f (run thing i n) ≡ run (λ k. f (thing k)) i n
  run-map f i zero = refl
  run-map f i (suc n) = ap (λ l. f (thing i) ∷ l) (run-map f (suc i) n)

-- things that are the same one by one
pub run-same : {A : Type 0} (f g : ℕ → A) (i n : ℕ) → ((k : ℕ) → i ≤ k → k < i + n → f k ≡ g k) → run f i n ≡ run g i n
run-same f g i zero h = refl
run-same f g i (suc n) h = rw (h i (omega arith) (omega arith), run-same f g (suc i) n (λ k a b. h k (omega arith) (omega arith)))

-- ---- sums

pub sum-next : (k j : ℕ) (s : List ℕ) (i : ℕ) → sum_to k j s (i + 1) ≡ sum_to k j s i + entry k j s i
sum-next k j s i = let a : i + 1 ≡ suc i = omega arith in rw a

pub sum-up : (k j : ℕ) (s : List ℕ) (i n : ℕ) → i ≤ n → sum_to k j s i ≤ sum_to k j s n
sum-up k j s i n h = let a : i + (n - i) ≡ n = omega arith in rw a at (go (n - i))
  where
    go : (m : ℕ) → sum_to k j s i ≤ sum_to k j s (i + m)
    go zero = let a : i + 0 ≡ i = omega arith in rw a (omega arith)
    go (suc m) = let a : i + suc m ≡ suc (i + m) = omega arith in rw a (omega (arith, go m))

-- what one of n takes is inside what all take
pub sum_inside : (k j : ℕ) (s : List ℕ) (i n : ℕ) → i < n → sum_to k j s i + entry k j s i ≤ sum_to k j s n
sum_inside k j s i n h = rw (sum-next k j s i) at (sum-up k j s (i + 1) n (omega arith))

-- the numbers of one of n things of k numbers each
pub stride : (k i n : ℕ) → i < n → k * i + k ≤ k * n
stride k i n h = le_trans (le_of_eq (sym (mul-suc k i))) (mul-le-mul_left k h)

-- a sum that was left, and one that was finished
pub capped-past : (before here all cap sum : ℕ) → before + sum ≡ here → here ≤ all → cap < sum → sum ≤ cap + 4_294_967_295 → Capped before all cap sum
capped-past before here all cap sum e h p w = record { exact = λ l. absurd (omega arith); past = λ q. omega arith; within = w }

pub capped-all : (before all cap sum : ℕ) → before + sum ≡ all → sum ≤ cap + 4_294_967_295 → Capped before all cap sum
capped-all before all cap sum e w = record { exact = λ l. e; past = λ q. omega arith; within = w }

-- the sum is its cap exactly when all is
pub capped_is : (all cap sum : ℕ) → Capped 0 all cap sum → eqb sum cap ≡ eqb cap all
capped_is all cap sum h = go (eqb sum cap) refl
  where
    is : (b : Bool) → leb sum cap ≡ b → cap ≡ all → sum ≡ cap
    is true e p = omega (arith, h.exact (leb-true sum cap e))
    is false e p = absurd (omega (arith, h.past (leb-false sum cap e)))

    go : (b : Bool) → eqb sum cap ≡ b → b ≡ eqb cap all
    go true e = let q = eqb-true sum cap e in sym (eq-eqb cap all (omega (arith, h.exact (omega arith))))
    go false e = sym (ne_eqb cap all (λ (p : cap ≡ all). eqb-false sum cap e (is (leb sum cap) refl p)))

-- two tests that hold together
pub shift_eqb : (a b c d : ℕ) → (a ≡ b → c ≡ d) → (c ≡ d → a ≡ b) → eqb a b ≡ eqb c d
shift_eqb a b c d f g = go (eqb a b) refl
  where
    go : (t : Bool) → eqb a b ≡ t → t ≡ eqb c d
    go true h = sym (eq-eqb c d (f (eqb-true a b h)))
    go false h = sym (ne_eqb c d (λ (p : c ≡ d). eqb-false a b h (g p)))

-- a part from `at` to `at + n`, where both are known by equations
pub part_length : {A : Type 0} (at n : ℕ) (row : List A) → at + n ≤ length row → length (part at n row) ≡ n
part_length at n row h = length-take-le n (drop at row) (omega (arith, length-drop at row))

pub part-is : {A : Type 0} (row : List A) (at n from to : ℕ) → at ≡ from → n ≡ to → part at (at + n - at) row ≡ part from to row
part-is row at n from to e f = let g : at + n - at ≡ to = omega arith in rw (g, e)

-- a cap that is not reached
pub capped-under : (before all cap sum : ℕ) → Capped before all cap sum → all ≤ cap → before + sum ≡ all
capped-under before all cap sum h u = go (leb sum cap) refl
  where
    go : (b : Bool) → leb sum cap ≡ b → before + sum ≡ all
    go true e = h.exact (leb-true sum cap e)
    go false e = absurd (omega (arith, h.past (leb-false sum cap e)))
