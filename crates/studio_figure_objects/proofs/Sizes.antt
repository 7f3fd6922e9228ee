-- Sizes, as far as they matter: over the limit, or what is written.
use mathlib.Core.Path.{◌≡◌, refl, ap}
use Prim.Native.Nat.{ℕ, zero, suc, ◌+◌, ◌-◌, ◌*◌, ◌/◌, ◌<◌, ◌≤◌}
use native.Mathlib.Omega.{arith}
use mathlib.Core.Bool.{Bool, true, false}
use mathlib.Core.List.{List}
use lib.Dec.{leb}
use borrow.Author.Tests.{leb-true, leb-false}
use Rattle.shared_words.specs.Lists.{total}
use Rattle.studio_figure_rows.specs.Rows.{entry, sum_to, run, Capped}
use Rattle.studio_figure_rows.proofs.Runs.{run-opened, run_none}
use Rattle.studio_figure_objects.specs.Sizes.{size_of_words, group_bytes, object_bytes}

pub words_size : (n : ℕ) → (n ≡ 0 → ⊥) → 6 + 4 * n ≡ size_of_words n
words_size zero h = absurd (h refl)
words_size (suc n) h = refl

pub words_most : (n : ℕ) → size_of_words n ≤ 6 + 4 * n
words_most zero = omega arith
words_most (suc n) = omega arith

-- ---- one object

module _ (objects groups : List ℕ) (i g n : ℕ) (e : g ≡ sum_to 5 4 objects i) (f : n ≡ entry 5 4 objects i) where
  same_bytes : group_bytes groups (sum_to 5 4 objects i) (entry 5 4 objects i) ≡ group_bytes groups g n
  same_bytes = rw (← e, ← f)

  -- a sum of its groups is over the limit
  pub names-over : sum_to 2 0 groups g + 1048576 < sum_to 2 0 groups (g + n) → 1048576 < object_bytes objects groups i
  names-over h = omega (arith, same_bytes)

  pub faces-over : sum_to 2 1 groups g + 1048576 < sum_to 2 1 groups (g + n) → 1048576 < object_bytes objects groups i
  faces-over h = omega (arith, same_bytes)

  pub object-is : (a b k w names faces : ℕ) → a ≡ entry 5 0 objects i → b ≡ entry 5 1 objects i → k ≡ entry 5 2 objects i → w ≡ size_of_words (entry 5 3 objects i) →
      sum_to 2 0 groups g + names ≡ sum_to 2 0 groups (g + n) → sum_to 2 1 groups g + faces ≡ sum_to 2 1 groups (g + n) →
      29 + a + (12 * (b / 3) + 8 * (k / 3)) + 9 * n + names + 2 * faces + w ≡ object_bytes objects groups i
  object-is a b k w names faces ea eb ek ew en ef =
      let x : b / 3 ≡ entry 5 1 objects i / 3 = ap (λ (t : ℕ). t / 3) eb in
      let y : k / 3 ≡ entry 5 2 objects i / 3 = ap (λ (t : ℕ). t / 3) ek in
      omega (arith, same_bytes)

-- over the limit, or exact
pub sized-over : (all : ℕ) → 1048576 < all → Capped 0 all 1048576 1048577
sized-over all h = record { exact = λ l. absurd (omega arith); past = λ l. omega arith; within = omega arith }

pub sized-is : (all size : ℕ) → size ≡ all → size ≤ 1048576 → Capped 0 all 1048576 size
sized-is all size e h = record { exact = λ l. omega arith; past = λ l. absurd (omega arith); within = omega arith }

-- ---- all objects

-- a size so far, and the rest
pub record Sized (all size rest : ℕ) : Type 0 where
  pub exact : size ≤ 1048576 → size + rest ≡ all
  pub past : 1048576 < size → 1048576 < all
  pub within : size ≤ 4296015871

module _ (f : ℕ → ℕ) (first n : ℕ) where
  abbrev pub Sizing : ℕ → ℕ → Type 0
  Sizing i size = Sized (first + total f (run (λ (k : ℕ). k) 0 n)) size (total f (run (λ (k : ℕ). k) i (n - i)))

  pub sizing_none : first ≤ 4296015871 → Sizing 0 first
  sizing_none h =
      let z : n - 0 ≡ n = omega arith in
      let e : total f (run (λ (k : ℕ). k) 0 (n - 0)) ≡ total f (run (λ (k : ℕ). k) 0 n) = rw z in
      record { exact = λ l. omega arith; past = λ l. omega arith; within = h }

  pub sizing_on : (i size r : ℕ) → i < n → size ≤ 1048576 → Sizing i size → Capped 0 (f i) 1048576 r → r ≤ 1048577 → Sizing (i + 1) (size + r)
  sizing_on i size r h l s o w = go (leb r 1048576) refl
    where
      next : total f (run (λ (k : ℕ). k) i (n - i)) ≡ f i + total f (run (λ (k : ℕ). k) (i + 1) (n - (i + 1)))
      next = ap (total f) (run-opened (λ (k : ℕ). k) i n h)

      go : (b : Bool) → leb r 1048576 ≡ b → Sizing (i + 1) (size + r)
      go true e =
          let x = s.exact l in
          let y = o.exact (leb-true r 1048576 e) in
          record { exact = λ q. omega (arith, next); past = λ q. omega (arith, next); within = omega arith }
      go false e =
          let x = s.exact l in
          let y = o.past (leb-false r 1048576 e) in
          let z = leb-false r 1048576 e in
          record { exact = λ q. absurd (omega arith); past = λ q. omega (arith, next); within = omega arith }

  pub sizing_left : (i size : ℕ) → 1048576 < size → Sizing i size → Capped 0 (first + total f (run (λ (k : ℕ). k) 0 n)) 1048576 size
  sizing_left i size l s = let p = s.past l in let w = s.within in record { exact = λ q. absurd (omega arith); past = λ q. omega arith; within = omega arith }

  pub sizing_all : (i size : ℕ) → n ≤ i → Sizing i size → Capped 0 (first + total f (run (λ (k : ℕ). k) 0 n)) 1048576 size
  sizing_all i size h s =
      let none : total f (run (λ (k : ℕ). k) i (n - i)) ≡ 0 = ap (total f) (run_none (λ (k : ℕ). k) i n h) in
      let w = s.within in
      record { exact = λ q. omega (arith, s.exact q); past = λ q. omega (arith, s.past q); within = omega arith }
