-- The numbers of a list in the file: which stands where.
use mathlib.Core.Path.{◌≡◌, sym, ap, ◌∙◌}
use mathlib.Core.Bool.{Bool, true}
use mathlib.Core.List.{List, [], ◌∷◌}
use Prim.Native.Nat.{ℕ, zero, suc, ◌+◌, ◌*◌, ◌<◌}
use native.Mathlib.Nat.{mul-suc, mul-zero, add_comm}
use native.Mathlib.Omega.{arith}
use lib.ListN.{length, take, drop, get_or}
use lib.Seq.{drop-drop}
use Rattle.shared_words.specs.Bytes.{value, numbers}
use Rattle.shared_words.specs.Lists.{every}
use Rattle.shared_words.proofs.Bools.{and_parts}
use Rattle.shared_words.proofs.Numbers.{length-numbers}
use Rattle.shared_numbers.specs.Numbers.{long_at}

numbers-at : (w n j : ℕ) (s : List ℕ) → j < n → get_or (numbers w n s) j 0 ≡ value (take w (drop (w * j) s))
numbers-at w zero j s h = absurd (omega arith)
numbers-at w (suc n) zero s h = rw (mul-zero w)
numbers-at w (suc n) (suc j) s h =
    numbers-at w n j (drop w s) (omega arith) ∙
    ap (λ (l : List ℕ). value (take w l)) (drop-drop (w * j) w s ∙ ap (λ (k : ℕ). drop k s) (add_comm w (w * j) ∙ sym (mul-suc w j)))

pub long_number : (s : List ℕ) (at n j : ℕ) → j < n → get_or (numbers 4 n (drop at s)) j 0 ≡ long_at s (at + 4 * j)
unfolding long_at
long_number s at n j h = numbers-at 4 n j (drop at s) h ∙ ap (λ (l : List ℕ). value (take 4 l)) (drop-drop (4 * j) at s)

-- what passes for each passes for one
pub every-at : {A : Type 0} (good : A → Bool) (xs : List A) (i : ℕ) (d : A) → i < length xs → every good xs ≡ true → good (get_or xs i d) ≡ true
unfolding every
every-at good [] i d h e = absurd (omega arith)
every-at good (x ∷ xs) zero d h e = (and_parts (good x) (every good xs) e).0
every-at good (x ∷ xs) (suc i) d h e = every-at good xs i d (omega arith) (and_parts (good x) (every good xs) e).1

pub long-passes : (p : ℕ → Bool) (s : List ℕ) (at n : ℕ) → every p (numbers 4 n (drop at s)) ≡ true → (j : ℕ) → j < n → p (long_at s (at + 4 * j)) ≡ true
long-passes p s at n h j l = rw (← (long_number s at n j l)) (every-at p (numbers 4 n (drop at s)) j 0 (omega (arith, length-numbers 4 n (drop at s))) h)
