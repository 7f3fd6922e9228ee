-- What holds of each element of a list, as facts and as a test; and parts of lists.
use mathlib.Core.Path.{◌≡◌, refl}
use Prim.Native.Nat.{ℕ, zero, suc}
use mathlib.Core.Bool.{Bool, true}
use mathlib.Core.List.{List, [], ◌∷◌, ◌++◌}
use lib.ListN.{take, drop}
use Rattle.shared_words.specs.Lists.{every, All}
use Rattle.shared_words.proofs.Bools.{both, and_parts}

pub all_of : {A : Type 0} {P : A → Type 0} → ((x : A) → P x) → (xs : List A) → All P xs
all_of h [] = tt
all_of h (x ∷ xs) = (h x, all_of h xs)

pub all_map : {A : Type 0} {P Q : A → Type 0} → ((x : A) → P x → Q x) → (xs : List A) → All P xs → All Q xs
all_map h [] a = tt
all_map h (x ∷ xs) a = (h x a.0, all_map h xs a.1)

-- ---- a test that each element passes

module _ {A : Type 0} (p : A → Bool) where
  pub every-both : (xs ys : List A) → every p xs ≡ true → every p ys ≡ true → every p (xs ++ ys) ≡ true
  unfolding every
  every-both [] ys h k = k
  every-both (x ∷ xs) ys h k = let q = and_parts (p x) (every p xs) h in both (p x) _ q.0 (every-both xs ys q.1 k)

  pub every-parts : (xs ys : List A) → every p (xs ++ ys) ≡ true → (every p xs ≡ true) × (every p ys ≡ true)
  unfolding every
  every-parts [] ys h = (refl, h)
  every-parts (x ∷ xs) ys h =
      let k = and_parts (p x) (every p (xs ++ ys)) h in
      let q = every-parts xs ys k.1 in
      (both (p x) (every p xs) k.0 q.0, q.1)

  pub every_take : (n : ℕ) (xs : List A) → every p xs ≡ true → every p (take n xs) ≡ true
  unfolding every
  every_take zero xs h = refl
  every_take (suc n) [] h = refl
  every_take (suc n) (x ∷ xs) h = let k = and_parts (p x) (every p xs) h in both (p x) _ k.0 (every_take n xs k.1)

  pub every_drop : (n : ℕ) (xs : List A) → every p xs ≡ true → every p (drop n xs) ≡ true
  unfolding every
  every_drop zero xs h = h
  every_drop (suc n) [] h = refl
  every_drop (suc n) (x ∷ xs) h = every_drop n xs (and_parts (p x) (every p xs) h).1
