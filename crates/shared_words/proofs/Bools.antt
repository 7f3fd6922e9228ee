-- Laws of tests: both of two, one of two, each of a list.
use mathlib.Core.Path.{◌≡◌, refl}
use Prim.Native.Nat.{◌≤◌}
use native.Mathlib.Omega.{arith}
use mathlib.Core.Bool.{Bool, true, false, ◌&&◌, ◌||◌, true≢false, false≢true, cond}
use mathlib.Core.List.{List, [], ◌∷◌}
use Rattle.shared_words.specs.Lists.{every}

pub both : (a b : Bool) → a ≡ true → b ≡ true → (a && b) ≡ true
both true b h k = k
both false b h k = h

pub and_parts : (a b : Bool) → (a && b) ≡ true → (a ≡ true) × (b ≡ true)
and_parts true b h = (refl, h)
and_parts false b h = absurd (false≢true h)

-- one of two, by what the second is where the first does not hold
pub or_else : (a b : Bool) → (a ≡ false → b ≡ true) → (a || b) ≡ true
or_else true b h = refl
or_else false b h = h refl

pub or_second : (a b : Bool) → (a || b) ≡ true → a ≡ false → b ≡ true
or_second true b h k = absurd (true≢false k)
or_second false b h k = h

-- what holds of both branches of a test holds of it
pub by_test : {A : Type 0} (P : A → Type 0) (b : Bool) {x y : A} → P x → P y → P (cond b x y)
by_test P true p q = p
by_test P false p q = q

-- a test as a number
pub bit_small : (b : Bool) → cond b 1 0 ≤ 1
bit_small true = omega arith
bit_small false = omega arith

-- where each passes one test, each passes a weaker one
pub every_weaker : {A : Type 0} (p q : A → Bool) (xs : List A) → ((x : A) → p x ≡ true → q x ≡ true) → every p xs ≡ true → every q xs ≡ true
unfolding every
every_weaker p q [] w h = refl
every_weaker p q (x ∷ xs) w h =
    let k = and_parts (p x) (every p xs) h in
    both (q x) (every q xs) (w x k.0) (every_weaker p q xs w k.1)

pub every_nil : {A : Type 0} (p : A → Bool) → every p [] ≡ true
unfolding every
every_nil p = refl
