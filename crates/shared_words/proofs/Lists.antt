-- Laws of lists: the same numbers, as a test and as an equation; what passes at each, passes at one; a property of each element, and
-- a relation of each pair, of lists joined.
use mathlib.Core.Path.{◌≡◌, refl, ap, ◌∙◌}
use Prim.Native.Nat.{ℕ}
use mathlib.Core.Bool.{Bool, true, false, false≢true}
use mathlib.Core.List.{List, [], ◌∷◌, ◌++◌}
use lib.Dec.{eqb}
use borrow.Author.Tests.{eqb-true, eq-eqb}
use Rattle.shared_words.specs.Lists.{same, every, among, All, Pairwise}
use Rattle.shared_words.proofs.Bools.{both, and_parts}

pub same_true : (xs ys : List ℕ) → same xs ys ≡ true → xs ≡ ys
same_true [] [] h = refl
same_true [] (y ∷ ys) h = absurd (false≢true h)
same_true (x ∷ xs) [] h = absurd (false≢true h)
same_true (x ∷ xs) (y ∷ ys) h =
    let k = and_parts (eqb x y) (same xs ys) h in
    rw (eqb-true x y k.0, same_true xs ys k.1)

pub same_refl : (xs : List ℕ) → same xs xs ≡ true
same_refl [] = refl
same_refl (x ∷ xs) = both (eqb x x) (same xs xs) (eq-eqb x x refl) (same_refl xs)

-- what holds of each holds of one of them
pub among-every : (test : ℕ → Bool) (x : ℕ) (ys : List ℕ) → every test ys ≡ true → among x ys ≡ true → test x ≡ true
unfolding every
among-every test x [] h a = absurd (false≢true a)
among-every test x (y ∷ ys) h a = go (eqb x y) refl (among-every test x ys (and_parts (test y) (every test ys) h).1)
  where
    go : (q : Bool) → eqb x y ≡ q → (among x ys ≡ true → test x ≡ true) → test x ≡ true
    go true e r = ap test (eqb-true x y e) ∙ (and_parts (test y) (every test ys) h).0
    go false e r = r (rw e at a)

pub all_append : {A : Type 0} (P : A → Type 0) (xs ys : List A) → All P xs → All P ys → All P (xs ++ ys)
all_append P [] ys h k = k
all_append P (x ∷ xs) ys h k = (h.0, all_append P xs ys h.1 k)

pub pairwise_append : {A B : Type 0} (R : A → B → Type 0) (xs ys : List A) (us vs : List B) → Pairwise R xs us → Pairwise R ys vs → Pairwise R (xs ++ ys) (us ++ vs)
pairwise_append R [] ys [] vs h k = k
pairwise_append R [] ys (u ∷ us) vs h k = absurd h
pairwise_append R (x ∷ xs) ys [] vs h k = absurd h
pairwise_append R (x ∷ xs) ys (u ∷ us) vs h k = (h.0, pairwise_append R xs ys us vs h.1 k)
