-- Two names that are one with a third are one.
use mathlib.Core.Path.{◌≡◌, refl, sym, ◌∙◌}
use mathlib.Core.Bool.{true, false, false≢true}
use mathlib.Core.List.{List, [], ◌∷◌}
use Prim.Native.Nat.{ℕ}
use lib.Dec.{eqb}
use borrow.Author.Tests.{eqb-true, eq-eqb}
use Rattle.stick_rules.specs.Names.{lower, equal_ignoring_case}
use Rattle.shared_words.proofs.Bools.{both, and_parts}

pub alike_meet : (a b c : List ℕ) → equal_ignoring_case a c ≡ true → equal_ignoring_case b c ≡ true → equal_ignoring_case a b ≡ true
unfolding equal_ignoring_case
alike_meet [] [] c h k = refl
alike_meet [] (y ∷ b) [] h k = k
alike_meet [] (y ∷ b) (z ∷ c) h k = h
alike_meet (x ∷ a) [] [] h k = h
alike_meet (x ∷ a) [] (z ∷ c) h k = k
alike_meet (x ∷ a) (y ∷ b) [] h k = absurd (false≢true h)
alike_meet (x ∷ a) (y ∷ b) (z ∷ c) h k =
    let p = and_parts (eqb (lower x) (lower z)) (equal_ignoring_case a c) h in
    let q = and_parts (eqb (lower y) (lower z)) (equal_ignoring_case b c) k in
    both (eqb (lower x) (lower y)) (equal_ignoring_case a b)
    (eq-eqb (lower x) (lower y) (eqb-true (lower x) (lower z) p.0 ∙ sym (eqb-true (lower y) (lower z) q.0)))
    (alike_meet a b c p.1 q.1)

pub alike_self : (a : List ℕ) → equal_ignoring_case a a ≡ true
unfolding equal_ignoring_case
alike_self [] = refl
alike_self (x ∷ a) = both (eqb (lower x) (lower x)) (equal_ignoring_case a a) (eq-eqb (lower x) (lower x) refl) (alike_self a)

pub alike_turned : (a b : List ℕ) → equal_ignoring_case a b ≡ true → equal_ignoring_case b a ≡ true
alike_turned a b h = alike_meet b a b (alike_self b) h

pub alike_through : (a b c : List ℕ) → equal_ignoring_case a b ≡ true → equal_ignoring_case b c ≡ true → equal_ignoring_case a c ≡ true
alike_through a b c h k = alike_meet a c b h (alike_turned b c k)
