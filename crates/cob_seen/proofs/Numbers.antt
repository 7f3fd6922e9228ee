-- The number of an identifier in a list where none is there twice.
use mathlib.Core.Path.{◌≡◌, refl, sym, ap, ◌∙◌}
use mathlib.Core.Bool.{Bool, true, false, cond}
use mathlib.Core.List.{List}
use Prim.Native.Nat.{ℕ, zero, suc, ◌<◌}
use native.Mathlib.Omega.{arith}
use lib.ListN.{get_or}
use lib.Dec.{eqb}
use borrow.Author.Tests.{eqb-true, eqb-false, ne_eqb}
use Rattle.std.specs.Prelude.{Option, Some, None}
use Rattle.cob_seen.specs.Tree.{number_in}

pub number_none : (ids : List ℕ) (n x : ℕ) → ((j : ℕ) → j < n → get_or ids j 0 ≡ x → ⊥) → number_in ids n x ≡ None
unfolding number_in
number_none ids zero x h = refl
number_none ids (suc n) x h = rw (ne_eqb (get_or ids n 0) x (h n (omega arith))) (number_none ids n x (λ j l. h j (omega arith)))

by_test : (b : Bool) (p q r : Option ℕ) → (b ≡ true → p ≡ r) → (b ≡ false → q ≡ r) → cond b p q ≡ r
by_test true p q r f g = f refl
by_test false p q r f g = g refl

pub number_is : (ids : List ℕ) (n x k : ℕ) → k < n → get_or ids k 0 ≡ x → ((j : ℕ) → j < n → get_or ids j 0 ≡ x → j ≡ k) → number_in ids n x ≡ Some k
unfolding number_in
number_is ids zero x k l e u = absurd (omega arith)
number_is ids (suc n) x k l e u =
    by_test (eqb (get_or ids n 0) x) (Some n) (number_in ids n x) (Some k)
    (λ t. ap Some (u n (omega arith) (eqb-true (get_or ids n 0) x t)))
    (λ t. let d : n ≡ k → ⊥ = λ q. eqb-false (get_or ids n 0) x t (ap (λ (i : ℕ). get_or ids i 0) q ∙ e) in
    number_is ids n x k (omega arith) e (λ j h. u j (omega arith)))

-- where an identifier has a number, it stands there
pub number_at : (ids : List ℕ) (n x k : ℕ) → number_in ids n x ≡ Some k → (k < n) × (get_or ids k 0 ≡ x)
unfolding number_in
number_at ids zero x k e = let z : ◌≡◌ {A = ℕ} 0 1 = cc in absurd (omega arith)
number_at ids (suc n) x k e = go (eqb (get_or ids n 0) x) refl e (number_at ids n x k)
  where
    go : (b : Bool) → eqb (get_or ids n 0) x ≡ b → cond b (Some n) (number_in ids n x) ≡ Some k →
        (number_in ids n x ≡ Some k → (k < n) × (get_or ids k 0 ≡ x)) → (k < suc n) × (get_or ids k 0 ≡ x)
    go true t h before =
        let q : n ≡ k = cc in
        (omega arith, ap (λ (i : ℕ). get_or ids i 0) (sym q) ∙ eqb-true (get_or ids n 0) x t)
    go false t h before = let a = before h in (omega arith, a.1)
