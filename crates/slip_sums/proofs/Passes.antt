-- What passes against an entry.
use Rattle.std.specs.Prelude.{Ok}
use mathlib.Core.Path.{◌≡◌, refl, sym, ap, ◌∙◌}
use mathlib.Core.Bool.{Bool, true, false}
use mathlib.Core.List.{flatten}
use Prim.Native.Nat.{ℕ, ◌-◌, ◌^◌, ◌<◌, min}
use native.Mathlib.Omega.{arith}
use lib.Dec.{eqb}
use lib.ListN.{length}
use borrow.Author.Tests.{eq-eqb, ne_eqb, eqb-true, eqb-false}
use Rattle.slip_sums.specs.declared.Sum.{Sum}
use Rattle.slip_sums.specs.Fletcher.{sum_of}
use Rattle.slip_sums.specs.Passes.{length_fault, other_sums, match_of, PassesExactly, SamePartByPart}
use Rattle.slip_sums.proofs.Remainders.{sum_same}
use Rattle.slip_sums.proofs.Joined.{part-by-part}

-- the same sums pass
passes : (a : Sum) → match_of a a.len a.first a.second ≡ (Ok tt)
passes a = rw (eq-eqb a.len a.len refl, eq-eqb a.first a.first refl, eq-eqb a.second a.second refl)

-- and no others
same : (a b : Sum) → match_of a b.len b.first b.second ≡ (Ok tt) → a ≡ b
same a b = go (eqb a.len b.len) refl (eqb a.first b.first) refl (eqb a.second b.second) refl
  where
    other_length : length_fault ≡ (Ok tt) → ⊥
    other_length p = let z : ◌≡◌ {A = ℕ} 0 1 = cc in omega arith

    other_sums_lem : other_sums ≡ (Ok tt) → ⊥
    other_sums_lem p = let z : ◌≡◌ {A = ℕ} 0 1 = cc in omega arith

    go : (t : Bool) → eqb a.len b.len ≡ t → (u : Bool) → eqb a.first b.first ≡ u → (v : Bool) → eqb a.second b.second ≡ v →
        match_of a b.len b.first b.second ≡ (Ok tt) → a ≡ b
    go true e true f true g p = sum_same (eqb-true _ _ e) (eqb-true _ _ f) (eqb-true _ _ g)
    go true e true f false g p = absurd (other_sums_lem (rw (e, f, g) at p))
    go true e false f v g p = absurd (other_sums_lem (rw (e, f) at p))
    go false e u f v g p = absurd (other_length (rw e at p))

pub passes_exactly : PassesExactly
passes_exactly file original =
    let a = sum_of file in
    (same a (sum_of original), λ e. ap (λ (b : Sum). match_of a b.len b.first b.second) (sym e) ∙ passes a)

-- sums of the same length that are not the same
pub differs : (a b : Sum) → a.len ≡ b.len → ¬ (a ≡ b) → match_of a b.len b.first b.second ≡ other_sums
differs a b l h = go (eqb a.first b.first) refl (eqb a.second b.second) refl
  where
    go : (t : Bool) → eqb a.first b.first ≡ t → (u : Bool) → eqb a.second b.second ≡ u → match_of a b.len b.first b.second ≡ other_sums
    go true e true f = absurd (h (sum_same l (eqb-true _ _ e) (eqb-true _ _ f)))
    go true e false f = rw (eq-eqb _ _ l, e, f)
    go false e u f = rw (eq-eqb _ _ l, e)

-- a limit above the length asked for changes no test of it
cap_asked : (n l : ℕ) → l < 2 ^ 48 - 1 → eqb (min n (2 ^ 48 - 1)) l ≡ eqb n l
cap_asked n l h = go (eqb n l) refl
  where
    go : (t : Bool) → eqb n l ≡ t → eqb (min n (2 ^ 48 - 1)) l ≡ t
    go true e = eq-eqb (min n (2 ^ 48 - 1)) l (omega (arith, eqb-true n l e))
    go false e = ne_eqb (min n (2 ^ 48 - 1)) l (λ f. eqb-false n l e (omega arith))

pub same-part-by-part : SamePartByPart
same-part-by-part parts l first second h =
    ap (λ (a : Sum). match_of a l first second) (part-by-part parts) ∙ rw (cap_asked (length (flatten parts)) l h)
