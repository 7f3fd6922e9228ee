-- The one law of low and high: taking each next float where it comes before the best so far gives the first of the best.
use mathlib.Core.Path.{◌≡◌, refl, subst, sym}
use mathlib.Core.Bool.{Bool, true, false, cond}
use mathlib.Core.Logic.{◌⊎◌, inl, inr}
use Prim.Native.Nat.{ℕ, zero, suc, ◌<◌, ◌≤◌}
use native.Mathlib.Nat.{eq-or-lt_of_le}
use native.Mathlib.Omega.{arith}
use lib.Ieee.{Float}
use Rattle.studio_mesh_box.specs.Around.{FirstOf}
use Rattle.studio_mesh_box.proofs.Order.{Finite}
use Rattle.studio_mesh_box.proofs.Strict.{Strict, through}

module _ (before : Float → Float → Bool) (o : Strict before) (f : ℕ → Float) where
  -- x is the first of the best of f 0 to f n, and comes before each that stands before it
  record Best (n : ℕ) (x : Float) : Type 0 where
    at : ℕ
    within : at ≤ n
    is : x ≡ f at
    none-past : (k : ℕ) → k ≤ n → before (f k) x ≡ false
    all_after : (k : ℕ) → k < at → before x (f k) ≡ true

  module _ (n : ℕ) (finite : (k : ℕ) → k ≤ suc n → Finite (f k)) (x : Float) (r : Best n x) where
    next : Finite (f (suc n))
    next = finite (suc n) (omega arith)

    x-finite : Finite x
    x-finite = subst Finite (sym r.is) (finite r.at (omega (arith, r.within)))

    -- one float more, by how it compares
    one_more : (t : Bool) → before (f (suc n)) x ≡ t → Best (suc n) (cond t (f (suc n)) x)
    one_more true e = record {
      at = suc n;
      within = omega arith;
      is = refl;
      none-past = λ k h. by k (eq-or-lt_of_le h);
      all_after = λ k h. o.mixed (f (suc n)) x (f k) next x-finite (finite k (omega arith)) e (r.none-past k (omega arith));
    }
      where
        by : (k : ℕ) → (k ≡ suc n) ⊎ (k < suc n) → before (f k) (f (suc n)) ≡ false
        by k (inl p) = rw p (o.irrefl (f (suc n)) next)
        by k (inr l) = through before o (f k) (f (suc n)) x (finite k (omega arith)) next x-finite e (r.none-past k (omega arith))
    one_more false e = record {
      at = r.at;
      within = omega (arith, r.within);
      is = r.is;
      none-past = λ k h. by k (eq-or-lt_of_le h);
      all_after = r.all_after;
    }
      where
        by : (k : ℕ) → (k ≡ suc n) ⊎ (k < suc n) → before (f k) x ≡ false
        by k (inl p) = rw p e
        by k (inr l) = r.none-past k (omega arith)

  -- g n is f 0, and then each next one where it comes before
  module _ (g : ℕ → Float) (starts : g 0 ≡ f 0) (goes_on : (n : ℕ) → g (suc n) ≡ cond (before (f (suc n)) (g n)) (f (suc n)) (g n)) where
    best : (n : ℕ) → ((k : ℕ) → k ≤ n → Finite (f k)) → Best n (g n)
    best zero finite = record {
      at = 0;
      within = omega arith;
      is = starts;
      none-past = λ k h. let p : k ≡ 0 = omega arith in rw (p, starts) (o.irrefl (f 0) (finite 0 (omega arith)));
      all_after = λ k h. absurd (omega arith);
    }
    best (suc n) finite = rw (goes_on n) (one_more n finite (g n) (best n (λ k h. finite k (omega arith))) (before (f (suc n)) (g n)) refl)

    pub first_of : (n : ℕ) → ((k : ℕ) → k ≤ n → Finite (f k)) → FirstOf before f (suc n) (g n)
    first_of n finite =
        let r = best n finite in
        let x-finite : Finite (g n) = subst Finite (sym r.is) (finite r.at r.within) in record {
          at = r.at;
          within = omega (arith, r.within);
          is = r.is;
          none-past = λ k h. r.none-past k (omega arith);
          none_equal = λ k h. o.apart (g n) (f k) x-finite (finite k (omega (arith, r.within))) (r.all_after k h);
        }
