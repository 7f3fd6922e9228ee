-- What an answer says of a combination's number.
use mathlib.Core.Path.{◌≡◌, refl, sym, ◌∙◌}
use Prim.Native.Nat.{ℕ}
use mathlib.Core.Bool.{Bool, true, false, cond, true≢false}
use lib.Dec.{eqb}
use borrow.Author.Tests.{eqb-true, eqb-false}
use Rattle.std.specs.Prelude.{Option, Some, None}
use Rattle.c4d_parts.specs.Bits.{numbered}

pub not-numbered : (n : ℕ) → None ≡ numbered n → n ≡ 0
not-numbered n = go (eqb n 0) refl
  where
    go : (q : Bool) → eqb n 0 ≡ q → ◌≡◌ {A = Option ℕ} None (cond q None (Some n)) → n ≡ 0
    go true e h = eqb-true n 0 e
    go false e h = cc

pub is-numbered : (n k : ℕ) → Some k ≡ numbered n → (k ≡ n) × (k ≡ 0 → ⊥)
is-numbered n k = go (eqb n 0) refl
  where
    go : (q : Bool) → eqb n 0 ≡ q → ◌≡◌ {A = Option ℕ} (Some k) (cond q None (Some n)) → (k ≡ n) × (k ≡ 0 → ⊥)
    go true e h = let z : ◌≡◌ {A = Bool} true false = cc in absurd (true≢false z)
    go false e h = let z : k ≡ n = cc in (z, λ y. eqb-false n 0 e (sym z ∙ y))
