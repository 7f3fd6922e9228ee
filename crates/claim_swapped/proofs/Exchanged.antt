-- Mesh numbers go back by the swap back.
use mathlib.Core.Path.{◌≡◌, refl, ap, ◌∙◌}
use Prim.Native.Nat.{ℕ, ◌+◌, ◌-◌, ◌≤◌, ◌<◌}
use native.Mathlib.Omega.{arith}
use mathlib.Core.Bool.{Bool, true, false}
use lib.Dec.{ltb}
use borrow.Author.Tests.{ltb-true, ltb-false, lt-ltb, le-ltb}
use Rattle.claim_swapped.specs.Swapped.{exchanged, ExchangedBack}

module _ (a l r m : ℕ) where
  stays-first : m < a → exchanged a l r m ≡ m
  stays-first h = rw (lt-ltb m a h)

  goes_back : a ≤ m → m < a + l → exchanged a l r m ≡ m + r
  goes_back h k = rw (le-ltb m a h, lt-ltb m (a + l) k)

  comes_front : a + l ≤ m → m < a + l + r → exchanged a l r m ≡ m - l
  comes_front h k = let g : a ≤ m = omega arith in rw (le-ltb m a g, le-ltb m (a + l) h, lt-ltb m (a + l + r) k)

  stays_last : a + l + r ≤ m → exchanged a l r m ≡ m
  stays_last h =
      let g : a ≤ m = omega arith in
      let k : a + l ≤ m = omega arith in
      rw (le-ltb m a g, le-ltb m (a + l) k, le-ltb m (a + l + r) h)

pub exchanged-back : ExchangedBack
exchanged-back a l r m = go (ltb m a) refl (ltb m (a + l)) refl (ltb m (a + l + r)) refl
  where
    go : (b₁ : Bool) → ltb m a ≡ b₁ → (b₂ : Bool) → ltb m (a + l) ≡ b₂ → (b₃ : Bool) → ltb m (a + l + r) ≡ b₃ → exchanged a r l (exchanged a l r m) ≡ m
    go true e₁ b₂ e₂ b₃ e₃ = let h = ltb-true m a e₁ in ap (exchanged a r l) (stays-first a l r m h) ∙ stays-first a r l m h
    go false e₁ true e₂ b₃ e₃ =
        let g = ltb-false m a e₁ in
        let h = ltb-true m (a + l) e₂ in
        ap (exchanged a r l) (goes_back a l r m g h) ∙ comes_front a r l (m + r) (omega arith) (omega arith) ∙ omega arith
    go false e₁ false e₂ true e₃ =
        let g = ltb-false m (a + l) e₂ in
        let h = ltb-true m (a + l + r) e₃ in
        ap (exchanged a r l) (comes_front a l r m g h) ∙ goes_back a r l (m - l) (omega arith) (omega arith) ∙ omega arith
    go false e₁ false e₂ false e₃ =
        let g = ltb-false m (a + l + r) e₃ in
        ap (exchanged a r l) (stays_last a l r m g) ∙ stays_last a r l m (omega arith)
