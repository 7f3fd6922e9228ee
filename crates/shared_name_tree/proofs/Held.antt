-- Whether a name is one of the first n.
use mathlib.Core.Path.{◌≡◌, refl, sym, ap, ◌∙◌}
use mathlib.Core.Bool.{Bool, true, false, false≢true, ◌||◌}
use mathlib.Core.List.{List}
use Prim.Native.Nat.{ℕ, zero, suc, ◌<◌}
use native.Mathlib.Omega.{arith}
use Rattle.shared_words.specs.Lists.{same}
use Rattle.shared_words.proofs.Lists.{same_true, same_refl}
use Rattle.shared_name_tree.specs.Names.{held}

pub not_same : {x y : List ℕ} → same x y ≡ false → x ≡ y → ⊥
not_same {x} {y} f e = false≢true (sym f ∙ ap (same x) (sym e) ∙ same_refl x)

module _ (name : ℕ → List ℕ) (x : List ℕ) where
  pub held_none : (n : ℕ) → ((j : ℕ) → j < n → name j ≡ x → ⊥) → held name n x ≡ false
  unfolding held
  held_none zero h = refl
  held_none (suc n) h = go (same (name n) x) refl (held_none n (λ j l. h j (omega arith)))
    where
      go : (b : Bool) → same (name n) x ≡ b → held name n x ≡ false → (b || held name n x) ≡ false
      go true e i = absurd (h n (omega arith) (same_true (name n) x e))
      go false e i = i

  pub held_at : (n j : ℕ) → j < n → name j ≡ x → held name n x ≡ true
  unfolding held
  held_at zero j l e = absurd (omega arith)
  held_at (suc n) j l e = go (same (name n) x) refl (λ b. held_at n j b e)
    where
      go : (b : Bool) → same (name n) x ≡ b → (j < n → held name n x ≡ true) → (b || held name n x) ≡ true
      go true f i = refl
      go false f i = let d : j ≡ n → ⊥ = λ q. not_same f (ap name (sym q) ∙ e) in i (omega arith)

-- names that are the same one by one
pub held_same : (f g : ℕ → List ℕ) (x : List ℕ) (n : ℕ) → ((j : ℕ) → j < n → f j ≡ g j) → held f n x ≡ held g n x
unfolding held
held_same f g x zero h = refl
held_same f g x (suc n) h = rw (h n (omega arith), held_same f g x n (λ j l. h j (omega arith)))
