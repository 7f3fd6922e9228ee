-- Meshes of a reordered figure: the same ones but for where their names stand, with two neighbouring groups exchanged.
use mathlib.Core.Path.{◌≡◌, refl, sym, ap, ◌∙◌}
use Prim.Native.Nat.{ℕ, zero, suc, ◌+◌, ◌-◌, ◌<◌}
use native.Mathlib.Omega.{arith}
use mathlib.Core.Bool.{Bool, true, false, cond}
use mathlib.Core.List.{List, [], ◌∷◌, ◌++◌, map}
use mathlib.Core.Option.{Option, none, some}
use lib.Dec.{ltb}
use lib.ListN.{length, length-append, length-map, get_elem?}
use borrow.Author.Tests.{ltb-true, ltb-false}
use Rattle.shared_words.specs.declared.Refusal.{Refusal}
use Rattle.shared_words.specs.declared.Refusal.TheVariants.{NoSuchMesh}
use Rattle.shared_words.specs.Picked.{pick_mesh}
use Rattle.studio_rules.specs.Layout.{Run}
use Rattle.shared_words.specs.Conditions.{accepted}
use Rattle.studio_rules.specs.Gives.{Mesh, meshes}
use Rattle.studio_rules.specs.Calls.{of_mesh}
use Rattle.studio_rules.proofs.At.{at_back}
use Rattle.claim_swapped.specs.Swapped.{exchanged}

-- ---- an element of joined lists

module _ {A : Type 0} where
  in_first : (xs ys : List A) (n : ℕ) → n < length xs → get_elem? (xs ++ ys) n ≡ get_elem? xs n
  in_first [] ys n h = absurd (omega arith)
  in_first (x ∷ xs) ys zero h = refl
  in_first (x ∷ xs) ys (suc n) h = in_first xs ys n (omega arith)

-- two neighbouring groups exchanged
module _ {A : Type 0} (xs ys zs ws : List A) (m : ℕ) where
  abbrev a : ℕ
  a = length xs

  abbrev l : ℕ
  l = length ys

  abbrev r : ℕ
  r = length zs

  go : (b₁ : Bool) → ltb m a ≡ b₁ → (b₂ : Bool) → ltb m (a + l) ≡ b₂ → (b₃ : Bool) → ltb m (a + l + r) ≡ b₃ →
      get_elem? (xs ++ (zs ++ (ys ++ ws))) (cond b₁ m (cond b₂ (m + r) (cond b₃ (m - l) m))) ≡ get_elem? (xs ++ (ys ++ (zs ++ ws))) m
  go true e₁ b₂ e₂ b₃ e₃ = let h = ltb-true m a e₁ in in_first xs _ m h ∙ sym (in_first xs _ m h)
  go false e₁ true e₂ b₃ e₃ =
      let g = ltb-false m a e₁ in
      let h = ltb-true m (a + l) e₂ in
      let j : ℕ = m - a in
      at_back xs _ (m + r) (r + j) (omega arith) ∙ at_back zs _ (r + j) j refl ∙ in_first ys _ j (omega arith) ∙
      sym (at_back xs _ m j (omega arith) ∙ in_first ys _ j (omega arith))
  go false e₁ false e₂ true e₃ =
      let g = ltb-false m (a + l) e₂ in
      let h = ltb-true m (a + l + r) e₃ in
      let j : ℕ = m - (a + l) in
      at_back xs _ (m - l) j (omega arith) ∙ in_first zs _ j (omega arith) ∙
      sym (at_back xs _ m (l + j) (omega arith) ∙ at_back ys _ (l + j) j refl ∙ in_first zs _ j (omega arith))
  go false e₁ false e₂ false e₃ =
      let g = ltb-false m (a + l + r) e₃ in
      let j : ℕ = m - (a + l + r) in
      at_back xs _ m (r + (l + j)) (omega arith) ∙ at_back zs _ (r + (l + j)) (l + j) refl ∙ at_back ys _ (l + j) j refl ∙
      sym (at_back xs _ m (l + (r + j)) (omega arith) ∙ at_back ys _ (l + (r + j)) (r + j) refl ∙ at_back zs _ (r + j) j refl)

  pub exchange : get_elem? (xs ++ (zs ++ (ys ++ ws))) (exchanged a l r m) ≡ get_elem? (xs ++ (ys ++ (zs ++ ws))) m
  exchange = go (ltb m a) refl (ltb m (a + l)) refl (ltb m (a + l + r)) refl

-- ---- what is asked of one mesh in each of two figures, by what g and g' see of it

module _ {A B : Type 0} (refuse : Refusal → A) (h : B → A) where
  abbrev pick : ℕ → Option B → A
  pick n none = refuse (NoSuchMesh n)
  pick n (some x) = h x

  pick_same : (g : Mesh → B) (f : Mesh → A) → ((m : Mesh) → f m ≡ h (g m)) → (n : ℕ) (ms : List Mesh) (i : ℕ) → pick_mesh refuse f n (get_elem? ms i) ≡ pick n (get_elem? (map g ms) i)
  pick_same g f blind n [] i = refl
  pick_same g f blind n (m ∷ ms) zero = blind m
  pick_same g f blind n (m ∷ ms) (suc i) = pick_same g f blind n ms i

  pub asked-same : (g g' : Mesh → B) (f f' : Mesh → A) → ((m : Mesh) → f m ≡ h (g m)) → ((m : Mesh) → f' m ≡ h (g' m)) →
      (kids kids' : Run) (xs ys zs ws : List B) → map g (meshes kids) ≡ xs ++ (ys ++ (zs ++ ws)) → map g' (meshes kids') ≡ xs ++ (zs ++ (ys ++ ws)) →
      (m : ℕ) → of_mesh refuse f' (exchanged (length xs) (length ys) (length zs) m) (accepted kids') ≡ of_mesh refuse f m (accepted kids)
  asked-same g g' f f' blind blind' kids kids' xs ys zs ws e e' m =
      let n : ℕ = length (meshes kids) in
      let to : ℕ = exchanged (length xs) (length ys) (length zs) m in
      let c : length (meshes kids') ≡ n =
      sym (length-map (meshes kids') g') ∙ ap length e' ∙
      omega (
        arith,
        length-append xs (zs ++ (ys ++ ws)),
        length-append zs (ys ++ ws),
        length-append ys ws,
        length-append xs (ys ++ (zs ++ ws)),
        length-append ys (zs ++ ws),
        length-append zs ws,
      ) ∙
      sym (ap length e) ∙ length-map (meshes kids) g in
      let x : get_elem? (map g' (meshes kids')) to ≡ get_elem? (map g (meshes kids)) m =
      ap (λ (x : List B). get_elem? x to) e' ∙ exchange xs ys zs ws m ∙ sym (ap (λ (x : List B). get_elem? x m) e) in
      ap (λ (k : ℕ). pick_mesh refuse f' k (get_elem? (meshes kids') to)) c ∙ pick_same g' f' blind' n (meshes kids') to ∙ ap (pick n) x ∙ sym (pick_same g f blind n (meshes kids) m)
