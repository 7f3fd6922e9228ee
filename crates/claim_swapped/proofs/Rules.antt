-- The rules do not look at the order of 3D3D's children.
use mathlib.Core.Path.{◌≡◌, sym, ap, ◌∙◌}
use Prim.Native.Nat.{ℕ, ◌+◌}
use native.Mathlib.Omega.{arith}
use mathlib.Core.List.{[]}
use Rattle.studio_rules.specs.Layout.{Run, ◌then◌}
use Rattle.studio_rules.specs.Rules.{Obeys}
use Rattle.studio_scene.proofs.Children.{scene, scene-join, scene-parts}
use Rattle.claim_swapped.specs.Swapped.{Swapped}

obeys-first : (n v : ℕ) (a b c d : Run) → Obeys (scene n v) [] (a then b then c then d) → Obeys (scene n v) [] (a then c then b then d)
obeys-first n v a b c d h =
    let k = scene-parts n v a (b then c then d) h in
    let k₁ = scene-parts n v b (c then d) k.1 in
    let k₂ = scene-parts n v c d k₁.1 in
    scene-join n v a (c then b then d) k.0 (scene-join n v c (b then d) k₂.0 (scene-join n v b d k₁.0 k₂.1))

pub obeys_swapped : (v : ℕ) (t u : Run) → Swapped t u → (n : ℕ) → Obeys (scene n v) [] t → Obeys (scene n v) [] u
obeys_swapped v t u w n h = rw w.is (obeys-first n v w.first w.left w.right w.last (rw w.was at h))

-- a number that adds over runs is the same
pub sum_swapped : (f : Run → ℕ) → ((a t : Run) → f (a then t) ≡ f a + f t) → (t u : Run) → Swapped t u → f u ≡ f t
sum_swapped f add t u w =
    let a : Run = w.first in
    let b : Run = w.left in
    let c : Run = w.right in
    let d : Run = w.last in
    ap f w.is ∙ omega (arith, add a (c then b then d), add c (b then d), add b d, add a (b then c then d), add b (c then d), add c d) ∙ sym (ap f w.was)
