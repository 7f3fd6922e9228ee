-- The box is what docs/FORMAT.md says.
use mathlib.Core.Path.{◌≡◌, refl}
use mathlib.Core.Bool.{true}
use mathlib.Core.List.{List}
use Prim.Native.Nat.{ℕ, zero, suc, ◌+◌, ◌-◌, ◌*◌, ◌<◌, ◌≤◌}
use native.Mathlib.Omega.{arith}
use lib.ListN.{length}
use lib.Ieee.{Float, lt}
use Rattle.shared_words.specs.Lists.{every}
use Rattle.shared_words.specs.Floats.{finite}
use Rattle.studio_rules.specs.Box.{coordinate, lesser, greater, lowest, highest}
use Rattle.studio_mesh_box.specs.Around.{gt, Axis, BoxIsAround}
use Rattle.studio_mesh_box.proofs.Order.{Finite}
use Rattle.studio_mesh_box.proofs.Strict.{upward, downward}
use Rattle.studio_mesh_box.proofs.First.{first_of}
use Rattle.studio_mesh_box.proofs.Finite.{float-finite}
use Rattle.shared_numbers.proofs.Numbers.{every-at}

axis : (f : ℕ → Float) (n : ℕ) → ((k : ℕ) → k ≤ n → Finite (f k)) → Axis f (suc n) (lowest f n) (highest f n)
unfolding lowest highest lesser greater
axis f n h = record {
  smallest = first_of lt upward f (lowest f) refl (λ k. refl) n h;
  largest = first_of gt downward f (highest f) refl (λ k. refl) n h;
}

coordinate-finite : (vertices : List ℕ) (n a : ℕ) → length vertices ≡ 3 * suc n → a < 3 → every finite vertices ≡ true → (k : ℕ) → k ≤ n → Finite (coordinate vertices a k)
unfolding coordinate
coordinate-finite vertices n a l b h k m = float-finite _ (every-at finite vertices (3 * k + a) 0 (omega arith) h)

pub box-is-around : BoxIsAround
box-is-around zero vertices p l h = absurd (omega arith)
box-is-around (suc n) vertices p l h =
    let e : suc n - 1 ≡ n = omega arith in
    rw e record { x = on 0 (omega arith); y = on 1 (omega arith); z = on 2 (omega arith) }
  where
    on : (a : ℕ) → a < 3 → Axis (coordinate vertices a) (suc n) (lowest (coordinate vertices a) n) (highest (coordinate vertices a) n)
    on a b = axis (coordinate vertices a) n (coordinate-finite vertices n a l b h)
