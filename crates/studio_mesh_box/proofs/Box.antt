-- The box of one vertex, and of one vertex more: the lesser and the greater of two floats, by their comparison.
use mathlib.Core.Path.{◌≡◌, ap, ◌∙◌}
use mathlib.Core.Bool.{true, false}
use mathlib.Core.List.{List}
use Prim.Native.Nat.{ℕ, zero, suc, ◌+◌, ◌-◌, ◌*◌, ◌<◌}
use native.Mathlib.Omega.{arith}
use lib.Ieee.{Float, lt}
use lib.ListN.{drop}
use Rattle.shared_words.specs.Bytes.{numbers}
use Rattle.shared_words.specs.Lists.{every}
use Rattle.shared_words.specs.Floats.{finite}
use Rattle.shared_words.specs.Floats.{float}
use Rattle.studio_rules.specs.Box.{lesser, greater, coordinate, lowest, highest, bounding_box_of}
use Rattle.shared_numbers.specs.Numbers.{long_at}
use Rattle.studio_mesh_box.specs.Vertices.{vertex_at, widened}
use Rattle.shared_numbers.proofs.Numbers.{long_number, long-passes}

module _ (a b : Float) where
  pub lesser-taken : lt b a ≡ true → b ≡ lesser a b
  unfolding lesser
  lesser-taken e = rw e

  pub lesser-left : lt b a ≡ false → a ≡ lesser a b
  unfolding lesser
  lesser-left e = rw e

  pub greater-taken : lt a b ≡ true → b ≡ greater a b
  unfolding greater
  greater-taken e = rw e

  pub greater-left : lt a b ≡ false → a ≡ greater a b
  unfolding greater
  greater-left e = rw e

module _ (s : List ℕ) (at n : ℕ) where
  abbrev vertices : List ℕ
  vertices = numbers 4 (3 * n) (drop at s)

  coordinate-at : (a k j : ℕ) → 3 * k + a < 3 * n → j ≡ at + 4 * (3 * k + a) → coordinate vertices a k ≡ float (long_at s j)
  unfolding coordinate
  coordinate-at a k j l e = ap float (long_number s at (3 * n) (3 * k + a) l) ∙ rw e

  pub box-one : 0 < n → record { low = vertex_at s at; high = vertex_at s at } ≡ bounding_box_of 1 vertices
  unfolding vertex_at lowest highest
  box-one h = rw (coordinate-at 0 0 at (omega arith) (omega arith), coordinate-at 1 0 (at + 4) (omega arith) (omega arith), coordinate-at 2 0 (at + 8) (omega arith) (omega arith))

  pub box-more : (i : ℕ) → 0 < i → i < n → widened (bounding_box_of i vertices) (vertex_at s (at + 12 * i)) ≡ bounding_box_of (i + 1) vertices
  unfolding vertex_at widened lowest highest
  box-more zero h l = absurd (omega arith)
  box-more (suc k) h l =
      let e : suc k - 1 ≡ k = omega arith in
      let f : suc k + 1 - 1 ≡ suc k = omega arith in
      rw (
        e,
        f,
        coordinate-at 0 (suc k) (at + 12 * suc k) (omega arith) (omega arith),
        coordinate-at 1 (suc k) (at + 12 * suc k + 4) (omega arith) (omega arith),
        coordinate-at 2 (suc k) (at + 12 * suc k + 8) (omega arith) (omega arith),
      )

  -- the floats of vertex i, which stands at j
  pub vertex-finite : every finite vertices ≡ true → (i j : ℕ) → i < n → j ≡ at + 12 * i →
      (finite (long_at s j) ≡ true) × (finite (long_at s (j + 4)) ≡ true) × (finite (long_at s (j + 8)) ≡ true)
  vertex-finite h i j l e =
      let e0 : at + 4 * (3 * i) ≡ j = omega arith in
      let e1 : at + 4 * (3 * i + 1) ≡ j + 4 = omega arith in
      let e2 : at + 4 * (3 * i + 2) ≡ j + 8 = omega arith in (
        rw e0 at (long-passes finite s at (3 * n) h (3 * i) (omega arith)),
        rw e1 at (long-passes finite s at (3 * n) h (3 * i + 1) (omega arith)),
        rw e2 at (long-passes finite s at (3 * n) h (3 * i + 2) (omega arith)),
      )
