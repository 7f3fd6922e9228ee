-- What docs/FORMAT.md says of the box, as a statement about the definitions of crate studio_rules.
use Rattle.std.specs.Prelude.{◌≡◌, Bool, true, false, List, ℕ, ◌*◌, ◌<◌, length, Float}
use Rattle.std.specs.Float.Ieee.{lt, eq}
use Rattle.studio_rules.specs.declared.BoundingBox.{BoundingBox}
use Rattle.shared_words.specs.Lists.{every}
use Rattle.shared_words.specs.Floats.{finite}
use Rattle.studio_rules.specs.Box.{coordinate, bounding_box_of}

-- x is one of f 0 to f (n - 1), none of them comes before it in an order, and none that stands before it is equal to it
pub record FirstOf (before : Float → Float → Bool) (f : ℕ → Float) (n : ℕ) (x : Float) : Type 0 where
  pub at : ℕ
  pub within : at < n
  pub is : x ≡ f at
  pub none-past : (k : ℕ) → k < n → before (f k) x ≡ false
  pub none_equal : (k : ℕ) → k < at → eq (f k) x ≡ false

abbrev pub gt : Float → Float → Bool
gt x y = lt y x

-- one axis of a box: none is smaller than low, and none larger than high
pub record Axis (f : ℕ → Float) (n : ℕ) (low high : Float) : Type 0 where
  pub smallest : FirstOf lt f n low
  pub largest : FirstOf gt f n high

pub record Around (n : ℕ) (vertices : List ℕ) (b : BoundingBox) : Type 0 where
  pub x : Axis (coordinate vertices 0) n b.low.x b.high.x
  pub y : Axis (coordinate vertices 1) n b.low.y b.high.y
  pub z : Axis (coordinate vertices 2) n b.low.z b.high.z

-- "Each is the smallest or largest of its axis, and among equal ones the first in file order, bit for bit."
abbrev pub BoxIsAround : Type 0
BoxIsAround = (n : ℕ) (vertices : List ℕ) → 0 < n → length vertices ≡ 3 * n → every finite vertices ≡ true → Around n vertices (bounding_box_of n vertices)
