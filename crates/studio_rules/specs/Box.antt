-- The box of a mesh, and its centre, over floats as IEEE 754 orders, multiplies and adds them.
use Rattle.std.specs.Prelude.{ℕ, zero, suc, ◌+◌, ◌-◌, ◌*◌, cond, List, get_or, Float}
use Rattle.std.specs.Float.{binary32}
use Rattle.std.specs.Float.Ieee.{lt, add, mul}
use Rattle.shared_words.specs.Floats.{float}
use Rattle.studio_rules.specs.declared.Corner.{Corner}
use Rattle.studio_rules.specs.declared.BoundingBox.{BoundingBox}

-- coordinate a, 0 to 2, of vertex k
unfoldable pub coordinate : List ℕ → ℕ → ℕ → Float
coordinate vertices a k = float (get_or vertices (3 * k + a) 0)

-- b where it is less than a, else a: zero and minus zero are equal, so a stays
unfoldable pub lesser : Float → Float → Float
lesser a b = cond (lt b a) b a

-- b where it is greater than a, else a
unfoldable pub greater : Float → Float → Float
greater a b = cond (lt a b) b a

-- the smallest, or largest, of f 0 to f k, and among equal ones the first
unfoldable pub lowest : (ℕ → Float) → ℕ → Float
lowest f zero = f 0
lowest f (suc k) = lesser (lowest f k) (f (suc k))

unfoldable pub highest : (ℕ → Float) → ℕ → Float
highest f zero = f 0
highest f (suc k) = greater (highest f k) (f (suc k))

abbrev pub corner : (ℕ → Float) → Corner
corner f = record { x = f 0; y = f 1; z = f 2 }

-- the box of n vertices, of which there is at least one
abbrev pub bounding_box_of : ℕ → List ℕ → BoundingBox
bounding_box_of n vertices = record {
  low = corner (λ a. lowest (coordinate vertices a) (n - 1));
  high = corner (λ a. highest (coordinate vertices a) (n - 1));
}

-- one half
abbrev pub half : Float
half = float 0x3F00_0000

-- half of a plus half of b, each operation rounded once
unfoldable pub middle : Float → Float → Float
middle a b = add binary32 (mul binary32 a half) (mul binary32 b half)

abbrev pub centre_of : BoundingBox → Corner
centre_of b = record { x = middle b.low.x b.high.x; y = middle b.low.y b.high.y; z = middle b.low.z b.high.z }
