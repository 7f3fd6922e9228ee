-- A vertex in the file, and a box that grows by it.
use Rattle.std.specs.Prelude.{◌≡◌, true, List, ℕ, ◌+◌, ◌≤◌, length}
use Rattle.studio_rules.specs.declared.Corner.{Corner}
use Rattle.studio_rules.specs.declared.BoundingBox.{BoundingBox}
use Rattle.shared_words.specs.Floats.{float, finite}
use Rattle.studio_rules.specs.Box.{lesser, greater}
use Rattle.shared_numbers.specs.Numbers.{long_at}

-- three finite floats stand at a position
abbrev pub IsVertex : List ℕ → ℕ → Type 0
IsVertex s at =
    (at + 12 ≤ length s) × (finite (long_at s at) ≡ true) × (finite (long_at s (at + 4)) ≡ true) × (finite (long_at s (at + 8)) ≡ true)

-- the vertex whose three floats begin at a position
unfoldable pub vertex_at : List ℕ → ℕ → Corner
vertex_at s at = record { x = float (long_at s at); y = float (long_at s (at + 4)); z = float (long_at s (at + 8)) }

-- a box with one vertex more
unfoldable pub widened : BoundingBox → Corner → BoundingBox
widened b v = record {
  low = record { x = lesser b.low.x v.x; y = lesser b.low.y v.y; z = lesser b.low.z v.z };
  high = record { x = greater b.high.x v.x; y = greater b.high.y v.y; z = greater b.high.z v.z };
}
