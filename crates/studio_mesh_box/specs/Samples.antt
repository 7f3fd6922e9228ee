-- Worked boxes: negatives, zeros of both signs, and a centre at the largest number.
use Rattle.std.specs.Prelude.{◌≡◌, List, [], ◌∷◌, ℕ}
use Rattle.shared_words.specs.Floats.{float}
use Rattle.studio_rules.specs.declared.Corner.{Corner}
use Rattle.studio_rules.specs.Box.{bounding_box_of, middle, centre_of}

-- numbers by their bits
abbrev pub minus_one : ℕ
minus_one = 0xBF80_0000

abbrev pub minus_two : ℕ
minus_two = 0xC000_0000

abbrev pub minus_zero : ℕ
minus_zero = 0x8000_0000

abbrev pub largest : ℕ
largest = 0x7F7F_FFFF

abbrev pub point : ℕ → ℕ → ℕ → Corner
point x y z = record { x = float x; y = float y; z = float z }

-- two vertices: in y and z zero and minus zero, which are equal
abbrev pub two : List ℕ
two = minus_one ∷ 0 ∷ minus_zero ∷ minus_two ∷ minus_zero ∷ 0 ∷ []

pub record Worked : Type 0 where
  -- minus 2 is the low one, though its bits are the larger number; of equal ones the first stays
  pub negatives : bounding_box_of 2 two ≡ record { low = point minus_two 0 minus_zero; high = point minus_one 0 minus_zero }
  pub centre : centre_of (bounding_box_of 2 two) ≡ point 0xBFC0_0000 0 minus_zero
  -- halves are added: the sum of the two would be infinite
  pub halves : middle (float largest) (float largest) ≡ float largest
