-- The float of a finite pattern is finite.
use mathlib.Core.Path.{◌≡◌}
use mathlib.Core.Bool.{Bool, true, false}
use Prim.Native.Nat.{ℕ, zero, suc, ◌+◌, ◌/◌, ◌%◌}
use lib.Dec.{eqb, leb}
use lib.Ieee.{binary32, of_bits, of_fields, odd}
use Rattle.shared_words.specs.Floats.{finite}
use Rattle.shared_words.specs.Floats.{float}
use Rattle.shared_numbers.proofs.Finite.{field}
use Rattle.studio_mesh_box.proofs.Order.{Finite}

odd-finite : (d : ℕ) (s : Bool) (q k l : ℕ) → Finite (odd d s q k l)
unfolding odd
odd-finite d s zero k l = tt
odd-finite d s (suc q) k l = tt

fields-finite : (s : Bool) (x t : ℕ) → eqb x 255 ≡ false → Finite (of_fields binary32 s x t)
unfolding of_fields
fields-finite s zero t h = odd-finite 24 s t 0 149
fields-finite s (suc x) t h = rw h (odd-finite 24 s (8388608 + t) x 149)

pub float-finite : (b : ℕ) → finite b ≡ true → Finite (float b)
unfolding of_bits
float-finite b h = fields-finite (leb 2147483648 b) (b % 2147483648 / 8388608) (b % 8388608) (field b h)
