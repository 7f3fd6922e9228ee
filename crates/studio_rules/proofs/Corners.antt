-- How many corners a list of faces has.
use mathlib.Core.Path.{◌≡◌, refl}
use mathlib.Core.List.{List}
use Prim.Native.Nat.{ℕ, zero, suc, ◌*◌}
use native.Mathlib.Omega.{arith}
use lib.ListN.{length, drop}
use Rattle.studio_rules.specs.OwnData.{corners}

pub length-corners : (f : ℕ) (s : List ℕ) → length (corners f s) ≡ 3 * f
length-corners zero s = refl
length-corners (suc f) s = omega (arith, length-corners f (drop 8 s))
