-- How many records a run has: each has a header of six bytes.
use mathlib.Core.Path.{◌≡◌, refl}
use Prim.Native.Nat.{◌*◌, ◌≤◌}
use native.Mathlib.Omega.{arith}
use Rattle.studio_rules.specs.Layout.{Run, end, skip, known, size}
use Rattle.studio_rules.specs.Gives.{record_count, headers}

pub six_each : (t : Run) → headers t ≡ 6 * record_count t
six_each end = refl
six_each (skip id body rest) = six_each rest
six_each (known id own kids rest) = omega (arith, six_each kids, six_each rest)

pub count_small : (t : Run) → 6 * record_count t ≤ size t
count_small end = omega arith
count_small (skip id body rest) = omega (arith, count_small rest)
count_small (known id own kids rest) = omega (arith, count_small kids, count_small rest)
