-- The loop's invariant: while `none` is true, no byte passed is zero.
use mathlib.Core.Path.{◌≡◌}
use mathlib.Core.Bool.{true}
use Rattle.studio_names.specs.Names.{NoZero}
use Rattle.studio_names.proofs.no_zero.Given as goal

abbrev pub invariant-loop-i : goal.invariant-loop-i
invariant-loop-i l = l.none ≡ true → NoZero l.s l.at l.i
