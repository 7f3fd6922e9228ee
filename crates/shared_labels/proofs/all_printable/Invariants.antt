-- The loop's invariant: while `good` is true, every byte passed is printable.
use mathlib.Core.Path.{◌≡◌}
use mathlib.Core.Bool.{true}
use Rattle.shared_labels.specs.Passed.{AllPrintable}
use Rattle.shared_labels.proofs.all_printable.Given as goal

abbrev pub invariant-loop-i : goal.invariant-loop-i
invariant-loop-i l = l.good ≡ true → AllPrintable l.s l.at l.i
