-- The loop's invariant: `good` says whether the floats passed are finite.
use mathlib.Core.Path.{◌≡◌}
use lib.ListN.{drop}
use Rattle.shared_words.specs.Bytes.{numbers}
use Rattle.shared_words.specs.Lists.{every}
use Rattle.shared_words.specs.Floats.{finite}
use Rattle.studio_scan.proofs.all_finite.Given as goal

abbrev pub invariant-loop-i : goal.invariant-loop-i
invariant-loop-i l = l.good ≡ every finite (numbers 4 l.i (drop l.at l.s))
