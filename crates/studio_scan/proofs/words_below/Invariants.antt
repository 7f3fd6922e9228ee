-- The loop's invariant: `good` says whether the words passed are below the limit.
use mathlib.Core.Path.{◌≡◌}
use lib.ListN.{drop}
use Rattle.shared_words.specs.Bytes.{numbers}
use Rattle.studio_rules.specs.Rules.{all_below}
use Rattle.studio_scan.proofs.words_below.Given as goal

abbrev pub invariant-loop-i : goal.invariant-loop-i
invariant-loop-i l = l.good ≡ all_below l.limit (numbers 2 l.i (drop l.at l.s))
