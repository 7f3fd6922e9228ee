-- After i turns the first i numbers are put.
use mathlib.Core.Path.{◌≡◌}
use Prim.Native.Nat.{◌*◌}
use lib.ListN.{length, take}
use Rattle.shared_words.specs.Bytes.{packed}
use Rattle.shared_numbers.specs.Put.{Put}
use Rattle.c_answers.proofs.put_numbers.Given as goal

abbrev pub invariant-loop-number : goal.invariant-loop-number
invariant-loop-number l = (length l.out ≡ length l.initial.out) × (l.next ≡ 4 * l.number-index) × Put l.initial.out 0 (packed 4 (take l.number-index l.numbers)) l.out l.next
