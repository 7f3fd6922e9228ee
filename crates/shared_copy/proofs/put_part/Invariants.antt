-- After i turns the first i bytes of the part are put.
use Prim.Native.Nat.{◌+◌}
use lib.ListN.{take, drop}
use Rattle.shared_numbers.specs.Put.{Put}
use Rattle.shared_copy.proofs.put_part.Given as goal

abbrev pub invariant-loop-i : goal.invariant-loop-i
invariant-loop-i l = Put l.initial.out l.at (take l.i (drop l.from l.s)) l.out (l.at + l.i)
