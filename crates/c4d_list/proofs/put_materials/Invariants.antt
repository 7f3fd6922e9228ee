-- One number after another.
use lib.ListN.{take}
use Rattle.shared_words.specs.Bytes.{packed}
use Rattle.shared_numbers.specs.Put.{Put}
use Rattle.c4d_list.proofs.put_materials.Given as goal

abbrev pub invariant-loop-number : goal.invariant-loop-number
invariant-loop-number l = Put l.initial.row l.at (packed 4 (take l.number-index l.number-items)) l.row l.behind
