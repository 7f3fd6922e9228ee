-- `studio_write_judge::all_finite` meets its contract: `good` says whether the floats that the loop has passed are finite.
use Rattle.studio_write_judge.specs.Judged.{finite_float}
use Rattle.shared_words.proofs.FirstFault.{Told}
use Rattle.studio_write_judge.proofs.all_finite.Given as goal

abbrev pub invariant-loop-x : goal.invariant-loop-x
invariant-loop-x l = Told finite_float l.vertices l.good l.x-index
