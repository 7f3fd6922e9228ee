-- The invariant: after i items that are in order, the conditions of the rest answer for all.
use Rattle.stick_judge.specs.Expected.{expected}
use Rattle.stick_judge.proofs.Going.{Going}
use Rattle.stick_judge.proofs.Manifest.judge_items.Given as goal

abbrev pub invariant-loop-i : goal.invariant-loop-i
invariant-loop-i l = Going (expected l.self) l.names l.items l.initial.matched l.n l.matched l.i
