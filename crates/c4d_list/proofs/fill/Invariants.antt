-- The loop's invariant: the objects so far stand in the rows, and the notes of the others are left.
use lib.ListN.{length}
use Rattle.c4d_list.specs.Filled.{Fillable}
use Rattle.c4d_list.proofs.Filling.{Filling}
use Rattle.c4d_list.proofs.fill.Given as goal

abbrev pub invariant-loop : goal.invariant-loop
invariant-loop l =
    (g : Fillable l.notes l.count (length l.initial.objects) (length l.initial.materials)) → Filling l.initial.objects l.initial.materials g l.objects l.materials l.counter l.from l.row l.behind
