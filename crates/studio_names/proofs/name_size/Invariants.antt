-- The loop's invariant: the name goes on at least to i; a zero ends it there.
use Rattle.studio_names.specs.Names.{NameOn}
use Rattle.studio_names.proofs.name_size.Given as goal

abbrev pub invariant-loop-i : goal.invariant-loop-i
invariant-loop-i l = NameOn l.s l.at l.i l.end
