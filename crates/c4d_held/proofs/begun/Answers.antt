-- Nothing is there yet.
use mathlib.Core.Path.{refl}
use Rattle.c4d_rules.specs.Combinations.{once_each}
use Rattle.c4d_parts.specs.Bits.{bits}
use Rattle.c4d_held.proofs.begun.Goals as goal

pub returns : goal.returns
unfolding once_each bits
returns c = refl
