-- The set without those that any object may have, looked up.
use mathlib.Core.Path.{ap, ◌∙◌}
use Prim.Native.Nat.{ℕ}
use Rattle.c4d_parts.specs.Bits.{exclusive_in, looked_up, numbered}
use Rattle.c4d_parts.proofs.Sets.{combination-is}
use Rattle.c4d_parts.proofs.combination.Goals as goal

pub returns : goal.returns
returns c = record { is = λ ids e. c.look_up.ensures.is ∙ ap numbered (ap looked_up (c.exclusive.ensures ∙ ap (λ (n : ℕ). exclusive_in n) e) ∙ combination-is ids); small = c.look_up.ensures.small }
