-- The number is read, and its sum is matched.
use mathlib.Core.Path.{ap, ◌∙◌}
use Prim.Native.Nat.{◌/◌, ◌%◌}
use Rattle.slip_sums.specs.declared.Sum.{Sum}
use Rattle.slip_sums.specs.Passes.{match_of}
use Rattle.c_sums.specs.Numbers.{zero_or}
use Rattle.c_sums.proofs.sum_matches.Goals as goal

pub returns : goal.returns
returns c =
    let a = c.args in
    c.against_entry.ensures ∙ ap (λ (x : Sum). zero_or (match_of x a.len (a.sums % 256) (a.sums / 256))) c.sum_in.ensures
