-- The number is read, the part is joined to it, and the result is handed on.
use mathlib.Core.Path.{ap, ◌∙◌}
use Rattle.slip_sums.specs.declared.Sum.{Sum}
use Rattle.slip_sums.specs.Fletcher.{sum_of}
use Rattle.slip_sums.specs.Joined.{with_part}
use Rattle.c_sums.specs.Numbers.{number_of}
use Rattle.c_sums.proofs.Numbers.{joined-handed}
use Rattle.c_sums.proofs.sum_add.Goals as goal

pub number_of-requires : goal.number_of-requires
number_of-requires c = rw c.with_part.ensures (joined-handed c.sum_in.result (sum_of c.args.part.now))

pub returns : goal.returns
returns c =
    let s = c.args.part.now in
    c.number_of.ensures ∙ ap number_of (c.with_part.ensures ∙ ap (λ (x : Sum). with_part x s) c.sum_in.ensures)
