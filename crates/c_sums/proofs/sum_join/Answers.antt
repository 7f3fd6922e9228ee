-- Both numbers are read, joined, and the result is handed on.
use mathlib.Core.Path.{ap, ◌∙◌}
use Rattle.slip_sums.specs.declared.Sum.{Sum}
use Rattle.slip_sums.specs.Joined.{join, capped}
use Rattle.c_sums.specs.Numbers.{number_of, sum_in}
use Rattle.c_sums.proofs.Numbers.{joined-handed}
use Rattle.c_sums.proofs.sum_join.Goals as goal

pub number_of-requires : goal.number_of-requires
number_of-requires c = rw c.join.ensures (joined-handed c.sum_in.result c.sum_in-2.result)

pub returns : goal.returns
returns c =
    let first = sum_in c.args.first in
    let a = c.sum_in in
    let b = c.sum_in-2 in
    c.number_of.ensures ∙
    ap number_of c.join.ensures ∙
    ap (λ (x : Sum). number_of (capped (join x b.result))) a.ensures ∙
    ap (λ (x : Sum). number_of (capped (join first x))) b.ensures
