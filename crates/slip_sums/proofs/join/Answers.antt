-- Remainders taken early change nothing; with them no sum and no product passes 64 bits.
use mathlib.Core.Path.{sym}
use native.Mathlib.Nat.{add-mod}
use Rattle.slip_sums.proofs.Remainders.{early-all, sum_same}
use Rattle.slip_sums.proofs.join.Goals as goal

pub returns : goal.returns
returns c =
    let a = c.args in
    sum_same
    c.joined_length.ensures
    (sym (add-mod a.before.first a.behind.first 255))
    (early-all a.before.second a.behind.second a.behind.len a.before.first)
