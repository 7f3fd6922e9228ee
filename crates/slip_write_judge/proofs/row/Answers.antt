-- Four numbers, one behind the other.
use Rattle.slip_write_judge.proofs.Rows.{row_is}
use Rattle.slip_write_judge.proofs.row.Goals as goal

pub returns : goal.returns
returns c =
    let a = c.args in
    row_is a.entries.now a.i c.long_at.result c.long_at-2.result c.long_at-3.result
    c.long_at-4.result c.long_at.ensures.is c.long_at-2.ensures.is c.long_at-3.ensures.is
    c.long_at-4.ensures.is
