-- Puts a record, and answers the position behind it.
use native.Mathlib.Omega.{arith}
use Rattle.cob_list.proofs.Rows.{six_puts}
use Rattle.cob_list.proofs.put_record.Goals as goal

pub returns : goal.returns
returns c =
    let put-long6' = c.put_long in
    let put-long5' = c.put_long-parent in
    let put-long4' = c.put_long-identifier in
    let put-long3' = c.put_long-len in
    let put-long2' = c.put_long-offset in
    let put-long' = c.put_long-kind in
    let args' = c.args in
    let pre' = c.requires in
    six_puts args'.r (omega (arith, pre'))
    put-long'.ensures
    put-long2'.ensures
    put-long3'.ensures
    put-long4'.ensures
    put-long5'.ensures
    put-long6'.ensures
