-- Seven stores, each within the row.
use native.Mathlib.Omega.{arith}
use lib.ListN.{length-set}
use Rattle.studio_list_rows.proofs.Rows.{seven_stores}
use Rattle.studio_list_rows.proofs.put_numbers.Goals as goal

pub bounds-records-i-2 : goal.bounds-records-i-2
bounds-records-i-2 c = simp length-set (omega arith)

pub bounds-records-i-3 : goal.bounds-records-i-3
bounds-records-i-3 c = simp length-set (omega arith)

pub bounds-records-i-4 : goal.bounds-records-i-4
bounds-records-i-4 c = simp length-set (omega arith)

pub bounds-records-i-5 : goal.bounds-records-i-5
bounds-records-i-5 c = simp length-set (omega arith)

pub bounds-records-i-6 : goal.bounds-records-i-6
bounds-records-i-6 c = simp length-set (omega arith)

pub bounds-records-i-7 : goal.bounds-records-i-7
bounds-records-i-7 c = simp length-set (omega arith)

pub returns : goal.returns
returns c =
    let a = c.args in
    seven_stores a.records.now a.i a.r.identifier a.r.offset a.r.len a.r.depth a.r.parent a.r.own a.r.next
