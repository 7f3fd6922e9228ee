-- The seven numbers, one by one.
use Rattle.stick_records.proofs.item_record.Goals as goal

pub returns : goal.returns
returns c =
    let n = c.eight_at-name.ensures in
    let l = c.eight_at-len.ensures in
    let k = c.kind_seen-kind.ensures in
    let k' = c.eight_at.ensures in
    let s = c.eight_at-size.ensures in
    let m = c.eight_at-checksum.ensures in
    let r = c.eight_at-reader.ensures in
    let a = c.eight_at-answer.ensures in
    rw (k, n, l, k', s, m, r, a)
