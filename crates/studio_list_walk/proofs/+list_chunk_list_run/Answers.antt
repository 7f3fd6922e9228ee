-- List of a chunk and list of a run meet their contracts together. A chunk is skipped, or it is its children and then a record
-- (Chunks); a run goes on from chunk to chunk (Loop).
use mathlib.Core.Path.{refl}
use Prim.Native.Nat.{◌+◌, ◌-◌, ◌*◌, ◌≤◌, ◌<◌}
use native.Mathlib.Omega.{arith}
use Rattle.studio_row.proofs.Facts.{holder_kind}
use Rattle.studio_list_rows.specs.Lent.{lent}
use Rattle.studio_list_walk.specs.Laid.{first, Listed}
use Rattle.studio_list_rows.proofs.Rows.{room_less}
use Rattle.studio_rules.proofs.SixEach.{count_small}
use Rattle.studio_list_walk.proofs.Runs.{split-count, header-ends, first-at}
use Rattle.studio_list_walk.proofs.Chunks.{skipped-listed, entered, childless, entered-listed}
use Rattle.studio_list_walk.proofs.Loop.{sofar_start, sofar_next, sofar_ends}
use Rattle.studio_list_walk.proofs.+list_chunk_list_run.Goals as goal
use Rattle.studio_list_walk.proofs.+list_chunk_list_run.Goals.{list_chunk-then-from-stop, list_chunk-else-from-stop}

-- ---- a chunk

pub list_chunk-returns-then-row-eq0 : goal.list_chunk-returns-then-row-eq0
list_chunk-returns-then-row-eq0 t c = skipped-listed c.requires.0 c.requires.1 c.word_at-id.ensures.is c.row-row.ensures (lent c.args.records.now c.args.bytes.now) c.if-row-eq0.true

pub list_chunk-own_length-own-requires : goal.list_chunk-own_length-own-requires
list_chunk-own_length-own-requires t c = (omega arith, omega arith, λ h. rw c.row-row.ensures (holder_kind _ (rw c.row-row.ensures at h)))

pub list_chunk-list_run-after-requires : goal.list_chunk-list_run-after-requires
list_chunk-list_run-after-requires t c =
    let x = c.args in
    let q = c.requires.2 in
    let e = entered c.requires.0 c.requires.1 c.word_at-id.ensures.is c.row-row.ensures c.own_length-own.ensures.is c.if-row-eq0.false q.0 q.1 q.2 in
    let z = e.counts in
    let v = c.own_length-own.ensures.within in (
      omega arith,
      (
        omega arith,
        record { ends = omega arith; short = omega arith; deep = omega arith; over = omega arith; before = omega arith },
        (e.around, e.kids, e.laid, room_less refl refl (omega arith) q.3),
        c.requires.3,
      ),
    )

pub list_chunk-overflow_cast-record-6 : goal.list_chunk-overflow_cast-record-6
list_chunk-overflow_cast-record-6 t c =
    let x = c.args in
    let q = c.requires.2 in
    let e = entered c.requires.0 c.requires.1 c.word_at-id.ensures.is c.row-row.ensures c.own_length-own.ensures.is c.if-row-eq0.false q.0 q.1 q.2 in
    let came : Listed (lent x.records.now x.bytes.now) (x.at + 6 + c.own_length-own.result) (x.depth + 1) x.next (x.next + 1) e.kids (lent c.if-from-stop.records c.if-from-stop.bytes) c.if-from-stop.after =
    elim c.if-from-stop.branch [
      | list_chunk-then-from-stop w ↦ rw (w.records-is, w.bytes-is, w.after-is) (w.list_run-after.ensures e.around e.kids e.laid)
      | list_chunk-else-from-stop w ↦ childless e (lent x.records.now x.bytes.now) x.depth x.parent x.next (omega (arith, w.if-from-stop.false)) (rw (w.records-is, w.bytes-is)) w.after-is
    ] in
    omega (arith, came.counts, e.fills, count_small e.kids)

pub list_chunk-put_record-requires : goal.list_chunk-put_record-requires
list_chunk-put_record-requires t c =
    let x = c.args in
    let q = c.requires.2 in
    let e = entered c.requires.0 c.requires.1 c.word_at-id.ensures.is c.row-row.ensures c.own_length-own.ensures.is c.if-row-eq0.false q.0 q.1 q.2 in
    let z = e.counts in
    (omega arith, room_less c.if-from-stop.auto.records c.if-from-stop.auto.bytes (omega arith) q.3)

pub list_chunk-returns : goal.list_chunk-returns
list_chunk-returns t c =
    λ p u l.
    let x = c.args in
    let e = entered c.requires.0 c.requires.1 c.word_at-id.ensures.is c.row-row.ensures c.own_length-own.ensures.is c.if-row-eq0.false p u l in
    let came : Listed (lent x.records.now x.bytes.now) (x.at + 6 + c.own_length-own.result) (x.depth + 1) x.next (x.next + 1) e.kids (lent c.if-from-stop.records c.if-from-stop.bytes) c.if-from-stop.after =
    elim c.if-from-stop.branch [
      | list_chunk-then-from-stop w ↦ rw (w.records-is, w.bytes-is, w.after-is) (w.list_run-after.ensures e.around e.kids e.laid)
      | list_chunk-else-from-stop w ↦ childless e (lent x.records.now x.bytes.now) x.depth x.parent x.next (omega (arith, w.if-from-stop.false)) (rw (w.records-is, w.bytes-is)) w.after-is
    ] in
    entered-listed e (lent x.records.now x.bytes.now) x.depth x.parent x.next came c.put_record.ensures

-- ---- a run

pub list_run-loop-from-init : goal.list_run-loop-from-init
list_run-loop-from-init t c = record { past = omega arith; within = omega arith; six = omega arith; sofar = λ p u l. sofar_start l }

pub list_run-long_at-requires : goal.list_run-long_at-requires
list_run-long_at-requires t c =
    let q = c.requires.2 in
    let f = c.loop-from.invariant.sofar q.0 q.1 q.2 in
    let h = header-ends c.loop-from-test.true f.left f.laid in
    omega arith

pub list_run-overflow_add-stop : goal.list_run-overflow_add-stop
list_run-overflow_add-stop t c =
    let q = c.requires.2 in
    let f = c.loop-from.invariant.sofar q.0 q.1 q.2 in
    let a = first-at c.loop-from-test.true f.left f.laid c.long_at.result c.long_at.ensures.is in
    let m = a.ends in
    let g = a.header in
    omega arith

pub list_run-list_chunk-number-requires : goal.list_run-list_chunk-number-requires
list_run-list_chunk-number-requires t c =
    let q = c.requires.2 in
    let f = c.loop-from.invariant.sofar q.0 q.1 q.2 in
    let a = first-at c.loop-from-test.true f.left f.laid c.long_at.result c.long_at.ensures.is in
    let m = a.ends in
    let g = a.header in
    let i = c.loop-from in
    let s = split-count f.left in
    let z = f.counts in (
      omega arith,
      (
        omega arith,
        record { ends = omega arith; short = omega arith; deep = omega arith; over = omega arith; before = omega arith },
        (q.0, f.left, a.alone, room_less i.auto.records i.auto.bytes (omega arith) q.3),
        c.requires.3,
      ),
    )

pub list_run-loop-from-smaller : goal.list_run-loop-from-smaller
list_run-loop-from-smaller t c =
    let q = c.requires.2 in
    let f = c.loop-from.invariant.sofar q.0 q.1 q.2 in
    let a = first-at c.loop-from-test.true f.left f.laid c.long_at.result c.long_at.ensures.is in
    let m = a.ends in
    let g = a.header in
    omega arith

pub list_run-loop-from-preserved : goal.list_run-loop-from-preserved
list_run-loop-from-preserved t c =
    let q = c.requires.2 in
    let f = c.loop-from.invariant.sofar q.0 q.1 q.2 in
    let a = first-at c.loop-from-test.true f.left f.laid c.long_at.result c.long_at.ensures.is in
    let m = a.ends in
    let g = a.header in
    let d = c.list_chunk-number in
    let h = d.ensures q.0 f.left a.alone in
    let z = a.size_is in
    let y = h.counts in
    let v = count_small (first f.left) in
    record {
      past = omega arith;
      within = omega arith;
      six = omega arith;
      sofar = λ p u l.
          let f₁ = c.loop-from.invariant.sofar p u l in
          let a₁ = first-at c.loop-from-test.true f₁.left f₁.laid c.long_at.result c.long_at.ensures.is in
          sofar_next f₁ a₁ (d.ensures p f₁.left a₁.alone);
    }

pub list_run-returns : goal.list_run-returns
list_run-returns t c = λ p u l. sofar_ends (c.loop-from.invariant.sofar p u l) c.loop-from-test.false
