-- A refused file stays refused; an accepted one has its layout in it, whose records are written where there is room.
use mathlib.Core.Path.{sym, ◌∙◌}
use native.Mathlib.Omega.{arith}
use Rattle.shared_words.proofs.Bytes.{bytes-all}
use Rattle.studio_rules.specs.Layout.{figure}
use Rattle.studio_rules.specs.Parses.{in_file}
use Rattle.studio_check.proofs.Accepted.{accepted-by}
use Rattle.studio_list_rows.specs.Lent.{lent}
use Rattle.studio_list.proofs.Whole.{rows-refused, whole-laid, whole-bounds, whole_room, rows-no-room, rows-filled}
use Rattle.std.proofs.lemmas.Result.{err_from_is_err_and}
use Rattle.studio_list.proofs.list_rows.Goals as goal

pub returns-then-room-counts : goal.returns-then-room-counts
returns-then-room-counts c =
    let x = c.args in
    let a = accepted-by x.file.now _ (sym c.check.ensures ∙ c.in_ok-counts.was) in
    rows-no-room a (lent x.records.now x.bytes.now) c.if-room-counts.true

pub list_run-requires : goal.list_run-requires
list_run-requires c =
    let x = c in
    let a = accepted-by x.args.file.now _ (sym c.check.ensures ∙ c.in_ok-counts.was) in
    let b = bytes-all x.args.file.now (λ i. omega (arith, c.type_inv.file i)) in (
      omega arith,
      whole-bounds a b,
      (in_file, figure a.kids, whole-laid a b, whole_room a (lent x.args.records.now x.args.bytes.now) c.if-room-counts.false x.requires),
      c.slots-slots.ensures,
    )

pub returns-in_err-counts : goal.returns-in_err-counts
returns-in_err-counts c =
    let x = c.args in
    let y = err_from_is_err_and c.from_residual.result c.from_residual.ensures.1 in
    rw (y.1, y.2) (rows-refused x.file.now x.room (lent x.records.now x.bytes.now) _ (sym c.check.ensures ∙ c.in_err-counts.was))

pub returns : goal.returns
returns c =
    let x = c.args in
    let a = accepted-by x.file.now _ (sym c.check.ensures ∙ c.in_ok-counts.was) in
    let b = bytes-all x.file.now (λ i. omega (arith, c.type_inv.file i)) in
    rows-filled a (lent x.records.now x.bytes.now) c.if-room-counts.false (c.list_run.ensures in_file (figure a.kids) (whole-laid a b))
