-- The rows' answer first, then a part of an entry, then the names, then the room.
use Rattle.std.specs.Prelude.{Result}
use Rattle.std.proofs.lemmas.Result.{err_from_is_err_and}
use mathlib.Core.Path.{◌≡◌, refl, sym}
use Prim.Native.Nat.{ℕ, ◌/◌}
use native.Mathlib.Omega.{arith}
use lib.ListN.{length, length-replicate}
use Rattle.shared_name_tree.proofs.Row.{holds-none}
use Rattle.slip_write_judge.proofs.Answers.{judged-bad, judged-part, judged_unfit, judged_small, judged-size}
use Rattle.slip_write_judge.proofs.judge.Goals as goal

pub judge_rows-requires : goal.judge_rows-requires
judge_rows-requires c = (holds-none c.args.names.now 4000, omega (arith, length-replicate {A = ℕ} 4000 0))

pub returns-in_err-size : goal.returns-in_err-size
returns-in_err-size c =
    let a = c.args in
    let p = err_from_is_err_and c.from_residual.result c.from_residual.ensures.1 in
    rw (p.1, p.2) (sym (judged-bad a.names.now a.entries.now a.room _ c.in_err-size.ensures))

pub returns-then-entries-ne0 : goal.returns-then-entries-ne0
returns-then-entries-ne0 c =
    let a = c.args in
    sym (judged-part a.names.now a.entries.now a.room _ c.in_ok-size.ensures c.if-entries-ne0.true)

pub first_unfit-unfit-requires : goal.first_unfit-unfit-requires
first_unfit-unfit-requires c = (omega arith, c.in_ok-size.ensures.inside)

pub returns-then-unfit-n : goal.returns-then-unfit-n
returns-then-unfit-n c =
    let a = c.args in
    sym (judged_unfit a.names.now a.entries.now a.room _ c.in_ok-size.ensures c.if-entries-ne0.false c.first_unfit-unfit.result (length a.entries.now / 16) refl c.first_unfit-unfit.ensures (omega arith))

pub returns-then-room-size : goal.returns-then-room-size
returns-then-room-size c =
    let a = c.args in
    sym (judged_small a.names.now a.entries.now a.room _ c.in_ok-size.ensures c.if-entries-ne0.false c.first_unfit-unfit.result (length a.entries.now / 16) refl c.first_unfit-unfit.ensures (omega arith) c.if-room-size.true)

pub returns : goal.returns
returns c =
    let a = c.args in
    sym (judged-size a.names.now a.entries.now a.room _ c.in_ok-size.ensures c.if-entries-ne0.false c.first_unfit-unfit.result (length a.entries.now / 16) refl c.first_unfit-unfit.ensures (omega arith) c.if-room-size.false)
