-- The children of 4D4D were refused, or 4D4D is judged at its end.
use mathlib.Core.Path.{refl, sym, ap}
use native.Mathlib.Omega.{arith}
use mathlib.Core.List.{[]}
use lib.Dec.{leb}
use Rattle.shared_words.proofs.Bytes.{bytes-all}
use Rattle.studio_rules.specs.Walk.{top}
use Rattle.studio_marks.specs.Marks.{RuleIs}
use Rattle.studio_check.proofs.Files.{figure-row, told, top_context, top-run, figure-refused, figure_shut, figure-accepted}
use Rattle.std.proofs.lemmas.Result.{err_from_is_err_and}
use Rattle.studio_check.proofs.check_figure.Goals as goal

pub run-requires : goal.run-requires
run-requires c =
    let x = c in
    let v = c.version-version in
    (x.requires.0, omega arith, record { ends = omega arith; short = x.requires.1; word = omega arith; six = refl }, (top v.result, [], refl, top_context v.result _ figure-row), c.slots-slots.ensures)

pub at_end-requires : goal.at_end-requires
at_end-requires c =
    (c.run.ensures.six, λ e. absurd (omega arith))

pub overflow_add-kids : goal.overflow_add-kids
overflow_add-kids c = let w = c.in_ok-kids.ensures.within in omega (arith, c.requires.1)

pub counts-requires : goal.counts-requires
counts-requires c = let w = c.in_ok-kids.ensures.within in omega (arith, c.requires.0, c.requires.1)

pub returns-in_err-kids : goal.returns-in_err-kids
returns-in_err-kids c =
    let s = c.args.file.now in
    let b = bytes-all s (λ i. omega (arith, c.type_inv.file i)) in
    let rule : RuleIs (told s) (leb 3 c.version-version.result) = ap (leb 3) (sym c.version-version.ensures) in
    let r = c.run in
    let y = err_from_is_err_and c.from_residual.result c.from_residual.ensures.1 in
    rw (y.1, y.2) (figure-refused s b c.requires.0 c.requires.1 r.new.marks _ (top-run s _ figure-row _ rule r.result r.new.marks r.ensures.is c.in_err-kids.was))

pub returns-in_err-at_end : goal.returns-in_err-at_end
returns-in_err-at_end c =
    let s = c.args.file.now in
    let b = bytes-all s (λ i. omega (arith, c.type_inv.file i)) in
    let rule : RuleIs (told s) (leb 3 c.version-version.result) = ap (leb 3) (sym c.version-version.ensures) in
    let r = c.run in
    let k = c.in_ok-kids.kids in
    let e = c.at_end in
    let y = err_from_is_err_and c.from_residual-in_err-at_end.result c.from_residual-in_err-at_end.ensures.1 in
    rw (y.1, y.2)
    (figure_shut s b c.requires.0 c.requires.1 r.new.marks k.next k.records k.skipped (top-run s _ figure-row _ rule r.result r.new.marks r.ensures.is c.in_ok-kids.was) _ rule e.result e.ensures _ c.in_err-at_end.was)

pub returns : goal.returns
returns c =
    let s = c.args.file.now in
    let b = bytes-all s (λ i. omega (arith, c.type_inv.file i)) in
    let rule : RuleIs (told s) (leb 3 c.version-version.result) = ap (leb 3) (sym c.version-version.ensures) in
    let r = c.run in
    let k = c.in_ok-kids.kids in
    let e = c.at_end in
    figure-accepted s b c.requires.0 c.requires.1 r.new.marks k.next k.records k.skipped (top-run s _ figure-row _ rule r.result r.new.marks r.ensures.is c.in_ok-kids.was) _ rule e.result e.ensures
    c.in_ok-at_end.was c.counts.result c.counts.ensures
