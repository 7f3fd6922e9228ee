-- A child that is passed over, or a run of one, with fresh marks.
use mathlib.Core.Path.{refl, subst}
use mathlib.Core.List.{[]}
use native.Mathlib.Omega.{arith}
use Rattle.shared_words.proofs.Bytes.{bytes-all}
use Rattle.studio_head.specs.Passes.{Passes}
use Rattle.studio_rescue_rules.specs.Rescue.{scene}
use Rattle.studio_rescue_sift.proofs.Judging.{scene_context, run-of-one, child-cut, child-kept, child-passed}
use Rattle.studio_rescue_sift.proofs.judge.Goals as goal

pub pass_over-requires : goal.pass_over-requires
pass_over-requires c = let g = c.requires in (g.order, g.ends, g.table_is)

pub returns-then-pass_over-stop : goal.returns-then-pass_over-stop
returns-then-pass_over-stop c =
    let x = c in
    let a = x.args in
    let b = bytes-all a.file.now (λ i. omega (arith, c.type_inv.file i)) in
    child-passed a.file.now a.version a.at a.stop b x.requires.ends
    (subst (Passes (scene a.version) [] a.file.now a.at a.stop) c.if-pass_over-stop.true (c.pass_over.ensures.is (scene a.version) []))

pub run-requires : goal.run-requires
run-requires c =
    let x = c in
    let v = x.args.version in
    let w = c.row-row.ensures in
    let g = x.requires in
    (g.order, g.begins, record { ends = g.ends; short = g.short; word = omega arith; six = refl }, (scene v, [], refl, scene_context v _ w), g.table_is)

pub returns-in-Err : goal.returns-in-Err
returns-in-Err c =
    let a = c.args in
    let r = c.run in
    let g = c.in-Err in
    child-cut a.at a.stop r.new.marks _ g.r c.number.result (run-of-one a.file.now a.version _ a.at a.stop c.row-row.ensures r.result r.new.marks r.ensures.is g.is) c.number.ensures.is

pub returns-in-Ok : goal.returns-in-Ok
returns-in-Ok c =
    let a = c.args in
    let r = c.run in
    let g = c.in-Ok.field-0 in
    child-kept a.at a.stop r.new.marks _ g.next g.records g.skipped (run-of-one a.file.now a.version _ a.at a.stop c.row-row.ensures r.result r.new.marks r.ensures.is c.in-Ok.is)
