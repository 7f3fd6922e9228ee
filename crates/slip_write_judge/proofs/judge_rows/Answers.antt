use mathlib.Core.Path.{refl, sym, ap, ◌∙◌}
use Prim.Native.Nat.{ℕ, ◌-◌, ◌/◌}
use native.Mathlib.Omega.{arith}
use lib.ListN.{length}
use Rattle.slip_seen.proofs.Seen.{seen_none}
use Rattle.slip_write_judge.specs.Rows.{rows_from}
use Rattle.slip_write_judge.proofs.Judging.{given-rows, on-start, on-bad, on-more, on-end}
use Rattle.slip_write_judge.proofs.judge_rows.Goals as goal

pub loop-i-init : goal.loop-i-init
loop-i-init c =
    let s = c in
    let a = s.args in
    (refl, on-start a.names.now a.entries.now (length a.entries.now / 16), seen_none a.names.now a.nodes.now s.requires.0, refl)

pub is_good-requires : goal.is_good-requires
is_good-requires c =
    let l = c.loop-i in
    let s = c in
    (omega arith, l.invariant.2, omega (arith, l.invariant.3, s.requires.1))

pub returns-then-not-is_good : goal.returns-then-not-is_good
returns-then-not-is_good c =
    let l = c.loop-i in
    let a = c.args in
    let s = a.entries.now in
    let g = sym c.is_good.ensures.is ∙ c.if-not-is_good.true in
    let n = given-rows s ∙ ap (λ (k : ℕ). rows_from k s 0) (sym l.invariant.0) in
    rw n (on-bad a.names.now s _ l.size l.i l.invariant.1 (omega arith) g)

pub loop-i-preserved : goal.loop-i-preserved
loop-i-preserved c =
    let l = c.loop-i in
    let a = c.args in
    let good = c.is_good.ensures in
    let t = c.if-not-is_good.false in (
      l.invariant.0,
      rw c.row.ensures (on-more a.names.now a.entries.now _ l.size l.i l.invariant.1 (omega arith) (sym good.is ∙ t) (good.inside t) (good.short t) (good.few t)),
      good.seen t,
      good.room ∙ l.invariant.3,
    )

pub returns : goal.returns
returns c =
    let l = c.loop-i in
    let a = c.args in
    let f = l.invariant.1.few in
    on-end a.names.now a.entries.now _ l.size l.i l.invariant.1 (omega arith) l.invariant.0
