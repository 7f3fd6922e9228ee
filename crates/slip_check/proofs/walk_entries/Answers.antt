use mathlib.Core.Path.{◌≡◌, refl, sym, ◌∙◌}
use native.Mathlib.Omega.{arith}
use Rattle.slip_seen.proofs.Seen.{seen_none}
use Rattle.slip_check.proofs.Good.{reached-within}
use Rattle.slip_check.proofs.Walks.{on-start, on-bad, on-more, on-left, on-end}
use Rattle.slip_check.proofs.walk_entries.Goals as goal

pub loop-n-init : goal.loop-n-init
loop-n-init c =
    let s = c in
    (on-start s.args.s.now s.args.count s.requires.0, seen_none s.args.s.now s.args.nodes.now s.requires.2, refl)

pub returns-then-not-is_good : goal.returns-then-not-is_good
returns-then-not-is_good c =
    let l = c.loop-n in
    let a = c.args in
    record { is = on-bad a.s.now a.count l.n l.at l.invariant.0 (omega arith) (sym c.is_good.ensures.is ∙ c.if-not-is_good.true); whole = tt }

pub loop-n-preserved : goal.loop-n-preserved
loop-n-preserved c =
    let l = c.loop-n in
    let a = c.args in
    let e = c.if-not-is_good.false in
    let g = c.is_good.ensures in (
      rw c.byte_at.ensures.0 (on-more a.s.now a.count l.n l.at l.invariant.0 (omega arith) (g.whole e) (sym g.is ∙ e)),
      g.seen e,
      g.room ∙ l.invariant.2,
    )

pub returns-then-at-s : goal.returns-then-at-s
returns-then-at-s c =
    let l = c.loop-n in
    let a = c.args in
    record { is = on-left a.s.now a.count l.n l.at l.invariant.0 (omega (arith, l.invariant.0.few)) (omega arith); whole = tt }

pub returns : goal.returns
returns c =
    let l = c.loop-n in
    let a = c.args in
    let w = reached-within a.s.now l.n l.at l.invariant.0.reached in
    let n : l.n ≡ a.count = omega (arith, l.invariant.0.few) in
    record { is = on-end a.s.now a.count l.n l.at l.invariant.0 n (omega arith); whole = rw n at l.invariant.0.reached.whole }
