-- A zero at `from` ends the name.
use Prim.Native.Nat.{ℕ, ◌+◌, ◌-◌}
use native.Mathlib.Omega.{arith}
use mathlib.Core.Path.{◌≡◌, ap, ◌∙◌}
use lib.ListN.{length, get_or}
use lib.Seq.{take_all}
use Rattle.studio_names.proofs.Fits.{fit_here}
use Rattle.studio_names.proofs.fit_from.Goals as goal

pub returns-then-s-from-eq0 : goal.returns-then-s-from-eq0
returns-then-s-from-eq0 c =
    let x = c in
    let a = x.args in
    let p = x.requires in
    let q : a.at + (a.from - a.at) ≡ a.from = omega (arith, p.start) in
    let here : get_or a.s.now a.from 0 ≡ 0 = c.if-s-from-eq0.true in
    let z : get_or a.s.now (a.at + (a.from - a.at)) 0 ≡ 0 = ap (λ (i : ℕ). get_or a.s.now i 0) q ∙ here in
    omega (arith, p.start, fit_here a.s.now a.at a.stop p.order p.within (a.from - a.at) p.on (omega (arith, p.start)) (omega (arith, p.near)) z)

pub long_fit-requires : goal.long_fit-requires
long_fit-requires c = let x = c in rw (take_all (length x.args.s.now - 0) x.args.s.now (omega arith)) x.requires

pub returns : goal.returns
returns c = let x = c in rw (take_all (length x.args.s.now - 0) x.args.s.now (omega arith)) at c.long_fit.ensures
