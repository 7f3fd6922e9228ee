use Prim.Native.Nat.{ℕ, ◌+◌, ◌-◌, ◌*◌}
use borrow.Author.Tests.{le-ltb, lt-ltb}
use lib.Dec.{ltb}
use mathlib.Core.Bool.{true}
use mathlib.Core.Path.{◌≡◌, sym, ap, ◌∙◌}
use native.Mathlib.Omega.{arith}
use Rattle.shared_numbers.specs.Numbers.{long_at}
use Rattle.shared_words.specs.Lists.{every}
use Rattle.cob_mesh.proofs.Below.{corner-good, vertex-bad, texture-bad}
use Rattle.cob_mesh.proofs.corners_below.Goals as goal

pub loop-i-init : goal.loop-i-init
loop-i-init c =
    let e : c.args.count - 0 ≡ c.args.count = omega arith in
    let f : c.args.at + 8 * 0 ≡ c.args.at = omega arith in
    rw (e, f)

pub returns-then-vertices-long_at : goal.returns-then-vertices-long_at
returns-then-vertices-long_at c = let x = c.args in
    sym (c.loop-i.invariant ∙ vertex-bad x.s.now x.vertices x.textures (x.at + 8 * c.loop-i.i) (x.count - c.loop-i.i) (omega arith)
    (ap (λ (n : ℕ). ltb n x.vertices) (sym c.long_at.ensures.is) ∙ le-ltb _ _ c.if-vertices-long_at.true))

pub returns-then-textures-long_at : goal.returns-then-textures-long_at
returns-then-textures-long_at c = let x = c.args in
    sym (c.loop-i.invariant ∙ texture-bad x.s.now x.vertices x.textures (x.at + 8 * c.loop-i.i) (x.count - c.loop-i.i) (omega arith)
    (ap (λ (n : ℕ). ltb n x.textures) (sym c.long_at-in-loop-i.ensures.is) ∙ le-ltb _ _ c.if-textures-long_at.true))

pub loop-i-preserved : goal.loop-i-preserved
loop-i-preserved c = let x = c.args in
    let i = c.loop-i.i in
    let v : ltb (long_at x.s.now (x.at + 8 * i)) x.vertices ≡ true = ap (λ (n : ℕ). ltb n x.vertices) (sym c.long_at.ensures.is) ∙ lt-ltb _ _ c.if-vertices-long_at.false in
    let t : ltb (long_at x.s.now (x.at + 8 * i + 4)) x.textures ≡ true = ap (λ (n : ℕ). ltb n x.textures) (sym c.long_at-in-loop-i.ensures.is) ∙ lt-ltb _ _ c.if-textures-long_at.false in
    let e : x.count - (i + 1) ≡ x.count - i - 1 = omega arith in
    let f : x.at + 8 * (i + 1) ≡ x.at + 8 * i + 8 = omega arith in
    c.loop-i.invariant ∙ rw (e, f) (corner-good x.s.now x.vertices x.textures (x.at + 8 * i) (x.count - i) (omega arith) v t)

pub returns : goal.returns
unfolding every
returns c = let e : c.args.count - c.loop-i.i ≡ 0 = omega arith in sym (c.loop-i.invariant ∙ rw e)
