use mathlib.Core.Path.{◌≡◌, ap, ◌∙◌}
use mathlib.Core.List.{List}
use Prim.Native.Nat.{ℕ}
use native.Mathlib.Omega.{arith}
use lib.ListN.{take}
use lib.Seq.{take_all}
use Rattle.slip_sums.specs.Fletcher.{total}
use Rattle.slip_sums.proofs.Weighted.{weighted, running-is}
use Rattle.slip_sums.proofs.Steps.{total-more, weighted-more}
use Rattle.slip_sums.proofs.rest_totals.Goals as goal

pub loop-b-preserved : goal.loop-b-preserved
loop-b-preserved c =
    let s = c.args.s.now in
    let l = c.loop-b in
    let b = c.type_inv.s l.b-index in (
      omega (arith, total-more s l.b-index (omega arith)),
      omega (arith, weighted-more s l.b-index (omega arith)),
      omega arith,
      omega arith,
    )

pub returns : goal.returns
returns c =
    let s : List ℕ = c.args.s.now in
    let l = c.loop-b in
    let all : take l.b-index s ≡ s = take_all l.b-index s (omega arith) in
    record {
      first-is = l.invariant.0 ∙ ap total all;
      second_is = omega (arith, l.invariant.1, running-is s, ap weighted all);
      first_small = omega arith;
      second_small = omega arith;
    }
