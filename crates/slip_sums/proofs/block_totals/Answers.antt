use mathlib.Core.Path.{◌≡◌, ap, ◌∙◌}
use mathlib.Core.List.{List}
use Prim.Native.Nat.{ℕ, ◌*◌, ◌-◌}
use native.Mathlib.Omega.{arith}
use lib.ListN.{take, get_or}
use lib.Seq.{take_all}
use Rattle.slip_sums.specs.Fletcher.{total}
use Rattle.slip_sums.proofs.Weighted.{weighted, running-is}
use Rattle.slip_sums.proofs.Steps.{ahead_more, total-more, product_small}
use Rattle.slip_sums.proofs.block_totals.Goals as goal

pub overflow_cast-b : goal.overflow_cast-b
overflow_cast-b c = omega (arith, c.type_inv.s c.loop-i.i)

pub overflow_mul-counted : goal.overflow_mul-counted
overflow_mul-counted c =
    let s = c.args.s.now in
    let i = c.loop-i.i in
    omega (arith, product_small (get_or s i 0) (128 - i) (omega (arith, c.type_inv.s i)) (omega arith))

pub overflow_add-first : goal.overflow_add-first
overflow_add-first c = omega (arith, c.type_inv.s c.loop-i.i)

pub overflow_add-high : goal.overflow_add-high
overflow_add-high c =
    let s = c.args.s.now in
    let i = c.loop-i.i in
    omega (arith, product_small (get_or s i 0) (128 - i) (omega (arith, c.type_inv.s i)) (omega arith))

pub loop-i-preserved : goal.loop-i-preserved
loop-i-preserved c =
    let s = c.args.s.now in
    let l = c.loop-i in
    let b = c.type_inv.s l.i in
    let p = product_small (get_or s l.i 0) (128 - l.i) (omega arith) (omega arith) in (
      omega (arith, total-more s l.i (omega arith)),
      omega (arith, ahead_more 128 s l.i (omega arith) (omega arith)),
      omega arith,
      omega arith,
      omega arith,
      omega arith,
    )

pub returns : goal.returns
returns c =
    let s : List ℕ = c.args.s.now in
    let l = c.loop-i in
    let all : take l.i s ≡ s = take_all l.i s (omega arith) in
    let done : 128 - l.i ≡ 0 = omega arith in
    record {
      first-is = l.invariant.0 ∙ ap total all;
      second_is = omega (arith, l.invariant.1, running-is s, ap weighted all, ap (λ (n : ℕ). n * total (take l.i s)) done);
      first_small = omega arith;
      second_small = omega arith;
    }
