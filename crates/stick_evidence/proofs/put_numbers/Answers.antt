use mathlib.Core.Path.{◌≡◌, refl, ◌∙◌}
use mathlib.Core.List.{List, [], ◌++◌, append-nil}
use Prim.Native.Nat.{ℕ, ◌+◌, ◌-◌, ◌≤◌}
use native.Mathlib.Omega.{arith}
use lib.ListN.{length, take, drop, drop_of_length-le}
use lib.Seq.{take_all}
use Rattle.shared_words.specs.Bytes.{packed}
use Rattle.shared_words.proofs.Bytes.{packed_more, length-packed}
use Rattle.shared_numbers.specs.Put.{Put}
use Rattle.shared_numbers.proofs.Put.{put-none, put_then}
use Rattle.stick_evidence.proofs.put_numbers.Goals as goal

-- what is put to the end
all-put : (out : List ℕ) (at : ℕ) (new out' : List ℕ) (next : ℕ) → length out ≤ at + length new → Put out at new out' next → out' ≡ take at out ++ new
all-put out at new out' next h p =
    let d : drop (at + length new) out ≡ [] = drop_of_length-le out {i = at + length new} h in
    p.is ∙ rw (d, append-nil new)

pub loop-number-init : goal.loop-number-init
loop-number-init c = (omega arith, refl, omega arith, put-none _ _)

pub put_eight-next-requires : goal.put_eight-next-requires
put_eight-next-requires c = omega (arith, c.loop-number.invariant.2, c.loop-number.invariant.1)

pub loop-number-preserved : goal.loop-number-preserved
loop-number-preserved c =
    let a = c.args in
    let l = c.loop-number in
    let put = c.put_eight-next in
    (omega arith, omega arith, omega (arith, put.ensures.ends), rw (packed_more 8 a.numbers.now l.number-index 0 (omega arith)) (put_then (omega arith) l.invariant.3 put.ensures))

pub shape_of-out : goal.shape_of-out
shape_of-out c = c.loop-number.invariant.1

pub returns : goal.returns
returns c =
    let a = c.args in
    let l = c.loop-number in
    let e = take_all l.number-index a.numbers.now (omega arith) in
    all-put a.out.now a.at (packed 8 a.numbers.now) _ _ (omega (arith, length-packed 8 a.numbers.now)) (rw e at l.invariant.3)
