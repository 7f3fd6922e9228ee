-- Four pieces, one behind the other.
use mathlib.Core.Path.{◌≡◌}
use Prim.Native.Nat.{◌-◌, ◌≤◌}
use native.Mathlib.Omega.{arith}
use lib.ListN.{length, take, drop, length-drop}
use lib.Seq.{length-take-le}
use Rattle.shared_numbers.proofs.Put.{put_then}
use Rattle.studio_rescue.proofs.Mending.{front_length}
use Rattle.studio_rescue.proofs.put_front.Lts as lts
use Rattle.studio_rescue.proofs.put_front.Reads as reads
use Rattle.studio_rescue.proofs.put_front.Tie as tie
use Rattle.studio_rescue.proofs.put_front.Goals as goal

-- what is known at a place of the code
abbrev Lts-Start : Type 0
Lts-Start = lts.Start tie.the-claims reads.Pre reads.Post tie.handed_clauses

-- how long the two pieces of the file are
two : (x : Lts-Start) → length (take 2 x.args.file.now) ≡ 2
two x = length-take-le 2 x.args.file.now (omega arith)

between : (x : Lts-Start) → length (take (x.args.at - 4) (drop 6 x.args.file.now)) ≡ x.args.at - 4
between x = length-take-le (x.args.at - 4) (drop 6 x.args.file.now) (omega (arith, length-drop 6 x.args.file.now))

pub put_long-children-requires : goal.put_long-children-requires
put_long-children-requires c =
    let x = c.before.before.before.before.before.before.before.before in
    omega (arith, c.put_part-sized.ensures.ends, two x, c.before.out-1.given)

pub put_part-scene-requires : goal.put_part-scene-requires
put_part-scene-requires c =
    let x = c.before.before.before.before.before.before.before.before.before.before.before.before in
    (omega arith, omega (arith, c.put_part-sized.ensures.ends, two x, c.put_long-children.ensures.ends, c.before.out-2-1.given, c.before.out-1.given))

pub put_long-requires : goal.put_long-requires
put_long-requires c =
    let x = c.before.before.before.before.before.before.before.before.before.before.before.before.before.before.before.before in
    omega (
      arith,
      c.put_part-sized.ensures.ends,
      two x,
      c.put_long-children.ensures.ends,
      c.put_part-scene.ensures.ends,
      between x,
      c.before.out-3-1.given,
      c.before.out-2-1.given,
      c.before.out-1.given,
    )

pub returns : goal.returns
returns c =
    let fourth = c.before.before.before in
    let third = fourth.before.before.before.before in
    let second = third.before.before.before.before in
    let first = second.before.before.before.before in
    let a = first.before.before.before.before in
    let h : 0 ≤ length a.args.out.now = omega arith in
    let put = put_then h (put_then h (put_then h first.put_part-sized.ensures second.put_long-children.ensures) third.put_part-scene.ensures) fourth.put_long.ensures in
    let s = a.args.file.now in record { is = put; ends = omega (arith, put.ends, front_length s a.args.at a.args.size a.args.len a.requires.0 a.requires.1) }
