use mathlib.Core.Path.{◌≡◌, refl}
use mathlib.Core.List.{[], ◌∷◌, ◌++◌}
use Prim.Native.Nat.{◌+◌, ◌<◌}
use native.Mathlib.Numerals.{add-one}
use native.Mathlib.Omega.{arith}
use lib.ListN.{length, take, drop, get_or, length-drop}
use lib.Seq.{take-suc, get_or-drop}
use Rattle.shared_numbers.proofs.Put.{put_byte, put_then}
use Rattle.shared_copy.proofs.put_part.Goals as goal

pub loop-i-preserved : goal.loop-i-preserved
loop-i-preserved c =
    let a = c.args in
    let l = c.loop-i in
    let s = a.s.now in
    let x = get_or s (a.from + l.i) 0 in
    let k : l.i < length (drop a.from s) = omega (arith, length-drop a.from s) in
    let more : take (l.i + 1) (drop a.from s) ≡ take l.i (drop a.from s) ++ x ∷ [] = rw (add-one l.i, take-suc (drop a.from s) l.i 0 k, get_or-drop a.from s l.i 0) refl in
    let next : a.at + (l.i + 1) ≡ a.at + l.i + 1 = omega arith in
    rw (more, next) (put_then (omega arith) l.invariant (put_byte l.out (a.at + l.i) x (omega (arith, l.auto.out))))
