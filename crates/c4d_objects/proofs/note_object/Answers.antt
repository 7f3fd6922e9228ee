-- One number, or two.
use mathlib.Core.Path.{◌≡◌, ap}
use Prim.Native.Nat.{◌+◌}
use native.Mathlib.Omega.{arith}
use lib.ListN.{length}
use Rattle.shared_numbers.proofs.Put.{put_then}
use Rattle.c4d_objects.proofs.Notes.{front_alone, front_pair}
use Rattle.c4d_objects.proofs.note_object.Goals as goal

pub returns-then-textures-eq0 : goal.returns-then-textures-eq0
returns-then-textures-eq0 c =
    let a = c.args in
    let e = front_alone a.offset a.number a.textures c.if-textures-eq0.true in
    let l = ap length e in record { is = omega arith; noted = λ h. rw e (c.note.ensures (omega arith)) }

pub returns : goal.returns
returns c =
    let first = c in
    let a = first.args in
    let e = front_pair a.offset a.number a.textures first.if-textures-eq0.false in
    let l = ap length e in
    let z : a.row + 2 ≡ a.row + 1 + 1 = omega arith in
    let same = c.note-2.auto.notes in record { is = omega arith; noted = λ h. rw (e, z) (put_then (omega arith) (first.note-2.ensures (omega arith)) (c.note-3.ensures (omega arith))) }
