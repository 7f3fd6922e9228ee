use mathlib.Core.Path.{◌≡◌}
use mathlib.Core.List.{List, [], ◌∷◌, ◌++◌}
use Prim.Native.Nat.{ℕ, ◌-◌, ◌/◌, ◌%◌}
use native.Mathlib.Omega.{arith}
use lib.ListN.{take, drop, get_or}
use Rattle.shared_words.specs.Bytes.{le}
use Rattle.shared_words.proofs.Bytes.{packed_append}
use Rattle.shared_numbers.proofs.Put.{put_then}
use Rattle.c4d_list.proofs.Putting.{one-more, room, all-put}
use Rattle.c4d_list.proofs.put_materials.Goals as goal

-- a number of four bytes is two of two, the lower one first
halves : (v : ℕ) → le 2 (v % 65536) ++ le 2 (v / 65536) ≡ le 4 v
halves v =
    let upper : v / 65536 ≡ v / 256 / 256 = omega arith in
    let low : v % 65536 % 256 ≡ v % 256 = omega arith in
    let next : v % 65536 / 256 ≡ v / 256 % 256 = omega arith in
    let same : v / 256 % 256 % 256 ≡ v / 256 % 256 = omega arith in
    rw (low, next, same, upper)

pub put_word-high-requires : goal.put_word-high-requires
put_word-high-requires c = let a = c.args in let l = c.loop-number in
    omega (arith, room a.notes.now a.from a.to a.at a.row.now l.row l.behind l.number-index c.requires.0 c.requires.1 c.requires.2 l.invariant c.loop-number-test.true l.auto.row)

pub put_word-behind-requires : goal.put_word-behind-requires
put_word-behind-requires c = let a = c.args in let l = c.loop-number in
    omega (arith, c.put_word-high.ensures.ends, room a.notes.now a.from a.to a.at a.row.now l.row l.behind l.number-index c.requires.0 c.requires.1 c.requires.2 l.invariant c.loop-number-test.true l.auto.row)

pub loop-number-preserved : goal.loop-number-preserved
loop-number-preserved c = let a = c.args in let l = c.loop-number in
    let items : List ℕ = take (a.to - a.from) (drop a.from a.notes.now) in
    let number : ℕ = get_or items l.number-index 0 in
    let four = room a.notes.now a.from a.to a.at a.row.now l.row l.behind l.number-index c.requires.0 c.requires.1 c.requires.2 l.invariant c.loop-number-test.true l.auto.row in
    let both = put_then (omega (arith, four)) c.put_word-high.ensures c.put_word-behind.ensures in
    rw (one-more items l.number-index c.loop-number-test.true, packed_append 4 (take l.number-index items) (number ∷ []))
    (put_then (omega (arith, c.requires.2)) l.invariant (rw (halves number) at both))

pub returns : goal.returns
returns c = let a = c.args in let l = c.loop-number in
    all-put a.notes.now a.from a.to a.at a.row.now l.row l.behind l.number-index c.requires.0 c.requires.1 l.invariant (omega arith)
