-- The B010 of the part, and its last word.
use mathlib.Core.Path.{refl, sym, ◌∙◌}
use native.Mathlib.Omega.{arith}
use Prim.Native.Nat.{◌+◌, ◌≤◌}
use lib.ListN.{length}
use Rattle.studio_parts_find.proofs.Fathers.{listed_here, part_room, in_part, told-header, told-ends, father-is}
use Rattle.studio_parts_find.proofs.father_at.Lts as lts
use Rattle.studio_parts_find.proofs.father_at.Reads as reads
use Rattle.studio_parts_find.proofs.father_at.Tie as tie
use Rattle.studio_parts_find.proofs.father_at.Goals as goal

-- what is known at a place of the code
abbrev Lts-After-next_child-told : Type 0
Lts-After-next_child-told = lts.After-next_child tie.the-claims reads.Pre reads.Post tie.handed_clauses

-- what is known at a place of the code
abbrev Lts-After-long_at-2 : Type 0
Lts-After-long_at-2 = lts.After-long_at2 tie.the-claims reads.Pre reads.Post tie.handed_clauses

-- where the B010 stands, in the part that is known to be there
header-there : (d : Lts-After-next_child-told) →
    let x = d.before.before.before in
    let w = d.long_at in
    (d.next_child-told.result + 6 ≤ x.args.at + w.result) × (x.args.at + w.result ≤ length x.args.file.now)
header-there d =
    let x = d.before.before.before in
    let q = x.requires in
    let w = d.long_at in
    let i = in_part q.0 q.1 q.2 q.3 x.args.file.now x.args.at q.4 q.5 w.result w.ensures.is in
    let r = part_room q.0 q.1 q.2 q.3 x.args.file.now x.args.at q.4 q.5 w.result w.ensures.is in
    (told-header q.0 q.1 q.2 q.3 x.args.file.now x.args.at q.4 q.5 w.result w.ensures.is d.next_child-told.result 0 (d.next_child-told.ensures _ _ i), omega (arith, r, q.5.stands.stays))

-- where it ends
ends_there : (d : Lts-After-long_at-2) →
    let x = d.before.before.before.before in
    let o = d.next_child-told.result in
    (o + 8 ≤ o + d.long_at-2.result) × (o + d.long_at-2.result ≤ length x.args.file.now)
ends_there d =
    let x = d.before.before.before.before in
    let q = x.requires in
    let w = d.long_at in
    let i = in_part q.0 q.1 q.2 q.3 x.args.file.now x.args.at q.4 q.5 w.result w.ensures.is in
    let t = told-ends q.0 q.1 q.2 q.3 x.args.file.now x.args.at q.4 q.5 w.result w.ensures.is d.next_child-told.result d.long_at-2.result (d.next_child-told.ensures _ _ i) d.long_at-2.ensures.is in
    (t.0, omega (arith, t.1, (header-there d.before).1))

pub long_at-requires : goal.long_at-requires
long_at-requires c =
    let x = c in
    let q = x.requires in
    let r = part_room q.0 q.1 q.2 q.3 x.args.file.now x.args.at q.4 q.5 _ refl in
    omega (arith, r, q.5.stands.stays)

pub next_child-told-requires : goal.next_child-told-requires
next_child-told-requires c =
    let x = c in
    let q = x.requires in
    (listed_here.2, (_, q.2, in_part q.0 q.1 q.2 q.3 x.args.file.now x.args.at q.4 q.5 c.long_at.result c.long_at.ensures.is))

pub overflow_add-told : goal.overflow_add-told
overflow_add-told c = omega (arith, header-there c.before, c.requires.5.stands.small)

pub long_at-requires-2 : goal.long_at-requires-2
long_at-requires-2 c = omega (arith, header-there c.before)

pub overflow_add-behind : goal.overflow_add-behind
overflow_add-behind c = omega (arith, ends_there c.before, c.requires.5.stands.small)

pub overflow_sub-behind : goal.overflow_sub-behind
overflow_sub-behind c = omega (arith, ends_there c.before)

pub word_at-requires : goal.word_at-requires
word_at-requires c = omega (arith, ends_there c.before)

pub returns : goal.returns
returns c =
    let x = c in
    let w = c.long_at in
    let n = c.next_child-told in
    let l = c.long_at-2 in record {
      is = λ p own kids rest stop h.
          let i = in_part p own kids rest x.args.file.now x.args.at stop h w.result w.ensures.is in
          c.word_at.ensures.is ∙ sym (father-is p own kids rest x.args.file.now x.args.at stop h w.result w.ensures.is n.result l.result (n.ensures _ _ i) l.ensures.is);
      small = c.word_at.ensures.small;
    }
