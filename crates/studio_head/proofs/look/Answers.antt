-- The header, the row, the place, the slot, and then own data.
use mathlib.Core.Path.{◌≡◌, refl, sym, ap, ◌∙◌}
use native.Mathlib.Omega.{arith}
use mathlib.Core.Bool.{Bool, true, cond}
use Prim.Native.Nat.{ℕ}
use lib.ListN.{get_or}
use Rattle.studio_row.specs.Packed.{may_hold_in, slot_in, slot_of}
use Rattle.studio_marks.specs.Marks.{noted}
use Rattle.studio_head.proofs.Opens.{six_still, within_more}
use Rattle.studio_head.proofs.Looks.{looked, known, look-fault, look_skip, look_misplaced, look_twice, look-opened}
use Rattle.std.proofs.lemmas.Result.{err_from_is_err_and}
use Rattle.studio_head.proofs.look.Goals as goal

pub returns-then-row-eq0 : goal.returns-then-row-eq0
returns-then-row-eq0 c =
    let a = c.args in
    let w = c.read_header in
    let l = looked a.file.now a.at a.end a.parent a.count a.marks.now _ _ c.row-row.result w.result c.requires.0 c.requires.1 w.ensures.is c.in_ok-header.was c.in_ok-header.ensures.within c.row-row.ensures in
    let q = look_skip _ _ _ _ _ _ l c.if-row-eq0.true in
    record { is = q.is; marks = q.marks; six = l.six; within = (l.within.0, l.within.1) }

pub returns-then-not-may_hold : goal.returns-then-not-may_hold
returns-then-not-may_hold c =
    let a = c.args in
    let w = c.read_header in
    let l = looked a.file.now a.at a.end a.parent a.count a.marks.now _ _ c.row-row.result w.result c.requires.0 c.requires.1 w.ensures.is c.in_ok-header.was c.in_ok-header.ensures.within c.row-row.ensures in
    let q = look_misplaced _ _ _ _ _ _ l c.if-row-eq0.false (sym c.may_hold.ensures ∙ c.if-not-may_hold.true) in
    record { is = q.is; marks = q.marks; six = l.six; within = tt }

pub returns-then-not-note : goal.returns-then-not-note
returns-then-not-note c =
    let a = c.args in
    let w = c.read_header in
    let l = looked a.file.now a.at a.end a.parent a.count a.marks.now _ _ c.row-row.result w.result c.requires.0 c.requires.1 w.ensures.is c.in_ok-header.was c.in_ok-header.ensures.within c.row-row.ensures in
    let n = c.note in
    let held : may_hold_in a.parent c.row-row.result ≡ true = sym c.may_hold.ensures ∙ c.if-not-may_hold.false in
    let q = look_twice _ _ _ _ _ _ l c.if-row-eq0.false held n.new.marks (sym n.ensures.is ∙ c.if-not-note.true) in
    record { is = q.is; marks = q.marks; six = six_still _ _ _ _ _ n.ensures.marks l.six; within = tt }

pub look_listed-requires : goal.look_listed-requires
look_listed-requires c =
    let a = c.args in
    let w = c.read_header in
    let l = looked a.file.now a.at a.end a.parent a.count a.marks.now _ _ c.row-row.result w.result c.requires.0 c.requires.1 w.ensures.is c.in_ok-header.was c.in_ok-header.ensures.within c.row-row.ensures in
    (l.within.0, omega (arith, l.stays, l.within.1), c.requires.1.word, known _ _ _ _ _ _ l c.if-row-eq0.false, l.row_is)

pub returns-in_err-header : goal.returns-in_err-header
returns-in_err-header c =
    let a = c.args in
    let w = c.read_header in
    let l = look-fault a.file.now a.at a.end a.parent a.count a.marks.now c.requires.0 c.requires.1.ends w.result w.ensures.is c.in_err-header.was in
    let q = err_from_is_err_and c.from_residual.result c.from_residual.ensures.1 in
    rw (q.1, q.2) record { is = l.is; marks = l.marks; six = c.requires.1.six; within = tt }

pub returns : goal.returns
returns c =
    let a = c.args in
    let w = c.read_header in
    let l = looked a.file.now a.at a.end a.parent a.count a.marks.now _ _ c.row-row.result w.result c.requires.0 c.requires.1 w.ensures.is c.in_ok-header.was c.in_ok-header.ensures.within c.row-row.ensures in
    let n = c.note in
    let f = c.if-not-note.false in
    let held : may_hold_in a.parent c.row-row.result ≡ true = sym c.may_hold.ensures ∙ c.if-not-may_hold.false in
    let named : n.new.marks ≡ noted (slot_of c.in_ok-header.header.id) a.at a.marks.now =
    n.ensures.marks ∙ ap (λ (b : Bool). cond b (noted (slot_in c.row-row.result) a.at a.marks.now) a.marks.now) f ∙ ap (λ (r : ℕ). noted (slot_in r) a.at a.marks.now) c.row-row.ensures in
    let q = look-opened _ _ _ _ _ _ l c.if-row-eq0.false held n.new.marks (sym n.ensures.is ∙ f) named (get_or a.marks.now 5 0) refl c.look_listed.result c.look_listed.ensures.is in
    record { is = q.is; marks = q.marks; six = six_still _ _ _ _ _ n.ensures.marks l.six; within = within_more a.at c.in_ok-header.header.stop a.end l.within.1 c.look_listed.result c.look_listed.ensures.within }
