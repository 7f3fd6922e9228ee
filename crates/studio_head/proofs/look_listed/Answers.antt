-- What own data is judged to be, and whether children follow.
use mathlib.Core.Path.{sym, ap, ◌∙◌, subst}
use native.Mathlib.Omega.{arith}
use Prim.Native.Nat.{◌+◌}
use lib.Seq.{slice}
use Rattle.studio_rules.specs.Walk.{Step}
use Rattle.studio_row.specs.Packed.{plus_in}
use Rattle.studio_row.proofs.Facts.{plus-is}
use Rattle.studio_own_data.specs.Judges.{Judges}
use Rattle.studio_head.specs.declared.Head.{Head}
use Rattle.studio_head.specs.Heads.{HeadIs}
use Rattle.studio_head.proofs.Opens.{opened-fault, judged-ends, opened_enters, head_enter, head_leaf}
use Rattle.std.proofs.lemmas.Result.{err_from_is_err_and}
use Rattle.studio_head.proofs.look_listed.Goals as goal
use Rattle.std.specs.Prelude.{Ok}

pub overflow_add-from-2 : goal.overflow_add-from-2
overflow_add-from-2 c =
    let x = c in
    let f = judged-ends x.args.file.now x.args.at x.args.id x.args.stop x.args.count x.requires.0 x.requires.1 x.requires.2 _ x.requires.3 c.judge.ensures c.in_ok-size.size c.in_ok-size.was in
    omega arith

pub bound_inside-requires : goal.bound_inside-requires
bound_inside-requires c =
    let x = c in
    let f = judged-ends x.args.file.now x.args.at x.args.id x.args.stop x.args.count x.requires.0 x.requires.1 x.requires.2 _ x.requires.3 c.judge.ensures c.in_ok-size.size c.in_ok-size.was in
    omega arith

pub returns-in_err-size : goal.returns-in_err-size
returns-in_err-size c =
    let x = c in
    let b = slice (x.args.at + 6) x.args.stop x.args.file.now in
    let q = err_from_is_err_and c.from_residual.result c.from_residual.ensures.1 in
    rw (q.1, q.2)
    record {
      is = λ p seen rest u h o. opened-fault p seen x.args.at x.args.id b rest _ (subst (Judges p x.args.at x.args.id b) c.in_err-size.was (c.judge.ensures p u h));
      within = tt;
    }

pub returns-then-may_have_children : goal.returns-then-may_have_children
returns-then-may_have_children c =
    let x = c in
    let f = judged-ends x.args.file.now x.args.at x.args.id x.args.stop x.args.count x.requires.0 x.requires.1 x.requires.2 _ x.requires.3 c.judge.ensures c.in_ok-size.size c.in_ok-size.was in
    let pl = sym (plus-is x.args.id x.requires.3) ∙ ap plus_in (sym x.requires.4) ∙ sym c.may_have_children.ensures ∙ c.if-may_have_children.true in record {
      is = λ p seen rest u h o. subst (λ (y : Step). HeadIs p seen x.args.at y (Ok (Head.Enter x.args.id x.args.row c.bound_inside.result (x.args.at + 6 + c.in_ok-size.size) x.args.stop)))
          (sym (opened_enters p seen x.args.at x.args.id (slice (x.args.at + 6) x.args.stop x.args.file.now) rest c.in_ok-size.size
          (subst (Judges p x.args.at x.args.id (slice (x.args.at + 6) x.args.stop x.args.file.now)) c.in_ok-size.was (c.judge.ensures p u h))))
          (head_enter p seen x.args.file.now x.args.at x.args.stop c.in_ok-size.size x.args.id x.args.row rest x.requires.0 x.requires.1 f pl x.requires.4 c.bound_inside.result (c.bound_inside.ensures p seen o));
      within = (omega arith, omega arith, omega arith);
    }

pub returns-else-may_have_children : goal.returns-else-may_have_children
returns-else-may_have_children c =
    let x = c in
    let f = judged-ends x.args.file.now x.args.at x.args.id x.args.stop x.args.count x.requires.0 x.requires.1 x.requires.2 _ x.requires.3 c.judge.ensures c.in_ok-size.size c.in_ok-size.was in
    let pl = sym (plus-is x.args.id x.requires.3) ∙ ap plus_in (sym x.requires.4) ∙ sym c.may_have_children.ensures ∙ c.if-may_have_children.false in record {
      is = λ p seen rest u h o. subst (λ (y : Step). HeadIs p seen x.args.at y (Ok (Head.Leaf x.args.stop)))
          (sym (opened_enters p seen x.args.at x.args.id (slice (x.args.at + 6) x.args.stop x.args.file.now) rest c.in_ok-size.size
          (subst (Judges p x.args.at x.args.id (slice (x.args.at + 6) x.args.stop x.args.file.now)) c.in_ok-size.was (c.judge.ensures p u h))))
          (head_leaf p seen x.args.file.now x.args.at x.args.stop c.in_ok-size.size x.args.id x.args.row rest x.requires.0 x.requires.1 f pl);
      within = (omega arith, omega arith);
    }
