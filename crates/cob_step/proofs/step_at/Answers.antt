-- The chunk at an offset, after count - 1 chunks.
use mathlib.Core.List.{[]}
use mathlib.Core.Path.{sym, ap, subst, ◌∙◌}
use native.Mathlib.Omega.{arith}
use Rattle.std.proofs.lemmas.Result.{err_from_is_err_and}
use Rattle.cob_chunk.proofs.Fields.{identifier_in, parent_in}
use Rattle.cob_rules.specs.Kinds.{is_end, listed}
use Rattle.cob_seen.specs.Tree.{Represents}
use Rattle.cob_step.proofs.Faults.{overruns, unowned, stated}
use Rattle.cob_step.proofs.Stepped.{body_refused, body-good, owner_is, goes}
use Rattle.cob_step.proofs.step_at.Goals as goal

pub returns-then-not-is_within : goal.returns-then-not-is_within
returns-then-not-is_within c = let x = c.args in
    record { told = λ seen n h. overruns seen x.file.now x.at (sym c.is_within.ensures ∙ c.if-not-is_within.true) }

pub kind_at-k-requires : goal.kind_at-k-requires
kind_at-k-requires c = let x = c.args in (stated [] x.file.now x.at (sym c.is_within.ensures ∙ c.if-not-is_within.false)).header

pub body_at-requires : goal.body_at-requires
body_at-requires c = let x = c.args in stated [] x.file.now x.at (sym c.is_within.ensures ∙ c.if-not-is_within.false)

pub returns-in_err-end : goal.returns-in_err-end
returns-in_err-end c = let x = c.args in
    let w = sym c.is_within.ensures ∙ c.if-not-is_within.false in
    let e = ap is_end (sym c.kind_at-k.ensures) ∙ sym c.is_end.ensures ∙ c.if-is_end.true in
    let p = err_from_is_err_and c.from_residual.result c.from_residual.ensures.1 in
    rw (p.1, p.2) record { told = λ seen n h. body_refused x.file.now x.at seen w (rw e) c.body_at.ensures c.in_err-end.was }

pub returns-then-is_end : goal.returns-then-is_end
returns-then-is_end c = let x = c.args in
    let w = sym c.is_within.ensures ∙ c.if-not-is_within.false in
    let e = ap is_end (sym c.kind_at-k.ensures) ∙ sym c.is_end.ensures ∙ c.if-is_end.true in
    record {
      told = λ seen n h.
          let g = body-good x.file.now x.at seen w (rw e) c.body_at.ensures c.in_ok-end.was in
          (g.0, e, g.1, subst (Represents x.ids.now x.links.now) (sym n) c.requires.1.tree, h);
    }

pub long_at-id-requires : goal.long_at-id-requires
long_at-id-requires c = let x = c.args in omega (arith, (stated [] x.file.now x.at (sym c.is_within.ensures ∙ c.if-not-is_within.false)).header)

pub long_at-parent-requires : goal.long_at-parent-requires
long_at-parent-requires c =
    let x = c.args in
    omega (arith, (stated [] x.file.now x.at (sym c.is_within.ensures ∙ c.if-not-is_within.false)).header)

pub returns-then-not-admit : goal.returns-then-not-admit
returns-then-not-admit c =
    let x = c.args in
    let w = sym c.is_within.ensures ∙ c.if-not-is_within.false in
    let e = ap is_end (sym c.kind_at-k.ensures) ∙ sym c.is_end.ensures ∙ c.if-is_end.false in
    let i = identifier_in x.file.now x.at ∙ sym c.long_at-id.ensures.is in
    let p = parent_in x.file.now x.at ∙ sym c.long_at-parent.ensures.is in
    record {
      told = λ seen n h.
          let o = owner_is x.file.now x.at i p c.admit.ensures seen n h ∙ c.if-not-admit.true in
          unowned seen x.file.now x.at w (rw (e, o));
    }

pub body_at-requires-2 : goal.body_at-requires-2
body_at-requires-2 c =
    let x = c.args in
    stated [] x.file.now x.at (sym c.is_within.ensures ∙ c.if-not-is_within.false)

pub returns-in_err-next : goal.returns-in_err-next
returns-in_err-next c =
    let x = c.args in
    let w = sym c.is_within.ensures ∙ c.if-not-is_within.false in
    let e = ap is_end (sym c.kind_at-k.ensures) ∙ sym c.is_end.ensures ∙ c.if-is_end.false in
    let i = identifier_in x.file.now x.at ∙ sym c.long_at-id.ensures.is in
    let p = parent_in x.file.now x.at ∙ sym c.long_at-parent.ensures.is in
    let q = err_from_is_err_and c.from_residual-in_err-next.result c.from_residual-in_err-next.ensures.1 in
    rw (q.1, q.2) record {
      told = λ seen n h.
          let o = owner_is x.file.now x.at i p c.admit.ensures seen n h ∙ c.if-not-admit.false in
          body_refused x.file.now x.at seen w (rw (e, o)) c.body_at-2.ensures c.in_err-next.was;
    }

pub returns-then-is_listed : goal.returns-then-is_listed
returns-then-is_listed c =
    let x = c.args in
    let k = sym c.kind_at-k.ensures in
    let w = sym c.is_within.ensures ∙ c.if-not-is_within.false in
    let e = ap is_end k ∙ sym c.is_end.ensures ∙ c.if-is_end.false in
    let i = identifier_in x.file.now x.at ∙ sym c.long_at-id.ensures.is in
    let p = parent_in x.file.now x.at ∙ sym c.long_at-parent.ensures.is in
    let l = ap listed k ∙ sym c.is_listed.ensures ∙ c.if-is_listed.true in
    record { told = λ seen n h. goes x.file.now x.at i p c.admit.ensures seen n h w e c.if-not-admit.false c.requires.1.node c.body_at-2.ensures c.in_ok-next.was l }

pub returns-else-is_listed : goal.returns-else-is_listed
returns-else-is_listed c =
    let x = c.args in
    let k = sym c.kind_at-k.ensures in
    let w = sym c.is_within.ensures ∙ c.if-not-is_within.false in
    let e = ap is_end k ∙ sym c.is_end.ensures ∙ c.if-is_end.false in
    let i = identifier_in x.file.now x.at ∙ sym c.long_at-id.ensures.is in
    let p = parent_in x.file.now x.at ∙ sym c.long_at-parent.ensures.is in
    let l = ap listed k ∙ sym c.is_listed.ensures ∙ c.if-is_listed.false in
    record { told = λ seen n h. goes x.file.now x.at i p c.admit.ensures seen n h w e c.if-not-admit.false c.requires.1.node c.body_at-2.ensures c.in_ok-next.was l }
