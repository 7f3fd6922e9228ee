-- What is missing, then a mesh.
use mathlib.Core.Path.{sym, ◌∙◌}
use Prim.Native.Nat.{◌+◌}
use lib.ListN.{length}
use borrow.Author.Tests.{not-true, not-false}
use Rattle.studio_marks.specs.Marks.{mesh_broken}
use Rattle.studio_marks.proofs.Ends.{mesh-broken, end-missing, end-mesh, end_other}
use Rattle.studio_marks.proofs.at_end.Goals as goal

pub returns-then-is_missing : goal.returns-then-is_missing
returns-then-is_missing c = λ q t stop i rule k.
    let a = c.args in
    end-missing q a.at t (not-true _ (sym (c.is_missing.ensures q t a.file.now (a.at + (6 + length q.own)) stop i k) ∙ c.if-is_missing.true))

pub at_mesh_end-requires : goal.at_mesh_end-requires
at_mesh_end-requires c = (c.requires.0, c.requires.1 c.if-id-eq16640.true)

pub returns-then-id-eq16640 : goal.returns-then-id-eq16640
returns-then-id-eq16640 c = λ q t stop i rule k.
    let a = c.args in
    let from = a.at + (6 + length q.own) in
    let there = not-false _ (sym (c.is_missing.ensures q t a.file.now from stop i k) ∙ c.if-is_missing.false) in
    end-mesh q a.at t (mesh_broken a.file.now a.as_many a.marks.now) c.at_mesh_end.result there
    (mesh-broken q (i ∙ c.if-id-eq16640.true) t a.file.now from stop a.marks.now k a.as_many rule) c.at_mesh_end.ensures

pub returns : goal.returns
returns c = λ q t stop i rule k.
    let a = c.args in
    let there = not-false _ (sym (c.is_missing.ensures q t a.file.now (a.at + (6 + length q.own)) stop i k) ∙ c.if-is_missing.false) in
    end_other q a.at t there (λ e. c.if-id-eq16640.false (sym i ∙ e))
