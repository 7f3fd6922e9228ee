-- The last four bytes, against one ending after another.
use mathlib.Core.Path.{refl, sym, ◌∙◌}
use native.Mathlib.Omega.{arith}
use Rattle.stick_names.proofs.Alike.{no-ending, format_is}
use Rattle.stick_names.proofs.format_of.Goals as goal

pub returns-then-path-lt4 : goal.returns-then-path-lt4
returns-then-path-lt4 c = sym (no-ending c.args.path.now (omega arith))

pub returns-then-equal_names : goal.returns-then-equal_names
returns-then-equal_names c =
    let studio = sym c.equal_names.ensures ∙ c.if-equal_names.true in
    sym (format_is c.args.path.now (omega arith) _ refl ∙ rw studio)

pub returns-then-equal_names-2 : goal.returns-then-equal_names-2
returns-then-equal_names-2 c =
    let studio = sym c.equal_names.ensures ∙ c.if-equal_names.false in
    let cob = sym c.equal_names-2.ensures ∙ c.if-equal_names-2.true in
    sym (format_is c.args.path.now (omega arith) _ refl ∙ rw (studio, cob))

pub returns-then-equal_names-3 : goal.returns-then-equal_names-3
returns-then-equal_names-3 c =
    let studio = sym c.equal_names.ensures ∙ c.if-equal_names.false in
    let cob = sym c.equal_names-2.ensures ∙ c.if-equal_names-2.false in
    let c4d = sym c.equal_names-3.ensures ∙ c.if-equal_names-3.true in
    sym (format_is c.args.path.now (omega arith) _ refl ∙ rw (studio, cob, c4d))

pub returns : goal.returns
returns c =
    let studio = sym c.equal_names.ensures ∙ c.if-equal_names.false in
    let cob = sym c.equal_names-2.ensures ∙ c.if-equal_names-2.false in
    let c4d = sym c.equal_names-3.ensures ∙ c.if-equal_names-3.false in
    sym (format_is c.args.path.now (omega arith) _ refl ∙ rw (studio, cob, c4d))
