-- The tests are the conditions, one after another; the flag is that of the target.
use native.Mathlib.Omega.{arith}
use Rattle.stick_judge.proofs.Marking.{Leading, length_expected, leads_nowhere, leads_again, leads_unlisted, leads_good}
use Rattle.stick_judge.proofs.Manifest.judge_leading.Goals as goal

pub returns-in_default : goal.returns-in_default
returns-in_default c =
    let a = c.args in
    let p = c.requires in
    let g : Leading a.self.now.slip.now a.names.now a.self.now.entries a.it a.i a.matched.now =
    record { is-folder = p.0; within = p.1; below = p.2; short = p.3; no-entry = p.4; room = p.5 } in
    leads_nowhere a.self.now.slip.now a.names.now a.self.now.entries a.it a.i a.matched.now g (rw c.path_of.ensures at c.in_default.ensures)

pub overflow_mul-flag : goal.overflow_mul-flag
overflow_mul-flag c = omega (arith, c.in-Some.ensures.within, length_expected c.args.self.now.slip.now c.args.self.now.entries, c.args.self.now.indexed.few)

pub overflow_add-flag : goal.overflow_add-flag
overflow_add-flag c = omega (arith, c.in-Some.ensures.within, length_expected c.args.self.now.slip.now c.args.self.now.entries, c.args.self.now.indexed.few, c.requires.3)

pub bounds-matched-flag : goal.bounds-matched-flag
bounds-matched-flag c = omega (arith, c.in-Some.ensures.within, length_expected c.args.self.now.slip.now c.args.self.now.entries, c.requires.3, c.requires.5)

pub returns-then-matched-flag-ne0 : goal.returns-then-matched-flag-ne0
returns-then-matched-flag-ne0 c =
    let a = c.args in
    let p = c.requires in
    let g : Leading a.self.now.slip.now a.names.now a.self.now.entries a.it a.i a.matched.now =
    record { is-folder = p.0; within = p.1; below = p.2; short = p.3; no-entry = p.4; room = p.5 } in
    leads_again a.self.now.slip.now a.names.now a.self.now.entries a.it a.i a.matched.now g c.in-Some.sought (rw c.path_of.ensures at c.in-Some.ensures) c.if-matched-flag-ne0.true

pub bounds-matched-flag-2 : goal.bounds-matched-flag-2
bounds-matched-flag-2 c = omega (arith, c.in-Some.ensures.within, length_expected c.args.self.now.slip.now c.args.self.now.entries, c.requires.3, c.requires.5)

pub returns-then-it-eq0 : goal.returns-then-it-eq0
returns-then-it-eq0 c =
    let a = c.args in
    let p = c.requires in
    let g : Leading a.self.now.slip.now a.names.now a.self.now.entries a.it a.i a.matched.now =
    record { is-folder = p.0; within = p.1; below = p.2; short = p.3; no-entry = p.4; room = p.5 } in
    leads_unlisted a.self.now.slip.now a.names.now a.self.now.entries a.it a.i a.matched.now g c.in-Some.sought (rw c.path_of.ensures at c.in-Some.ensures) c.if-matched-flag-ne0.false c.if-it-eq0.true

pub returns : goal.returns
returns c =
    let a = c.args in
    let p = c.requires in
    let g : Leading a.self.now.slip.now a.names.now a.self.now.entries a.it a.i a.matched.now =
    record { is-folder = p.0; within = p.1; below = p.2; short = p.3; no-entry = p.4; room = p.5 } in
    leads_good a.self.now.slip.now a.names.now a.self.now.entries a.it a.i a.matched.now g c.in-Some.sought (rw c.path_of.ensures at c.in-Some.ensures) c.if-matched-flag-ne0.false c.if-it-eq0.false
