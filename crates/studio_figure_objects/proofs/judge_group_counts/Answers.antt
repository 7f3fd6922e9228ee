use Rattle.std.specs.Prelude.{Err}
use mathlib.Core.Path.{ap, ◌∙◌}
use Prim.Native.Nat.{ℕ, ◌+◌}
use native.Mathlib.Omega.{arith}
use mathlib.Core.List.{[]}
use lib.Dec.{leb}
use borrow.Author.Tests.{le-leb, lt-leb}
use Rattle.shared_words.specs.declared.Refusal.TheVariants.{Count}
use Rattle.studio_figure_rows.specs.Rows.{entry}
use Rattle.studio_figure_rows.proofs.Answers.{left-all, none-broken, here, later, left-on, left_out, left-none}
use Rattle.studio_figure_objects.specs.Asked.{from, group_count}
use Rattle.studio_figure_objects.proofs.judge_group_counts.Goals as goal

pub loop-i-init : goal.loop-i-init
loop-i-init c =
    let a = c.args in
    (left-all (group_count a.groups.now) (from a.first) a.n)

pub number-faces-requires : goal.number-faces-requires
number-faces-requires c = (omega arith, omega arith)

pub returns-then-faces-gt65535 : goal.returns-then-faces-gt65535
returns-then-faces-gt65535 c =
    let l = c.loop-i in
    let a = c.args in
    let k = entry 2 1 a.groups.now (a.first + l.i) in
    ap (λ (x : ℕ). Err (Count x)) c.number-faces.ensures.0 ∙
    left_out (group_count a.groups.now) (from a.first) a.n l.i (omega arith) l.invariant (Count k)
    (here (leb k 65535) (Count k) [] (lt-leb k 65535 (omega (arith, c.number-faces.ensures.0))))

pub loop-i-preserved : goal.loop-i-preserved
loop-i-preserved c =
    let l = c.loop-i in
    let a = c.args in
    let k = entry 2 1 a.groups.now (a.first + l.i) in
    (left-on (group_count a.groups.now) (from a.first) a.n l.i (omega arith) l.invariant (none-broken ∙ later (leb k 65535) (Count k) [] (le-leb k 65535 (omega (arith, c.number-faces.ensures.0)))))

pub returns : goal.returns
returns c =
    let l = c.loop-i in
    let a = c.args in
    left-none (group_count a.groups.now) (from a.first) a.n l.i (omega arith) l.invariant
