-- `studio_figure_rows::names_add_up` meets its contract: three sums, each held to what the last one left.
use mathlib.Core.Path.{◌≡◌, sym, ◌∙◌}
use Prim.Native.Nat.{ℕ, ◌-◌, ◌/◌}
use native.Mathlib.Omega.{arith}
use lib.ListN.{length}
use borrow.Author.Tests.{ne_eqb}
use Rattle.studio_figure_rows.specs.Rows.{sum_to, names_length}
use Rattle.studio_figure_rows.proofs.Runs.{shift_eqb}
use Rattle.studio_figure_rows.proofs.names_add_up.Goals as goal

pub returns-then-len-first : goal.returns-then-len-first
returns-then-len-first c =
    let a = c.args in
    let p = c.sum-first.ensures.past c.if-len-first.true in
    sym (ne_eqb _ _ (λ (q : a.len ≡ names_length a.objects.now a.materials.now a.groups.now). omega arith))

pub returns-then-rest-second : goal.returns-then-rest-second
returns-then-rest-second c =
    let a = c.args in
    let e = c.sum-first.ensures.exact c.if-len-first.false in
    let p = c.sum-second.ensures.past c.if-rest-second.true in
    sym (ne_eqb _ _ (λ (q : a.len ≡ names_length a.objects.now a.materials.now a.groups.now). omega arith))

pub returns : goal.returns
returns c =
    let a = c.args in
    let e = c.sum-first.ensures.exact c.if-len-first.false in
    let f = c.sum-second.ensures.exact c.if-rest-second.false in
    let n : ℕ = sum_to 2 0 a.groups.now (length a.groups.now / 2) in
    let left : ℕ = a.len - c.sum-first.result - c.sum-second.result in
    c.adds_up.ensures ∙ shift_eqb left n a.len (names_length a.objects.now a.materials.now a.groups.now) (λ p. omega arith) (λ p. omega arith)
