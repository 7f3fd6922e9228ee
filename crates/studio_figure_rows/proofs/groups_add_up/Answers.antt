-- `studio_figure_rows::groups_add_up` meets its contract.
use mathlib.Core.Path.{◌≡◌, sym, ◌∙◌}
use Prim.Native.Nat.{ℕ, ◌*◌, ◌/◌}
use native.Mathlib.Omega.{arith}
use lib.ListN.{length}
use borrow.Author.Tests.{ne_eqb}
use Rattle.studio_figure_rows.specs.Rows.{sum_to}
use Rattle.studio_figure_rows.proofs.Runs.{shift_eqb}
use Rattle.studio_figure_rows.proofs.groups_add_up.Goals as goal

pub returns-else-groups-eq0 : goal.returns-else-groups-eq0
returns-else-groups-eq0 c =
    let a = c.args in
    let n = sum_to 5 4 a.objects.now (length a.objects.now / 5) in
    ne_eqb _ _ c.if-groups-eq0.false ∙ sym (ne_eqb _ _ (λ (p : length a.groups.now ≡ 2 * n). c.if-groups-eq0.false (omega arith)))

pub returns-then-groups-eq0 : goal.returns-then-groups-eq0
returns-then-groups-eq0 c =
    let a = c.args in
    let n : ℕ = sum_to 5 4 a.objects.now (length a.objects.now / 5) in
    let g : ℕ = length a.groups.now in
    c.adds_up.ensures ∙ shift_eqb (g / 2) n g (2 * n) (λ p. omega arith) (λ p. omega arith)
