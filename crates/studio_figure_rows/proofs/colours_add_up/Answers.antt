-- `studio_figure_rows::colours_add_up` meets its contract.
use mathlib.Core.Path.{◌≡◌, sym, ◌∙◌}
use Prim.Native.Nat.{◌*◌, ◌/◌}
use native.Mathlib.Omega.{arith}
use borrow.Author.Tests.{ne_eqb}
use Rattle.studio_figure_rows.proofs.Runs.{shift_eqb}
use Rattle.studio_figure_rows.proofs.colours_add_up.Goals as goal

pub returns-else-colours-eq0 : goal.returns-else-colours-eq0
returns-else-colours-eq0 c =
    let a = c.args in
    ne_eqb _ _ c.if-colours-eq0.false ∙ sym (ne_eqb _ _ (λ (p : a.colours ≡ 9 * a.n). c.if-colours-eq0.false (omega arith)))

pub returns-then-colours-eq0 : goal.returns-then-colours-eq0
returns-then-colours-eq0 c =
    let a = c.args in
    shift_eqb (a.colours / 9) a.n a.colours (9 * a.n) (λ p. omega arith) (λ p. omega arith)
