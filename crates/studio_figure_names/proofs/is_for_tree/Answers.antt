-- `studio_figure_names::is_for_tree` meets its contract: where it answers true, both are small enough.
use mathlib.Core.Path.{sym, ◌∙◌}
use mathlib.Core.Bool.{false≢true}
use borrow.Author.Tests.{lt-leb}
use Rattle.studio_figure_names.proofs.is_for_tree.Goals as goal

pub returns-else-count-le36864 : goal.returns-else-count-le36864
returns-else-count-le36864 c = λ e. absurd (false≢true (sym (lt-leb _ _ c.if-count-le36864.false) ∙ e))
