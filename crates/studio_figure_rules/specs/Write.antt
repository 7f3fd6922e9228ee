-- What the writer of figures answers and leaves in the lent buffer, for every figure and buffer.
use Rattle.shared_words.specs.declared.Refusal.{Refusal}
use Rattle.std.specs.Prelude.{ℕ, List, length, Result}
use Rattle.studio_rules.specs.Layout.{figure, bytes}
use Rattle.shared_words.specs.Effects.{Effect}
use Rattle.studio_write.specs.Write.{writing}
use Rattle.studio_figure_rules.specs.Given.{Figure}
use Rattle.studio_figure_rules.specs.Built.{layout}
use Rattle.studio_figure_rules.specs.Judged.{judged_figure}

-- THE CALL, of a figure as data: a refusal leaves the buffer untouched, and bytes after the size stay
unfoldable pub write_figure : Figure → List ℕ → Effect (Result ℕ Refusal) (List ℕ)
write_figure f out = writing (bytes (figure (layout f))) out (judged_figure f (length out))
