-- Nothing that was given is lost: two figures that are written as the same bytes are the same figure.
use Rattle.std.specs.Prelude.{◌≡◌, ℕ, ◌^◌, true, Ok}
use Rattle.shared_words.specs.Lists.{every}
use Rattle.studio_rules.specs.Layout.{figure, bytes}
use Rattle.studio_rules.specs.Rules.{all_below}
use Rattle.studio_figure_rules.specs.Given.{Object, Figure, Bits32}
use Rattle.studio_figure_rules.specs.Built.{layout}
use Rattle.studio_figure_rules.specs.Judged.{judged_figure}

-- each smoothing word has 32 bits, as the elements of a lent row have
abbrev pub Words32 : Figure → Type 0
Words32 f = every (λ (o : Object). all_below (256 ^ 4) o.smoothing) f.objects ≡ true

abbrev pub NothingLost : Type 0
NothingLost = (f g : Figure) (room size : ℕ) → Bits32 f → Words32 f → Bits32 g → Words32 g → judged_figure f room ≡ Ok size → judged_figure g room ≡ Ok size →
    bytes (figure (layout f)) ≡ bytes (figure (layout g)) → f ≡ g
