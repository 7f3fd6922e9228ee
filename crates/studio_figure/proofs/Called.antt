-- The call by what was judged.
use Rattle.shared_words.specs.declared.Refusal.{Refusal}
use Rattle.std.specs.Prelude.{Result}
use mathlib.Core.Path.{◌≡◌, ap}
use Prim.Native.Nat.{ℕ}
use mathlib.Core.List.{List}
use lib.ListN.{length}
use Rattle.studio_rules.specs.Layout.{figure, bytes}
use Rattle.studio_write.specs.Write.{writing}
use Rattle.studio_figure_rules.specs.Built.{layout}
use Rattle.studio_figure_rules.specs.Described.{Flat, described, judged_flat, write_flat}

pub called : (r : Flat) (out : List ℕ) (w : Result ℕ Refusal) → judged_flat r (length out) ≡ w → write_flat r out ≡ writing (bytes (figure (layout (described r)))) out w
unfolding write_flat
called r out w e = ap (writing (bytes (figure (layout (described r)))) out) e
