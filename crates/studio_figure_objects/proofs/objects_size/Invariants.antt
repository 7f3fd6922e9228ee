-- `studio_figure_objects::objects_size` meets its contract: the size so far, with what is left, is all.
use mathlib.Core.Path.{◌≡◌}
use Rattle.studio_figure_rows.specs.Rows.{sum_to}
use Rattle.studio_figure_objects.specs.Sizes.{object_bytes}
use Rattle.studio_figure_objects.proofs.Sizes.{Sizing}
use Rattle.studio_figure_objects.proofs.objects_size.Given as goal

abbrev pub invariant-loop-i : goal.invariant-loop-i
invariant-loop-i l = (l.group ≡ sum_to 5 4 l.objects l.i) × Sizing (object_bytes l.objects l.groups) l.first l.n l.i l.size
