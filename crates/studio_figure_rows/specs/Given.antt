-- The rows that code has, as the rules speak of them.
use Rattle.studio_figure_rules.specs.Described.{Flat}
use Rattle.studio_figure_rows.specs.Rows.{flat}
use Rattle.studio_figure_rows.specs.declared.FlatRows.{FlatRows}

abbrev pub given : FlatRows → Flat
given r = flat r.names.now r.objects.now r.vertices.now r.corners.now r.smoothing.now r.groups.now r.faces.now r.materials.now r.colours.now
