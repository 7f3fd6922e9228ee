-- A mesh as far as its list of texture vertices.
use mathlib.Core.List.{[], ◌∷◌}
use Rattle.cob_rules.specs.Kinds.{group, vertices}
use Rattle.cob_body.proofs.Parts.{last_part, parts-ends, parts-not}
use Rattle.cob_body.proofs.vertices_end.Goals as goal

pub returns-in_err-at : goal.returns-in_err-at
returns-in_err-at c = rw c.from_residual.ensures (parts-not group (vertices ∷ []) c.in_err-at.ensures)

pub returns : goal.returns
returns c = parts-ends group (vertices ∷ []) c.in_ok-at.ensures (last_part vertices _ c.list_end.ensures)
