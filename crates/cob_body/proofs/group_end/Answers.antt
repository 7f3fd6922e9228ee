-- The name, axes and position that a group and a mesh begin with.
use mathlib.Core.List.{[], ◌∷◌}
use Rattle.cob_rules.specs.Kinds.{plain, natural, string}
use Rattle.cob_body.proofs.Parts.{part-ends, part-not, last_part}
use Rattle.cob_body.proofs.group_end.Goals as goal

pub returns-in_err-name : goal.returns-in_err-name
returns-in_err-name c = rw c.from_residual.ensures (part-not (natural 2) (string ∷ plain 48 ∷ plain 48 ∷ []) c.in_err-name.ensures)

pub returns-in_err-axes : goal.returns-in_err-axes
returns-in_err-axes c = rw c.from_residual-in_err-axes.ensures (part-ends (natural 2) (string ∷ plain 48 ∷ plain 48 ∷ []) c.in_ok-name.ensures
    (part-not string (plain 48 ∷ plain 48 ∷ []) c.in_err-axes.ensures))

pub returns-in_err-position : goal.returns-in_err-position
returns-in_err-position c = rw c.from_residual-in_err-position.ensures (part-ends (natural 2) (string ∷ plain 48 ∷ plain 48 ∷ []) c.in_ok-name.ensures
    (part-ends string (plain 48 ∷ plain 48 ∷ []) c.in_ok-axes.ensures (part-not (plain 48) (plain 48 ∷ []) c.in_err-position.ensures)))

pub returns : goal.returns
returns c = part-ends (natural 2) (string ∷ plain 48 ∷ plain 48 ∷ []) c.in_ok-name.ensures
    (part-ends string (plain 48 ∷ plain 48 ∷ []) c.in_ok-axes.ensures
    (part-ends (plain 48) (plain 48 ∷ []) c.in_ok-position.ensures (last_part (plain 48) _ c.skip_bytes-2.ensures)))
