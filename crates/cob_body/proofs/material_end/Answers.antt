-- `material_end` meets its contract.
use mathlib.Core.List.{[], ◌∷◌}
use Rattle.cob_rules.specs.Kinds.{plain, optional}
use Rattle.cob_body.proofs.Parts.{part-ends, part-not, last_part}
use Rattle.cob_body.proofs.material_end.Goals as goal

pub returns-in_err-environment : goal.returns-in_err-environment
returns-in_err-environment c =
    rw c.from_residual.ensures (part-not (plain 37) (optional 0x65 0 ∷ optional 0x74 16 ∷ optional 0x62 20 ∷ []) c.in_err-environment.ensures)

pub returns-in_err-texture : goal.returns-in_err-texture
returns-in_err-texture c = rw c.from_residual-in_err-texture.ensures
    (part-ends (plain 37) (optional 0x65 0 ∷ optional 0x74 16 ∷ optional 0x62 20 ∷ []) c.in_ok-environment.ensures
    (part-not (optional 0x65 0) (optional 0x74 16 ∷ optional 0x62 20 ∷ []) c.in_err-texture.ensures))

pub returns-in_err-bump : goal.returns-in_err-bump
returns-in_err-bump c = rw c.from_residual-in_err-bump.ensures
    (part-ends (plain 37) (optional 0x65 0 ∷ optional 0x74 16 ∷ optional 0x62 20 ∷ []) c.in_ok-environment.ensures
    (part-ends (optional 0x65 0) (optional 0x74 16 ∷ optional 0x62 20 ∷ []) c.in_ok-texture.ensures
    (part-not (optional 0x74 16) (optional 0x62 20 ∷ []) c.in_err-bump.ensures)))

pub returns : goal.returns
returns c =
    part-ends (plain 37) (optional 0x65 0 ∷ optional 0x74 16 ∷ optional 0x62 20 ∷ []) c.in_ok-environment.ensures
    (part-ends (optional 0x65 0) (optional 0x74 16 ∷ optional 0x62 20 ∷ []) c.in_ok-texture.ensures
    (part-ends (optional 0x74 16) (optional 0x62 20 ∷ []) c.in_ok-bump.ensures (last_part (optional 0x62 20) _ c.map_end-3.ensures)))
