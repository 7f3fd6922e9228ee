-- Whether the first of so many faces is none: a hole before any face.
use native.Mathlib.Omega.{arith}
use Rattle.cob_mesh.proofs.Below.{hole-is}
use Rattle.cob_mesh.proofs.Faces.{first_fits}
use Rattle.cob_mesh.proofs.hole_first.Goals as goal

pub face_at-f-requires : goal.face_at-f-requires
face_at-f-requires c = first_fits c.requires (omega arith)

pub returns : goal.returns
returns c = hole-is c.args.count (omega arith) c.face_at-f.ensures
