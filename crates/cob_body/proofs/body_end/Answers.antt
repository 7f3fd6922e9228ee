-- The position behind the parts of a kind.
use native.Mathlib.Omega.{arith}
use Rattle.cob_rules.specs.declared.Kind.{Kind}
use Rattle.cob_body.proofs.Parts.{no-parts, of-kind, any-ends}
use Rattle.cob_body.proofs.body_end.Goals as goal

pub returns-in-End : goal.returns-in-End
returns-in-End c = of-kind _ Kind.End c.in-End.is (no-parts (omega arith))

pub returns-in-Grou : goal.returns-in-Grou
returns-in-Grou c = of-kind _ Kind.Grou c.in-Grou.is c.group_end.ensures

pub returns-in-PolH : goal.returns-in-PolH
returns-in-PolH c = of-kind _ Kind.PolH c.in-PolH.is c.mesh_end.ensures

pub returns-in-Mat1 : goal.returns-in-Mat1
returns-in-Mat1 c = of-kind _ Kind.Mat1 c.in-Mat1.is c.material_end.ensures

pub returns-in-Other : goal.returns-in-Other
returns-in-Other c = of-kind _ Kind.Other c.in-Other.is (any-ends _)
