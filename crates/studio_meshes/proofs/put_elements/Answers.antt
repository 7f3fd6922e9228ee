-- Two numbers of four bytes.
use native.Mathlib.Omega.{arith}
use Rattle.shared_numbers.proofs.Put.{put_then}
use Rattle.studio_meshes.proofs.put_elements.Goals as goal

pub returns : goal.returns
returns c = put_then (omega (arith, c.requires.2)) c.put_long-behind.ensures c.put_long.ensures
