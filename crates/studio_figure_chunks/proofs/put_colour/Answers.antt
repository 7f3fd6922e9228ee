-- `studio_figure_chunks::put_colour` meets its contract.
use native.Mathlib.Omega.{arith}
use Rattle.shared_numbers.proofs.Put.{put_then}
use Rattle.studio_figure_chunks.proofs.put_colour.Goals as goal

pub returns : goal.returns
returns c = put_then (omega arith) c.put_header-inside.ensures (put_then (omega arith) c.put_header-own.ensures c.put_three.ensures)
