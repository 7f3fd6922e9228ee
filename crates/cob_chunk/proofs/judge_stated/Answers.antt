-- A body of a stated size.
use mathlib.Core.Path.{sym}
use Rattle.cob_chunk.proofs.Judged.{stated-other}
use Rattle.cob_chunk.proofs.judge_stated.Goals as goal

pub returns-then-ne : goal.returns-then-ne
returns-then-ne c = stated-other c.args.k c.args.body.now c.body_end.result c.body_end.ensures (sym c.if-ne.ensures)
