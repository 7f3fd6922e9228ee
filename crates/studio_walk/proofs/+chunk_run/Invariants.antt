-- The bytes left, twice, and one more for a run, fall at each call. A run goes on from chunk to chunk.
use Prim.Native.Nat.{◌+◌, ◌-◌, ◌*◌}
use Rattle.studio_walk.proofs.Loop.{Sofar}
use Rattle.studio_walk.proofs.+chunk_run.Given as goal

abbrev pub decreases-chunk : goal.decreases-chunk
decreases-chunk l = (l.end - l.at) * 2

abbrev pub decreases-run : goal.decreases-run
decreases-run l = (l.end - l.at) * 2 + 1

abbrev pub invariant-run-loop-p : goal.invariant-run-loop-p
invariant-run-loop-p l = Sofar l.file l.parent l.count l.as_many l.at l.end l.initial.marks l.marks l.p l.records l.skipped

abbrev pub decreases-run-loop-p : goal.decreases-run-loop-p
decreases-run-loop-p l = l.end - l.p
