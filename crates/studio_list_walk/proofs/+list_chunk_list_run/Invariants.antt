-- The bytes left, twice, and one more for a run, fall at each call. A run goes on from chunk to chunk: what has been listed
-- of it.
use Prim.Native.Nat.{◌+◌, ◌-◌, ◌*◌, ◌≤◌}
use Rattle.studio_rules.specs.Layout.{Run}
use Rattle.studio_rules.specs.Parses.{Place}
use Rattle.studio_list_rows.specs.Lent.{lent}
use Rattle.studio_list_walk.specs.Laid.{Laid}
use Rattle.studio_list_walk.proofs.Loop.{Sofar}
use Rattle.studio_list_walk.proofs.+list_chunk_list_run.Given as goal

abbrev pub decreases-list_chunk : goal.decreases-list_chunk
decreases-list_chunk l = (l.stop - l.at) * 2

abbrev pub decreases-list_run : goal.decreases-list_run
decreases-list_run l = (l.end - l.at) * 2 + 1

abbrev pub invariant-list_run-loop-from : goal.invariant-list_run-loop-from
invariant-list_run-loop-from l = record {
  past : l.at ≤ l.from;
  within : l.from ≤ l.end;
  six : 6 * l.number ≤ l.from;
  sofar : (p : Place) (t : Run) → Laid l.file l.at l.end p t → Sofar l.file l.end l.depth l.parent p (lent l.initial.records l.initial.bytes) l.at l.next t (lent l.records l.bytes) l.from l.number;
}

abbrev pub decreases-list_run-loop-from : goal.decreases-list_run-loop-from
decreases-list_run-loop-from l = l.end - l.from
