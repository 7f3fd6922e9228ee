-- The loop's invariant: the first i records of the list stand in the table, by what the list is known to have left.
use mathlib.Core.Path.{◌≡◌}
use Prim.Native.Nat.{◌≤◌}
use lib.ListN.{length, take}
use Rattle.shared_words.specs.Effects.{filled}
use Rattle.studio_list_table.specs.Listed.{in_table}
use Rattle.studio_list_table.proofs.Outcome.{Outcome}
use Rattle.studio_list_table.proofs.list_records.Given as goal

abbrev pub invariant-loop-i : goal.invariant-loop-i
invariant-loop-i l = record {
  fits : l.n ≤ length l.table;
  stands : (o : Outcome l.fn.row l.fn.table l.listed l.numbers (in_table l.file l.fn.row l.fn.table)) → l.table ≡ filled (take l.i o.records) l.fn.table;
}
