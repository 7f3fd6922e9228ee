-- What the functions of this crate say of records in a flat row. Nothing here is a meaning of its own: the list is that of
-- crate studio_rules.
use Rattle.studio_rules.specs.declared.Counts.{Counts}
use Rattle.shared_words.specs.declared.Refusal.{Refusal}
use Rattle.std.specs.Prelude.{ℕ, ◌+◌, ◌*◌, List, get_or, Result, Ok, Err}
use Rattle.studio_rules.specs.declared.Record.{Record}
use Rattle.studio_rules.specs.Gives.{record_numbers}

-- record number k of a flat row
abbrev pub record_no : List ℕ → ℕ → Record
record_no row k = record {
  identifier = get_or row (record_numbers * k) 0;
  offset = get_or row (record_numbers * k + 1) 0;
  len = get_or row (record_numbers * k + 2) 0;
  depth = get_or row (record_numbers * k + 3) 0;
  parent = get_or row (record_numbers * k + 4) 0;
  own = get_or row (record_numbers * k + 5) 0;
  next = get_or row (record_numbers * k + 6) 0;
}

-- how many records an answer says are in the row
abbrev pub taken : Result Counts Refusal → ℕ
taken (Ok counts) = counts.records
taken (Err r) = 0
