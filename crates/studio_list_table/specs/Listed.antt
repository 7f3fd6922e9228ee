-- What `list_records` leaves in the table and in the row beside it: each is the list, where both have room.
use Rattle.studio_rules.specs.declared.Counts.{Counts}
use Rattle.shared_words.specs.declared.Refusal.{Refusal}
use Rattle.std.specs.Prelude.{ℕ, ◌/◌, List, length, Result}
use Rattle.shared_words.specs.Effects.{Effect}
use Rattle.shared_words.specs.Encodings.{beside, plain_row}
use Rattle.studio_rules.specs.declared.Record.{Record}
use Rattle.studio_rules.specs.Gives.{record_numbers}
use Rattle.studio_rules.specs.Encodings.{flat_records}
use Rattle.studio_rules.specs.Calls.{list_call}

-- the file, the row and the table as they were
abbrev pub in_table : List ℕ → List ℕ → List Record → Effect (Result Counts Refusal) (List Record)
in_table file row table = list_call (beside (length row / record_numbers) plain_row) file table

abbrev pub in_row : List ℕ → List ℕ → List Record → Effect (Result Counts Refusal) (List ℕ)
in_row file row table = list_call (beside (length table) flat_records) file row
