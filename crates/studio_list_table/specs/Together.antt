-- The table and the row beside it are filled together or not at all.
use Rattle.std.specs.Prelude.{◌≡◌, List, ℕ, Err}
use Rattle.shared_words.specs.declared.Refusal.{Refusal}
use Rattle.studio_rules.specs.declared.Record.{Record}
use Rattle.studio_list_table.specs.Listed.{in_table, in_row}

pub record Together (file row : List ℕ) (table : List Record) : Type 0 where
  -- both answer the same
  pub same_answer : (in_row file row table).answer ≡ (in_table file row table).answer
  -- a refusal leaves both as they were
  pub table-untouched : (r : Refusal) → (in_table file row table).answer ≡ Err r → (in_table file row table).rows ≡ table
  pub row-untouched : (r : Refusal) → (in_table file row table).answer ≡ Err r → (in_row file row table).rows ≡ row

abbrev pub TableAndRow : Type 0
TableAndRow = (file row : List ℕ) (table : List Record) → Together file row table
