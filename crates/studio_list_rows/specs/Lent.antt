-- The rows that are lent for a list, and records in them, in the encodings of crate studio_rules.
use Rattle.std.specs.Prelude.{List, ℕ, ◌*◌, ◌≤◌, ◌<◌, length}
use Rattle.std.proofs.lemmas.List.Edits.{sets}
use Rattle.studio_rules.specs.declared.Record.{Record}
use Rattle.shared_words.specs.Bytes.{packed}
use Rattle.studio_rules.specs.Gives.{record_numbers, flat}

-- the two rows that are lent, one of numbers and one of bytes; a row that is not in use is empty
pub record Lent : Type 0 where
  pub numbers : List ℕ
  pub bytes : List ℕ

abbrev pub lent : List ℕ → List ℕ → Lent
lent numbers bytes = record { numbers = numbers; bytes = bytes }

-- each row that is in use takes n records
pub record Room (l : Lent) (n : ℕ) : Type 0 where
  pub numbers : 0 < length l.numbers → record_numbers * n ≤ length l.numbers
  pub bytes : 0 < length l.bytes → 4 * record_numbers * n ≤ length l.bytes

-- records in the rows, the first of number `next`; an empty row stays empty
abbrev pub written : Lent → ℕ → List Record → Lent
written l next rs = lent (sets l.numbers (record_numbers * next) (flat rs)) (sets l.bytes (4 * record_numbers * next) (packed 4 (flat rs)))
