-- What the writer's judgement answers, before a byte is written.
use Rattle.std.specs.Prelude.{◌≡◌, ℕ, ◌/◌, List, [], length, Result, Ok, Err}
use Rattle.std.proofs.Math.Option.{Option, none, some}
use Rattle.shared_words.specs.declared.Refusal.{Refusal}
use Rattle.shared_words.specs.Conditions.{Condition, broken}
use Rattle.slip_rules.specs.Slip.{bytes}
use Rattle.slip_rules.specs.Calls.{entries_from, Given, given_bytes, row_conditions, write_conditions}
use Rattle.slip_write_judge.specs.Rows.{AllInside}

-- the refusal, or the size of the slip
abbrev pub size_unless : ℕ → Option Refusal → Result ℕ Refusal
size_unless size (some r) = Err r
size_unless size none = Ok size

unfoldable pub judged : List ℕ → Given → ℕ → Result ℕ Refusal
judged names g room = size_unless (length (bytes (entries_from names g.rows))) (broken (write_conditions names g room))

-- of the rows alone: the refusal of the first that is bad, or that all are good and how long the slip is
pub record AllGood (names s : List ℕ) (size : ℕ) : Type 0 where
  pub passes : (later : List Condition) → broken (row_conditions names [] 0 (given_bytes s).rows later) ≡ broken later
  pub sized : length (bytes (entries_from names (given_bytes s).rows)) ≡ size
  pub inside : AllInside names s (length s / 16)

abbrev pub JudgesRows : List ℕ → List ℕ → Result ℕ Refusal → Type 0
JudgesRows names s (Err r) = (later : List Condition) → broken (row_conditions names [] 0 (given_bytes s).rows later) ≡ some r
JudgesRows names s (Ok size) = AllGood names s size
