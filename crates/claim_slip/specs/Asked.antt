-- AN ENTRY, from the file that it is made of to the file that is compared with it: made by `sums_call`, written on a slip by
-- `slip_write_call`, read back by `slip_read_call` and asked by `match_of`.
use Rattle.std.specs.Prelude.{◌≡◌, ℕ, ◌/◌, ◌%◌, ◌<◌, length, take, Ok}
use mathlib.Core.List.{List, flatten}
use Rattle.std.proofs.Math.Option.{some}
use Rattle.std.proofs.Math.ListN.{get_elem?}
use Rattle.shared_words.specs.Bytes.{Bytes}
use Rattle.slip_sums.specs.declared.Sum.{Sum}
use Rattle.slip_sums.specs.Fletcher.{sum_of}
use Rattle.slip_sums.specs.Passes.{sums_call, other_sums, match_of, against}
use Rattle.slip_rules.specs.declared.Numbers.{Numbers}
use Rattle.slip_rules.specs.Calls.{entry_from, rows_in, byte_row, slip_read_call, given_bytes, slip_write_call}
use Rattle.c_sums.specs.Numbers.{sums_or, sum_in, sum_by_parts}
use Rattle.claim_sums.specs.Damage.{turn}

-- the slip that stands in the front of the buffer after the writer's call
abbrev pub slip_in : List ℕ → List ℕ → List ℕ → ℕ → List ℕ
slip_in names entries out size = take size (slip_write_call names (given_bytes entries) out).rows

-- Entry number k was given to the writer as the numbers `given`, and what the reader then leaves in its row are the numbers `found`.
pub record OnSlip (names entries out row : List ℕ) (k : ℕ) (given found : Numbers) : Type 0 where
  pub size : ℕ
  pub written : (slip_write_call names (given_bytes entries) out).answer ≡ Ok size
  pub count : ℕ
  pub read : (slip_read_call byte_row (slip_in names entries out size) row).answer ≡ Ok count
  pub given-there : get_elem? (given_bytes entries).rows k ≡ some given
  pub found-there : get_elem? (rows_in count (slip_read_call byte_row (slip_in names entries out size) row).rows) k ≡ some found

-- THE SAME NAME, LENGTH AND SUMS are read that were written.
abbrev pub EntryReadBack : Type 0
EntryReadBack = (names entries out row : List ℕ) → Bytes names → Bytes entries → (k : ℕ) (given found : Numbers) → (w : OnSlip names entries out row k given found) →
    entry_from (slip_in names entries out w.size) found ≡ entry_from names given

-- the numbers of an entry that is made of a file: its length, and what `sums_call` answers, as C gets it
pub record MadeOf (original : List ℕ) (n : Numbers) : Type 0 where
  pub sums : Sum
  pub made : sums_call original ≡ Ok sums
  pub length-is : n.file ≡ length original
  pub sums_are : n.sums ≡ sums_or (sums_call original)

-- A FILE ASKED AGAINST THE ENTRY THAT WAS READ is answered as against the sums of the entry's original: so what crate claim_sums says of
-- damage is said of every entry.
abbrev pub AskedAsMade : Type 0
AskedAsMade = (names entries out row : List ℕ) → Bytes names → Bytes entries → (k : ℕ) (given found : Numbers) → OnSlip names entries out row k given found →
    (original : List ℕ) → MadeOf original given → (file : List ℕ) →
    match_of (sum_of file) found.file (found.sums % 256) (found.sums / 256) ≡ against file (sum_of original)

-- A FILE ONE BIT AWAY NEVER PASSES, read whole or in parts.
pub record BitFound (original : List ℕ) (found : Numbers) (i b : ℕ) : Type 0 where
  pub whole : match_of (sum_of (turn i b original)) found.file (found.sums % 256) (found.sums / 256) ≡ other_sums
  pub in_parts : (parts : List (List ℕ)) → flatten parts ≡ turn i b original →
      match_of (sum_in (sum_by_parts 0 parts)) found.file (found.sums % 256) (found.sums / 256) ≡ other_sums

abbrev pub OneBitAway : Type 0
OneBitAway = (names entries out row : List ℕ) → Bytes names → Bytes entries → (k : ℕ) (given found : Numbers) → OnSlip names entries out row k given found →
    (original : List ℕ) → MadeOf original given → (i b : ℕ) → i < length original → b < 8 → BitFound original found i b
