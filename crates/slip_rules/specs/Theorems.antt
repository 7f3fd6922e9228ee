-- What is proved of the slip's reader and writer.
use Rattle.std.specs.Prelude.{◌≡◌, ◌↔◌, ℕ, ◌+◌, ◌*◌, ◌≤◌, List, length, take, Ok}
use Rattle.shared_words.specs.Bytes.{Bytes}
use Rattle.shared_words.specs.Conditions.{accepted}
use Rattle.shared_words.specs.Effects.{leaving, filled}
use Rattle.shared_words.specs.Encodings.{Encoding}
use Rattle.slip_rules.specs.declared.Numbers.{Numbers}
use Rattle.slip_rules.specs.Slip.{Entry}
use Rattle.slip_rules.specs.Rules.{most_entries, Meets}
use Rattle.slip_rules.specs.Walk.{verdict}
use Rattle.slip_rules.specs.Calls.{all_numbers, byte_row, slip_read_call, entries_from, given_bytes, slip_write_call}

-- A SLIP IS ACCEPTED, with its entries, EXACTLY when it meets the rules with them.
abbrev pub AcceptedExactly : Type 0
AcceptedExactly = (s : List ℕ) → Bytes s → (es : List Entry) → (verdict s ≡ accepted es) ↔ Meets s es

-- A SLIP HAS ONE READING.
abbrev pub OneReading : Type 0
OneReading = (s : List ℕ) (es es' : List Entry) → Meets s es → Meets s es' → es ≡ es'

-- WRITTEN, IT READS BACK: what stands in the first bytes of the buffer is accepted, with the entries that were given.
abbrev pub ReadsBack : Type 0
ReadsBack = (names entries out : List ℕ) → Bytes entries → (size : ℕ) → (slip_write_call names (given_bytes entries) out).answer ≡ Ok size →
    verdict (take size (slip_write_call names (given_bytes entries) out).rows) ≡ accepted (entries_from names (given_bytes entries).rows)

-- READ, IT WRITES BACK: the entries that the reader filled in, written again with the slip itself as the names, are the same
-- bytes.
abbrev pub WritesBack : Type 0
WritesBack = (s : List ℕ) → Bytes s → (es : List Entry) → verdict s ≡ accepted es → (out : List ℕ) → length s ≤ length out →
    slip_write_call s (given_bytes (byte_row.encode (all_numbers 7 es))) out ≡ leaving (Ok (length s)) (filled s out)

-- THE ANSWERS ARE SMALL: at most 1,000 entries, and a slip of at most 70,007 bytes.
abbrev pub FewEntries : Type 0
FewEntries = (c : Encoding Numbers ℕ) (s row : List ℕ) (n : ℕ) → Bytes s → (slip_read_call c s row).answer ≡ Ok n → n ≤ most_entries

abbrev pub SmallSize : Type 0
SmallSize = (names entries out : List ℕ) (size : ℕ) → Bytes entries → (slip_write_call names (given_bytes entries) out).answer ≡ Ok size →
    size ≤ 7 + 70 * most_entries
