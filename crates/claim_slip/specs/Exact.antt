-- A SLIP, EXACTLY, of the calls: which slips are read, and which entries are written.
use Rattle.std.specs.Prelude.{◌≡◌, ◌↔◌, false, List, ℕ, ◌+◌, ◌≤◌, length, Ok}
use Rattle.shared_words.specs.Bytes.{Bytes}
use Rattle.shared_words.specs.Lists.{All}
use Rattle.shared_words.specs.Effects.{leaving, filled}
use Rattle.shared_words.specs.Encodings.{Encoding}
use Rattle.slip_rules.specs.declared.Numbers.{Numbers}
use Rattle.slip_rules.specs.Slip.{Entry, bytes}
use Rattle.slip_rules.specs.Rules.{Meets}
use Rattle.slip_rules.specs.Calls.{all_numbers, slip_read_call, entries_from, Given, given_bytes, slip_write_call}

-- the entries that the writer is given, as a slip
abbrev pub slip_of : List ℕ → Given → List ℕ
slip_of names g = bytes (entries_from names g.rows)

-- what the writer is given can be written into a buffer of `room` bytes: whole entries, each name among the names, that meet the
-- rules of a slip and fit
pub record Writable (names : List ℕ) (g : Given) (room : ℕ) : Type 0 where
  pub no_part : g.part ≡ false
  pub names-there : All (λ (n : Numbers). n.name + n.len ≤ length names) g.rows
  pub meets : Meets (slip_of names g) (entries_from names g.rows)
  pub fits_in : length (slip_of names g) ≤ room

pub record SlipsExactly : Type 0 where
  -- read exactly when it meets the rules and there is room, and then with as many entries
  pub read : (e : Encoding Numbers ℕ) (s : List ℕ) → Bytes s → (row : List ℕ) (n : ℕ) →
      ((slip_read_call e s row).answer ≡ Ok n) ↔ ((es : List Entry) × Meets s es × (n ≡ length es) × (n ≤ e.room (length row)))
  pub given : (e : Encoding Numbers ℕ) (s : List ℕ) (es : List Entry) → Meets s es → (row : List ℕ) → length es ≤ e.room (length row) →
      slip_read_call e s row ≡ leaving (Ok (length es)) (filled (e.encode (all_numbers 7 es)) row)
  -- written exactly when it can be, and then with its size
  pub write : (names entries out : List ℕ) → Bytes entries → (size : ℕ) →
      ((slip_write_call names (given_bytes entries) out).answer ≡ Ok size) ↔
      (Writable names (given_bytes entries) (length out) × (size ≡ length (slip_of names (given_bytes entries))))
  pub laid-down : (names entries out : List ℕ) → Writable names (given_bytes entries) (length out) →
      slip_write_call names (given_bytes entries) out ≡
      leaving (Ok (length (slip_of names (given_bytes entries)))) (filled (slip_of names (given_bytes entries)) out)
