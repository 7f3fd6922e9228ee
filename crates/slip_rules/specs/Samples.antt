-- Worked slips: the empty one, one of two entries, and one for each refusal. (The answers are those of an independent
-- reader and writer.)
use Rattle.shared_words.specs.declared.Refusal.{Refusal}
use Rattle.std.specs.Prelude.{◌≡◌, ℕ, List, [], ◌∷◌, ◌++◌, take, set, replicate, Result, Ok, Err}
use Rattle.shared_words.specs.declared.Refusal.TheVariants.{NoRoom}
use Rattle.shared_words.specs.Refusals.{Code, code_of}
use Rattle.shared_words.specs.Bytes.{packed}
use Rattle.shared_words.specs.Effects.{leaving}
use Rattle.slip_rules.specs.Calls.{byte_row, slip_read_call, given_bytes, slip_write_call}

-- the smallest slip
abbrev pub empty : List ℕ
empty = 1 ∷ 0 ∷ 0 ∷ 0 ∷ 2 ∷ 0 ∷ 0 ∷ []

-- "a" of 258 bytes with sums 3 and 4, "bc" of 1 byte with sums 5 and 5: they stand at 7 and 15
abbrev pub two : List ℕ
two = 1 ∷ 0 ∷ 0 ∷ 0 ∷ 19 ∷ 0 ∷ 2 ∷
    1 ∷ 0x61 ∷ 0 ∷ 0 ∷ 1 ∷ 2 ∷ 3 ∷ 4 ∷
    2 ∷ 0x62 ∷ 0x63 ∷ 0 ∷ 0 ∷ 0 ∷ 1 ∷ 5 ∷ 5 ∷ []

abbrev pub two_numbers : List ℕ
two_numbers = 8 ∷ 1 ∷ 258 ∷ 1027 ∷ 16 ∷ 2 ∷ 1 ∷ 1285 ∷ []

-- the two names alone, as the writer's names, and the numbers beside them
abbrev pub names : List ℕ
names = 0x61 ∷ 0x62 ∷ 0x63 ∷ []

abbrev pub given : List ℕ
given = 0 ∷ 1 ∷ 258 ∷ 1027 ∷ 1 ∷ 2 ∷ 1 ∷ 1285 ∷ []

-- ---- answers

pub data Shown : Type 0 where
  no : ℕ → ℕ → Shown
  yes : ℕ → Shown

abbrev pub shown_code : Code → Shown
shown_code c = no c.number c.place

abbrev pub found_shown : Result ℕ Refusal → Shown
found_shown (Ok n) = yes n
found_shown (Err r) = shown_code (code_of r)

abbrev pub written_shown : Result ℕ Refusal → Shown
written_shown (Ok n) = yes n
written_shown (Err r) = shown_code (code_of r)

-- a slip read into a row with room for three entries, and names and numbers written into a buffer of 30 bytes
abbrev pub read : List ℕ → Shown
read s = found_shown (slip_read_call byte_row s (replicate 48 0)).answer

abbrev pub write : List ℕ → List ℕ → Shown
write names ns = written_shown (slip_write_call names (given_bytes (packed 4 ns)) (replicate 30 0)).answer

pub record Samples : Type 0 where
  -- reading
  pub empty-read : read empty ≡ yes 0
  pub two-read : slip_read_call byte_row two (replicate 33 7) ≡ leaving (Ok 2) (packed 4 two_numbers ++ (7 ∷ []))
  pub short : read (take 6 empty) ≡ no 18 0
  pub version : read (set two 0 2) ≡ no 18 0
  pub length-field : read (set two 4 18) ≡ no 18 0
  pub count_large : read (set (set two 5 3) 6 0xE9) ≡ no 18 0
  pub entry-missing : read (set two 6 3) ≡ no 18 24
  pub left_over : read (set two 6 1) ≡ no 18 15
  pub no_name : read (set two 15 0) ≡ no 18 15
  pub entry-cut : read (set two 15 3) ≡ no 18 15
  pub sum_255 : read (set two 14 255) ≡ no 18 7
  pub name_twice : read (1 ∷ 0 ∷ 0 ∷ 0 ∷ 18 ∷ 0 ∷ 2 ∷ 1 ∷ 0x61 ∷ 0 ∷ 0 ∷ 0 ∷ 0 ∷ 0 ∷ 0 ∷ 1 ∷ 0x61 ∷ 0 ∷ 0 ∷ 0 ∷ 0 ∷ 0 ∷ 0 ∷ []) ≡ no 18 15
  pub text : read (set two 17 31) ≡ no 24 15
  pub text-after-slip : read (set (set two 8 31) 22 255) ≡ no 18 15
  pub room_last : slip_read_call byte_row two (replicate 31 0) ≡ leaving (Err (NoRoom 2)) (replicate 31 0)
  -- writing
  pub two-written : slip_write_call names (given_bytes (packed 4 given)) (replicate 30 7) ≡ leaving (Ok 24) (two ++ replicate 6 7)
  pub two-again : slip_write_call two (given_bytes (packed 4 two_numbers)) (replicate 24 7) ≡ leaving (Ok 24) two
  pub outside-names : write names (set given 5 3) ≡ no 18 1
  pub sums_255 : write names (set given 3 255) ≡ no 18 0
  pub sums_large : write names (set given 3 65536) ≡ no 18 0
  pub part-of-one : write names (take 7 given) ≡ no 18 1
  pub twice_written : write (0x61 ∷ 0x61 ∷ []) (set given 5 1) ≡ no 18 1
  pub text-written : write (0x61 ∷ 0x62 ∷ 127 ∷ []) given ≡ no 24 1
  pub text-after-part : write (31 ∷ 0x62 ∷ 0x63 ∷ []) (take 7 given) ≡ no 18 1
  pub room-written : slip_write_call names (given_bytes (packed 4 given)) (replicate 23 7) ≡ leaving (Err (NoRoom 24)) (replicate 23 7)
