-- An item: a file or folder that the walk of a stick met, with the evidence for it; and the rules of one item, each under its own name.
-- Where nothing was looked at the numbers are 0, and that breaks a rule.
use Rattle.std.specs.Prelude.{Bool, not, ◌&&◌, cond, List, ℕ, ◌+◌, ◌-◌, ◌*◌, ◌/◌, ◌%◌, ◌^◌, eqb, ltb, length}
use Rattle.slip_rules.specs.Slip.{Entry}
use Rattle.stick_rules.specs.Names.{format_of}

pub record Item : Type 0 where
  -- the path below the stick's folder; [] for that folder itself
  pub path : List ℕ
  -- 1 a file, 2 a folder; any other: a link, a pipe, or it could not be looked at
  pub kind : ℕ
  -- of a file its length, as the system told it; of a folder 1 + how many names were listed in it
  pub size : ℕ
  -- of a file: what tds_sum_add makes of all bytes that were read: their sums + 65536 * how many they were
  pub checksum : ℕ
  -- of a figure: the reader that was given its bytes, and what that answered; 0 and 0 of any other
  pub reader : ℕ
  pub answer : ℕ

abbrev pub is_file : Item → Bool
is_file t = eqb t.kind 1

abbrev pub is_folder : Item → Bool
is_folder t = eqb t.kind 2

-- it is not the stick's own folder
abbrev pub has_path : Item → Bool
has_path t = not (eqb (length t.path) 0)

-- ---- of a folder

-- its path is shorter than 64 bytes. (No name on a slip is longer than 63, so nothing that leads to one has a longer path.)
abbrev pub is_short : Item → Bool
is_short t = ltb (length t.path) 64

-- the names in it were listed
abbrev pub is_listed : Item → Bool
is_listed t = not (eqb t.size 0)

-- how many they were
abbrev pub listed : Item → ℕ
listed t = cond (is_folder t) (t.size - 1) 0

-- ---- of a file

-- as many bytes were read as the system had told
abbrev pub is_read : Item → Bool
is_read t = eqb (t.checksum / 65_536) t.size

-- a figure was given to its own reader, and nothing else to any
abbrev pub has_own_reader : Item → Bool
has_own_reader t = eqb t.reader (format_of t.path)

-- an answer of 2^32 or more is a refusal
abbrev pub is_accepted : Item → Bool
is_accepted t = ltb t.answer (2 ^ 32)

abbrev pub is_figure : Item → Bool
is_figure t = is_file t && not (eqb t.reader 0)

-- its length, and its sums, are those of an entry
abbrev pub has_length_of : Entry → Item → Bool
has_length_of e t = eqb t.size e.file

abbrev pub sums_of : Entry → ℕ
sums_of e = e.first + 256 * e.second

abbrev pub has_sums_of : Entry → Item → Bool
has_sums_of e t = eqb (t.checksum % 65_536) (sums_of e)
