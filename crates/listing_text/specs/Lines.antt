-- The lines of the listing program, by docs/FORMAT.md, in ASCII.
use Rattle.std.specs.Prelude.{ℕ, zero, suc, ◌+◌, List, [], ◌∷◌, ◌++◌, drop, get_or}
use Rattle.studio_rules.specs.declared.Record.{Record}
use Rattle.studio_rules.specs.declared.Counts.{Counts}
use Rattle.studio_rules.specs.Gives.{record_numbers}
use Rattle.shared_words.specs.declared.Refusal.{Refusal}
use Rattle.shared_words.specs.Refusals.{number_of, place_of}
use Rattle.listing_printing.specs.Text.{decimal, four_digits}

-- "ok"
abbrev pub ok : List ℕ
ok = 0x6F ∷ 0x6B ∷ []

-- "refused"
abbrev pub refused_word : List ℕ
refused_word = 0x72 ∷ 0x65 ∷ 0x66 ∷ 0x75 ∷ 0x73 ∷ 0x65 ∷ 0x64 ∷ []

-- a number behind a space
abbrev pub field : ℕ → List ℕ
field n = 0x20 ∷ decimal n

abbrev pub line_end : List ℕ
line_end = 0x0A ∷ []

-- the rest of a line: numbers, each behind a space
abbrev pub fields : List ℕ → List ℕ
fields [] = line_end
fields (n ∷ ns) = field n ++ fields ns

-- `refused`, number, place
unfoldable pub refusal_line : Refusal → List ℕ
refusal_line r = refused_word ++ fields (number_of r ∷ place_of r ∷ [])

-- `ok`, file length and the three counts
unfoldable pub counts_line : ℕ → Counts → List ℕ
counts_line size c = ok ++ fields (size ∷ c.headers ∷ c.own ∷ c.skipped ∷ [])

-- depth, identifier, offset and length
unfoldable pub chunk_line : ℕ → ℕ → ℕ → ℕ → List ℕ
chunk_line depth identifier offset len = decimal depth ++ ((0x20 ∷ four_digits identifier) ++ fields (offset ∷ len ∷ []))

-- a line for each record
abbrev pub lines : List Record → List ℕ
lines [] = []
lines (r ∷ rs) = chunk_line r.depth r.identifier r.offset r.len ++ lines rs

-- the line of the record that stands at position j of a flat row
abbrev pub line_at : List ℕ → ℕ → List ℕ
line_at row j = chunk_line (get_or row (j + 3) 0) (get_or row j 0) (get_or row (j + 1) 0) (get_or row (j + 2) 0)

-- the lines of the first n records of a flat row
abbrev pub row_lines : ℕ → List ℕ → List ℕ
row_lines zero row = []
row_lines (suc n) row = line_at row 0 ++ row_lines n (drop record_numbers row)
