-- The rules of a slip, each under its own name; and what it is for a slip to meet them.
use Rattle.std.specs.Prelude.{◌≡◌, ℕ, ◌^◌, ◌<◌, ◌≤◌, Bool, true, false, not, ◌&&◌, ◌||◌, List, [], ◌∷◌, ◌++◌, leb, length}
use Rattle.shared_words.specs.Lists.{same, every}
use Rattle.shared_words.specs.Labels.{fits_label}
use Rattle.slip_rules.specs.Slip.{Entry, bytes}

-- ---- the rules of one entry

-- "names of 1 to 255 bytes"
abbrev pub is_named : Entry → Bool
is_named e = leb 1 (length e.name) && leb (length e.name) 255

-- a sum is a remainder modulo 255. (So "a sum byte 255" is refused, and from C a number above a byte.)
abbrev pub sums_proper : Entry → Bool
sums_proper e = leb e.first 254 && leb e.second 254

-- some name is this one, byte by byte
abbrev pub named_before : List ℕ → List (List ℕ) → Bool
named_before name [] = false
named_before name (n ∷ ns) = same n name || named_before name ns

-- "none twice": after entries with the names `seen`
abbrev pub not_twice : List (List ℕ) → Entry → Bool
not_twice seen e = not (named_before e.name seen)

-- Q-8: its name fits the label
abbrev pub is_labelled : Entry → Bool
is_labelled e = fits_label e.name

-- ---- what meets them

-- an entry after entries with the names `seen`
pub record Lawful (seen : List (List ℕ)) (e : Entry) : Type 0 where
  pub is-named : is_named e ≡ true
  pub sums_proper_lem : sums_proper e ≡ true
  pub not_twice_lem : not_twice seen e ≡ true
  -- no byte and no number of C breaks this one
  pub file-fits : e.file < 256 ^ 4

-- one name more
abbrev pub remember : List (List ℕ) → Entry → List (List ℕ)
remember seen e = seen ++ (e.name ∷ [])

abbrev pub AllLawful : List (List ℕ) → List Entry → Type 0
AllLawful seen [] = Unit
AllLawful seen (e ∷ es) = Lawful seen e × AllLawful (remember seen e) es

-- "At most 1,000 entries"
abbrev pub most_entries : ℕ
most_entries = 1000

-- THE SLIP s MEETS THE RULES, with these entries
pub record Meets (s : List ℕ) (es : List Entry) : Type 0 where
  pub is : bytes es ≡ s
  pub few : length es ≤ most_entries
  pub lawful : AllLawful [] es
  pub labelled : every is_labelled es ≡ true
