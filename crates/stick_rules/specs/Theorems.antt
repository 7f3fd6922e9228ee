-- What is proved of the judgement.
use Rattle.std.specs.Prelude.{◌≡◌, Bool, true, false, ◌&&◌, ◌↔◌, ℕ, ◌+◌, ◌^◌, ◌<◌, ◌≤◌, eqb, length, Ok}
use mathlib.Core.List.{List, [], ◌∷◌, tail, flatten}
use Rattle.std.proofs.Math.Option.{some}
use Rattle.shared_words.specs.Lists.{any, total, how_many, All}
use Rattle.slip_rules.specs.Slip.{Entry}
use Rattle.stick_rules.specs.Names.{equal_ignoring_case, format_of}
use Rattle.stick_rules.specs.Items.{Item, is_file, is_folder, has_path, is_short, is_listed, listed, is_read, is_figure, has_length_of, has_sums_of}
use Rattle.stick_rules.specs.Judge.{entry_index, entry_of, target_of, is_target, judgement}

-- ---- a good stick

-- length and sums of a file are those of an entry
abbrev pub agrees : Entry → Item → Bool
agrees e t = has_length_of e t && has_sums_of e t

-- a file that is the one of an entry: of its length, read whole, with its sums; and if it is a figure, its own reader has accepted it
pub record Agrees (e : Entry) (t : Item) : Type 0 where
  pub agree : agrees e t ≡ true
  pub whole : is_read t ≡ true
  pub judged : t.reader ≡ format_of t.path
  pub accepted : t.answer < 2 ^ 32

-- a folder that was listed, in which the file of an entry stands
pub record Leads (es : List Entry) (t : Item) : Type 0 where
  pub below : has_path t ≡ true
  pub short : is_short t ≡ true
  pub free : length es ≤ entry_index true es t.path
  pub leads : entry_index false es t.path < length es
  pub was-listed : is_listed t ≡ true

-- such a folder, or the file of the entry of its name
pub data InOrder (es : List Entry) (t : Item) : Type 0 where
  folder : is_folder t ≡ true → Leads es t → InOrder es t
  file : (e : Entry) → is_file t ≡ true → has_path t ≡ true → entry_of es t.path ≡ some e → Agrees e t → InOrder es t

-- the stick's own folder stands first
pub record IsRoot (t : Item) : Type 0 where
  pub no_path : length t.path ≡ 0
  pub is-folder : is_folder t ≡ true
  pub was-listed : is_listed t ≡ true

abbrev pub Rooted : List Item → Type 0
Rooted [] = ⊥
Rooted (t ∷ ts) = IsRoot t

-- how many files have the entry of number k; how many items have this target
abbrev pub is_file_no : List Entry → ℕ → Item → Bool
is_file_no es k t = is_file t && eqb k (entry_index true es t.path)

abbrev pub files_no : List Entry → ℕ → List Item → ℕ
files_no es k ts = how_many (is_file_no es k) ts

abbrev pub targeting : List Entry → ℕ → ℕ → List Item → ℕ
targeting es k n ts = how_many (λ (t : Item). is_target k n (target_of es t)) ts

-- NOTHING MISSING, NOTHING MORE, NOTHING UNCHECKED
pub record Good (es : List Entry) (ts : List Item) : Type 0 where
  pub rooted : Rooted ts
  pub in_order : All (InOrder es) (tail ts)
  pub each-once : (k : ℕ) → k < length es → files_no es k (tail ts) ≡ 1
  pub none_twice : (k n : ℕ) → targeting es k n (tail ts) ≤ 1
  pub whole : length ts ≡ 1 + total listed ts
  pub a-figure : any is_figure ts ≡ true

-- A STICK PASSES EXACTLY when it is good.
abbrev pub PassesExactly : Type 0
PassesExactly = (es : List Entry) (ts : List Item) → (judgement es ts ≡ (Ok tt)) ↔ Good es ts

-- ---- in plain words

-- a file has the name of an entry; and is in all the file of it
abbrev pub is_named : Entry → Item → Bool
is_named e t = is_file t && equal_ignoring_case e.name t.path

abbrev pub is_of : Entry → Item → Bool
is_of e t = is_named e t && agrees e t && is_read t

-- every entry is met by exactly one file, of that name, length and sums
pub record MatchedOnce (ts : List Item) (e : Entry) : Type 0 where
  pub one-named : how_many (is_named e) ts ≡ 1
  pub one_of : how_many (is_of e) ts ≡ 1

-- every file is on the slip, once; if it is a figure, its own reader has accepted it
abbrev pub entries_named : List Entry → Item → ℕ
entries_named es t = how_many (λ (e : Entry). equal_ignoring_case e.name t.path) es

pub record OnSlip (es : List Entry) (t : Item) : Type 0 where
  pub one_entry : entries_named es t ≡ 1
  pub judged : t.reader ≡ format_of t.path
  pub accepted : t.answer < 2 ^ 32

-- OF A STICK THAT PASSES: every entry is met by exactly one file, every file is on the slip once, and every figure was accepted.
pub record Sealed (es : List Entry) (ts : List Item) : Type 0 where
  pub every-entry : All (MatchedOnce ts) es
  pub every-file : All (λ (t : Item). is_file t ≡ true → OnSlip es t) ts

abbrev pub InPlainWords : Type 0
InPlainWords = (es : List Entry) (ts : List Item) → judgement es ts ≡ (Ok tt) → Sealed es ts

-- ---- nothing more

-- no two items have one path, letters of either case alike
abbrev pub Distinct : List Item → Type 0
Distinct [] = Unit
Distinct (t ∷ ts) = All (λ (u : Item). equal_ignoring_case t.path u.path ≡ false) ts × Distinct ts

-- OF A STICK THAT PASSES: no path was met twice, and there are as many items as names were listed, and the stick's own folder.
pub record AllMet (ts : List Item) : Type 0 where
  pub distinct : Distinct ts
  pub as_many : length ts ≡ 1 + total listed ts

abbrev pub NothingMore : Type 0
NothingMore = (es : List Entry) (ts : List Item) → judgement es ts ≡ (Ok tt) → AllMet ts

-- the names that were listed in each item, as paths below the stick's folder: as many as it told
abbrev pub Listings : List Item → List (List (List ℕ)) → Type 0
Listings [] [] = Unit
Listings [] (l ∷ ls) = ⊥
Listings (t ∷ ts) [] = ⊥
Listings (t ∷ ts) (l ∷ ls) = (length l ≡ listed t) × Listings ts ls

-- an item was listed; what was listed is an item
abbrev pub WasListed : List (List ℕ) → Item → Type 0
WasListed names t = any (equal_ignoring_case t.path) names ≡ true

abbrev pub WasMet : List Item → List ℕ → Type 0
WasMet ts name = any (λ (t : Item). equal_ignoring_case name t.path) ts ≡ true

-- NO NAME IS LOST: if every item but the stick's own folder was listed somewhere, every name that was listed is an item.
abbrev pub NoneLost : Type 0
NoneLost = (es : List Entry) (ts : List Item) (ls : List (List (List ℕ))) → judgement es ts ≡ (Ok tt) → Listings ts ls →
    All (WasListed (flatten ls)) (tail ts) → All (WasMet (tail ts)) (flatten ls)
