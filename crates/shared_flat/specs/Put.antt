-- Demand 3 for files of chunks one after another, whatever the chunks are: chunks put in, or taken out.
-- One list tells both files: some of its chunks are marked as put in. The file that has them keeps them, the other leaves
-- them out. Taken out is the same, read the other way.
use Rattle.std.specs.Prelude.{◌≡◌, ◌↔◌, ℕ, ◌+◌, ◌≤◌, cond, List, [], ◌∷◌, ltb}
pub use Rattle.shared_words.specs.Lists.{Pairwise}
use Rattle.shared_flat.specs.Flat.{Obeys, total, Format, records}

pub data Mark (A : Type 0) : Type 0 where
  put : A → Mark A
  keep : A → Mark A

-- the file without them, the file with them, and they alone
abbrev pub without : {A : Type 0} → List (Mark A) → List A
without [] = []
without (put a ∷ m) = without m
without (keep a ∷ m) = a ∷ without m

abbrev pub with : {A : Type 0} → List (Mark A) → List A
with [] = []
with (put a ∷ m) = a ∷ with m
with (keep a ∷ m) = a ∷ with m

abbrev pub puts : {A : Type 0} → List (Mark A) → List A
puts [] = []
puts (put a ∷ m) = a ∷ puts m
puts (keep a ∷ m) = puts m

-- each chunk put in is lawful where it stands in the file that has them
abbrev pub LawfulThere : {S A : Type 0} → (S → A → S) → (S → A → Type 0) → S → List (Mark A) → Type 0
LawfulThere after Lawful s [] = Unit
LawfulThere after Lawful s (put a ∷ m) = Lawful s a × LawfulThere after Lawful (after s a) m
LawfulThere after Lawful s (keep a ∷ m) = LawfulThere after Lawful (after s a) m

-- ---- where they stand, in the file that has them

pub record Piece : Type 0 where
  pub at : ℕ
  pub len : ℕ

-- the chunks put in, where the first of all begins at o
abbrev pub pieces : {A : Type 0} → (A → ℕ) → ℕ → List (Mark A) → List Piece
pieces size o [] = []
pieces size o (put a ∷ m) = record { at = o; len = size a } ∷ pieces size (o + size a) m
pieces size o (keep a ∷ m) = pieces size (o + size a) m

-- the bytes of those that begin before y
abbrev pub before : ℕ → List Piece → ℕ
before y [] = 0
before y (p ∷ ps) = cond (ltb p.at y) p.len 0 + before y ps

-- ---- what that does to the records

-- a record's offset is the old one plus the bytes put in before it, and all else is the same
pub record Moved {R : Type 0} (at : R → ℕ) (Same : R → R → Type 0) (ps : List Piece) (old new : R) : Type 0 where
  pub offset_grows : at new ≡ at old + before (at new) ps
  pub else_same : Same old new

-- ---- what a format has to show, so that its files keep their records

-- records of one chunk, n bytes long, that begins at o and at o': they stand equally far from where it begins
pub record Shifted {R : Type 0} (at : R → ℕ) (Same : R → R → Type 0) (n o o' : ℕ) (old new : R) : Type 0 where
  pub far : ℕ
  pub within : far ≤ n
  pub old-at : at old ≡ o + far
  pub new-at : at new ≡ o' + far
  pub shifted_same : Same old new

-- `Like s s' m` relates the states without and with the chunks put in so far, where the chunks m are to come. It holds on
-- from chunk to chunk; no chunk put in gives a record; and a chunk that stays is lawful in both states or in none, and gives
-- the same records.
pub record Harmless {S A R : Type 0} (F : Format S A R) (Lawful : S → A → Type 0) (at : R → ℕ) (Same : R → R → Type 0)
    (Like : S → S → List (Mark A) → Type 0) : Type 0 where
  pub put-after : (s s' : S) (a : A) (m : List (Mark A)) → Like s s' (put a ∷ m) → Like s (F.after s' a) m
  pub put-gives : (s s' : S) (a : A) (m : List (Mark A)) → Like s s' (put a ∷ m) → (o : ℕ) → F.gives s' o a ≡ []
  pub keep-after : (s s' : S) (a : A) (m : List (Mark A)) → Like s s' (keep a ∷ m) → Like (F.after s a) (F.after s' a) m
  pub keep-lawful : (s s' : S) (a : A) (m : List (Mark A)) → Like s s' (keep a ∷ m) → Lawful s a ↔ Lawful s' a
  pub keep-gives : (s s' : S) (a : A) (m : List (Mark A)) → Like s s' (keep a ∷ m) → Lawful s a → (o o' : ℕ) →
      Pairwise (Shifted at Same (F.size a) o o') (F.gives s o a) (F.gives s' o' a)

-- ---- the theorem: for all marked chunks together, and both ways

pub record PutOrTaken {S A R : Type 0} (F : Format S A R) (Lawful : S → A → Type 0) (at : R → ℕ) (Same : R → R → Type 0)
    (Like : S → S → List (Mark A) → Type 0) : Type 0 where
  -- chunks that are lawful where they are put in leave the others lawful
  pub put_in_lem : (s s' : S) (m : List (Mark A)) → Like s s' m → LawfulThere F.after Lawful s' m →
      Obeys F.after Lawful s (without m) → Obeys F.after Lawful s' (with m)
  -- so do chunks taken out
  pub taken_out : (s s' : S) (m : List (Mark A)) → Like s s' m → Obeys F.after Lawful s' (with m) → Obeys F.after Lawful s (without m)
  -- the records of chunks that begin at o are the same, each moved
  pub records-moved : (s s' : S) (o : ℕ) (m : List (Mark A)) → Like s s' m → Obeys F.after Lawful s (without m) →
      Pairwise (Moved at Same (pieces F.size o m)) (records F s o (without m)) (records F s' o (with m))
  -- and so is what follows them
  pub end_moved : (o : ℕ) (m : List (Mark A)) →
      o + total F.size (with m) ≡ o + total F.size (without m) + before (o + total F.size (with m)) (pieces F.size o m)

abbrev pub HarmlessIsEnough : Type 1
HarmlessIsEnough = (S A R : Type 0) (F : Format S A R) (Lawful : S → A → Type 0) (at : R → ℕ) (Same : R → R → Type 0)
    (Like : S → S → List (Mark A) → Type 0) → Harmless F Lawful at Same Like → PutOrTaken F Lawful at Same Like
