-- DEMAND 3 of those calls of C that give out a few numbers into a slice of their own (crate c_answers): the byte counts, a name, a box.
-- Of any two files whose calls answer as demand 3 says, for any slice: with the same room both files' numbers are given, or
-- neither's. (Demand 1 of them: StudioTold of crate claim_numbers.)
use Rattle.std.specs.Prelude.{◌≡◌, List, [], ◌∷◌, ℕ, ◌+◌, length}
use Rattle.shared_words.specs.Bytes.{packed}
use Rattle.shared_words.specs.Effects.{Effect, leaving, filled}
use Rattle.studio_rules.specs.Gaps.{Piece, before}
use Rattle.studio_rules.specs.Calls.{check_call, name_call, box_call}
use Rattle.c_answers.specs.Given.{counts_given, name_given, box_given}
use Rattle.claim_demands.specs.Demand3.{SameAnswers}

-- the byte counts: only the skipped one changes, and it grows by all the bytes put in
pub record CountsGrow (all : ℕ) (old new : List ℕ) : Type 0 where
  pub headers : ℕ
  pub own : ℕ
  pub skipped : ℕ
  pub old-is : old ≡ headers ∷ own ∷ skipped ∷ []
  pub new_is : new ≡ headers ∷ own ∷ (skipped + all) ∷ []

-- a name: its offset grows like the others, and its length stays
pub record NameGrows (ps : List Piece) (old new : List ℕ) : Type 0 where
  pub offset : ℕ
  pub offset' : ℕ
  pub name-length : ℕ
  pub old-is : old ≡ offset ∷ name-length ∷ []
  pub new_is : new ≡ offset' ∷ name-length ∷ []
  pub grows : offset' ≡ offset + before offset' ps

-- both calls leave numbers in the slice, those of the one related to those of the other; or both are refused alike, and it is as it was
pub data GivenAlike (R : List ℕ → List ℕ → Type 0) (out : List ℕ) (e e' : Effect ℕ (List ℕ)) : Type 0 where
  given : (old new : List ℕ) → R old new → e ≡ leaving (length old) (filled (packed 4 old) out) → e' ≡ leaving (length old) (filled (packed 4 new) out) → GivenAlike R out e e'
  refused : (code : ℕ) → e ≡ leaving code out → e' ≡ leaving code out → GivenAlike R out e e'

pub record SameSlices (ps : List Piece) (all : ℕ) (s s' : List ℕ) : Type 0 where
  pub counts : (out : List ℕ) → GivenAlike (CountsGrow all) out (counts_given out (check_call s)) (counts_given out (check_call s'))
  pub name : (mesh : ℕ) (out : List ℕ) → GivenAlike (NameGrows ps) out (name_given out (name_call s mesh)) (name_given out (name_call s' mesh))
  pub box : (mesh : ℕ) (out : List ℕ) → box_given out (box_call s' mesh) ≡ box_given out (box_call s mesh)

abbrev pub SlicesMoved : Type 1
SlicesMoved = (ps : List Piece) (all : ℕ) (s s' : List ℕ) → SameAnswers ps all s s' → SameSlices ps all s s'
