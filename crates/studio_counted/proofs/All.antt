-- The call by what was asked, for every kind of things and every way in which they stand in the row.
use Rattle.std.specs.Prelude.{Result, Ok, Err}
use mathlib.Core.Path.{◌≡◌, refl, sym, ap}
use mathlib.Core.Logic.{inl, inr}
use mathlib.Core.List.{List}
use Prim.Native.Nat.{ℕ, ◌≤◌}
use native.Mathlib.Omega.{arith}
use lib.ListN.{length}
use borrow.Author.Tests.{le-leb, lt-leb}
use Rattle.shared_words.specs.declared.Refusal.{Refusal}
use Rattle.shared_words.specs.Conditions.{Answer, refused, accepted}
use Rattle.shared_words.specs.Encodings.{Encoding}
use Rattle.shared_words.specs.Effects.{Effect, leaving, filled}
use Rattle.studio_rules.specs.Layout.{Run}
use Rattle.studio_rules.specs.Walk.{verdict}
use Rattle.studio_rules.specs.Gives.{Part, parts}
use Rattle.studio_rules.specs.Calls.{check_of, check_call, parts_call, all_of}
use Rattle.studio_counted.specs.All.{RefusedWith}

-- what a call answers and leaves, in two parts
pub gives : {A : Type 0} {x : Effect (Result ℕ Refusal) (List A)} {answer : Result ℕ Refusal} {left : List A} → x ≡ leaving answer left → (answer ≡ x.answer) × (left ≡ x.rows)
gives {A} e = (ap (λ (y : Effect (Result ℕ Refusal) (List A)). y.answer) (sym e), ap (λ (y : Effect (Result ℕ Refusal) (List A)). y.rows) (sym e))

module _ {X : Type 0} (things : Run → List X) (s : List ℕ) where
  -- a file that the check refuses
  pub file-refused : (room : ℕ) {r : Refusal} → check_call s ≡ Err r → RefusedWith things s room r
  unfolding check_call
  file-refused room {r} e = inl (go (verdict s) e)
    where
      go : (a : Answer Run) → check_of a ≡ Err r → a ≡ refused r
      go (refused x) e = cc
      go (accepted kids) e = absurd (let z : ◌≡◌ {A = ℕ} 0 1 = cc in omega arith)

  module _ {A : Type 0} (e : Encoding X A) (row : List A) where
    pub all-refused : {r : Refusal} → RefusedWith things s (e.room (length row)) r → all_of things e row (verdict s) ≡ leaving (Err r) row
    all-refused (inl v) = rw v
    all-refused (inr (kids, v, l, x)) = rw (v, lt-leb (length (things kids)) (e.room (length row)) l, x)

    pub all-filled : (kids : Run) → verdict s ≡ accepted kids → (count : ℕ) → count ≡ length (things kids) → length (things kids) ≤ e.room (length row) →
        (row' : List A) → row' ≡ filled (e.encode (things kids)) row → all_of things e row (verdict s) ≡ leaving (Ok count) row'
    all-filled kids v count n l row' f = rw (v, le-leb (length (things kids)) (e.room (length row)) l, n, f)

-- the call about the parts is one of these
pub all-parts : {A : Type 0} (e : Encoding Part A) (s : List ℕ) (row : List A) → parts_call e s row ≡ all_of parts e row (verdict s)
unfolding parts_call
all-parts e s row = refl
