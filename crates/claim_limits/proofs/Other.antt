-- Refusals other than 1: of conditions in order, and of an answer that they guard.
use mathlib.Core.Path.{◌≡◌, refl, ap}
use mathlib.Core.Bool.{Bool, true, false}
use mathlib.Core.List.{List, [], ◌∷◌}
use mathlib.Core.Logic.{◌↔◌}
use Prim.Native.Nat.{ℕ, ◌≤◌, ◌<◌}
use native.Mathlib.Omega.{arith}
use lib.Dec.{leb}
use lib.ListN.{length}
use borrow.Author.Tests.{leb-false, lt-leb}
use Rattle.shared_words.specs.declared.Refusal.{Refusal}
use Rattle.shared_words.specs.declared.Refusal.TheVariants.{TooLong}
use Rattle.shared_words.specs.Refusals.{limit, number_of}
use Rattle.shared_words.specs.Conditions.{Condition, must, broken, Answer, refused, accepted, unless}
use Rattle.shared_words.proofs.Conditions.{Met, broken-here}

-- not 1, by its number
abbrev pub Other : Refusal → Type 0
Other r = 2 ≤ number_of r

pub not-long : (r : Refusal) → Other r → r ≡ TooLong → ⊥
not-long r h e = let n : number_of r ≡ 1 = ap number_of e in omega arith

-- an answer that is no such refusal
abbrev pub NotLong : {A : Type 0} → Answer A → Type 0
NotLong (refused r) = Other r
NotLong (accepted a) = Unit

pub never-long : {A : Type 0} (a : Answer A) → NotLong a → a ≡ refused TooLong → ⊥
never-long (refused r) h e = let q : r ≡ TooLong = cc in not-long r h q
never-long (accepted x) h e = let z : ◌≡◌ {A = ℕ} 0 1 = cc in omega arith

-- of conditions
abbrev pub Others : List Condition → Type 0
Others [] = Unit
Others (must b r ∷ cs) = Other r × Others cs

pub unless_not : {A : Type 0} (cs : List Condition) (a : Answer A) → Others cs → (Met cs → NotLong a) → NotLong (unless (broken cs) a)
unfolding broken
unless_not [] a h p = p tt
unless_not (must true r ∷ cs) a h p = unless_not cs a h.1 (λ m. p (refl, m))
unless_not (must false r ∷ cs) a h p = h.0

-- a file, whose length is asked first
pub file_exactly : {A : Type 0} (s : List ℕ) (cs : List Condition) (a : Answer A) → Others cs → NotLong a →
    (unless (broken (must (leb (length s) limit) TooLong ∷ cs)) a ≡ refused TooLong) ↔ (limit < length s)
unfolding broken
file_exactly {A} s cs a h p = (λ e. there (leb (length s) limit) refl e, λ l. ap (λ o. unless o a) (broken-here (leb (length s) limit) TooLong cs (lt-leb (length s) limit l)))
  where
    there : (b : Bool) → leb (length s) limit ≡ b → unless (broken (must b TooLong ∷ cs)) a ≡ refused TooLong → limit < length s
    there true e q = absurd (never-long _ (unless_not cs a h (λ m. p)) q)
    there false e q = leb-false (length s) limit e
