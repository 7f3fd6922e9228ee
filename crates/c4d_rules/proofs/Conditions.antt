-- Answers under conditions.
use mathlib.Core.Path.{◌≡◌, refl}
use mathlib.Core.List.{List}
use mathlib.Core.Option.{Option, none, some}
use Rattle.shared_words.specs.declared.Refusal.{Refusal}
use Rattle.shared_words.specs.Conditions.{Condition, broken, Answer, refused, accepted, unless}
use Rattle.shared_words.proofs.Conditions.{Met, met}

-- what P says of an accepted thing
abbrev pub If : {A : Type 0} → (A → Type 0) → Answer A → Type 0
If P (refused r) = Unit
If P (accepted a) = P a

-- it may use that each condition holds
pub guarded : {A : Type 0} (P : A → Type 0) (cs : List Condition) (x : Answer A) → (Met cs → If P x) → If P (unless (broken cs) x)
guarded P cs x h = go (broken cs) refl
  where
    go : (r : Option Refusal) → broken cs ≡ r → If P (unless r x)
    go (some r) e = tt
    go none e = h (met cs e)
