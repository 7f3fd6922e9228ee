-- Conditions that all hold, and those of two lists, one after the other.
use Rattle.std.specs.Prelude.{Result, Ok, Err}
use mathlib.Core.Path.{◌≡◌, refl, ap}
use mathlib.Core.Bool.{true, false}
use mathlib.Core.List.{List, [], ◌∷◌, ◌++◌}
use mathlib.Core.Option.{Option, none, some}
use Prim.Native.Nat.{ℕ}
use native.Mathlib.Omega.{arith}
use Rattle.shared_words.specs.declared.Refusal.{Refusal}
use Rattle.shared_words.specs.Conditions.{Condition, must, broken, judged_by, answered}
use Rattle.shared_words.proofs.Conditions.{Met, met, unbroken}

pub never : {A : Type 0} (r : Refusal) → ◌≡◌ {A = Result Unit Refusal} (Err r) (Ok tt) → A
never r e = let z : ◌≡◌ {A = ℕ} 0 1 = cc in absurd (omega arith)

good-is-none : (o : Option Refusal) → judged_by o ≡ (Ok tt) → o ≡ none
good-is-none none h = refl
good-is-none (some r) h = never r h

-- nothing is wrong exactly where each condition holds
pub all-met : (cs : List Condition) → answered cs ≡ (Ok tt) → Met cs
unfolding answered
all-met cs h = met cs (good-is-none (broken cs) h)

pub none-wrong : (cs : List Condition) → Met cs → answered cs ≡ (Ok tt)
unfolding answered
none-wrong cs m = ap judged_by (unbroken cs m)

-- the first list is answered before the second
pub goes_on : (xs ys : List Condition) → answered xs ≡ (Ok tt) → answered (xs ++ ys) ≡ answered ys
unfolding answered broken
goes_on [] ys h = refl
goes_on (must true p ∷ xs) ys h = goes_on xs ys h
goes_on (must false p ∷ xs) ys h = never p h

pub stops : (xs ys : List Condition) (r : Refusal) → answered xs ≡ Err r → answered (xs ++ ys) ≡ Err r
unfolding answered broken
stops [] ys p h = let z : ◌≡◌ {A = ℕ} 0 1 = cc in absurd (omega arith)
stops (must true q ∷ xs) ys p h = stops xs ys p h
stops (must false q ∷ xs) ys p h = h

pub both-good : (xs ys : List Condition) → answered (xs ++ ys) ≡ (Ok tt) → (answered xs ≡ (Ok tt)) × (answered ys ≡ (Ok tt))
unfolding answered broken
both-good [] ys h = (refl, h)
both-good (must true p ∷ xs) ys h = both-good xs ys h
both-good (must false p ∷ xs) ys h = never p h
