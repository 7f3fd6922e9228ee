-- The places of conditions in order: where each is at most n, so is that of the first that is broken, and of an answer that they guard.
use mathlib.Core.Path.{◌≡◌, refl}
use Prim.Native.Nat.{ℕ, ◌≤◌}
use mathlib.Core.Bool.{true, false}
use mathlib.Core.List.{List, [], ◌∷◌}
use mathlib.Core.Option.{Option, none, some}
use Rattle.shared_words.specs.declared.Refusal.{Refusal}
use Rattle.shared_words.specs.Refusals.{place_of}
use Rattle.shared_words.specs.Conditions.{Condition, must, broken, Answer, refused, accepted, unless}
use Rattle.shared_words.proofs.Conditions.{Met}

-- ---- the first that is broken: a place up to n, or P where there is none

abbrev pub Ends : ℕ → Type 0 → Option Refusal → Type 0
Ends n P none = P
Ends n P (some r) = place_of r ≤ n

-- what is asked later may count on what was asked before, and P on all of it
abbrev pub Asked : ℕ → Type 0 → List Condition → Type 0
Asked n P [] = P
Asked n P (must b r ∷ cs) = (b ≡ false → place_of r ≤ n) × (b ≡ true → Asked n P cs)

pub asked : (P : Type 0) (n : ℕ) (cs : List Condition) → Asked n P cs → Ends n P (broken cs)
unfolding broken
asked P n [] h = h
asked P n (must true r ∷ cs) h = asked P n cs (h.1 refl)
asked P n (must false r ∷ cs) h = h.0 refl

-- each place is at most n, whatever was asked before
abbrev pub PlacesTo : ℕ → List Condition → Type 0
PlacesTo n [] = Unit
PlacesTo n (must b r ∷ cs) = (place_of r ≤ n) × PlacesTo n cs

pub places-asked : {P : Type 0} (n : ℕ) (cs : List Condition) → PlacesTo n cs → (Met cs → P) → Asked n P cs
places-asked n [] h p = p tt
places-asked n (must b r ∷ cs) h p = (λ _. h.0, λ t. places-asked n cs h.1 (λ m. p (t, m)))

-- ---- a place up to n, and nothing more

abbrev pub PlaceTo : ℕ → Option Refusal → Type 0
PlaceTo n r = Ends n Unit r

pub broken_to : (n : ℕ) (cs : List Condition) → PlacesTo n cs → PlaceTo n (broken cs)
broken_to n cs h = asked Unit n cs (places-asked n cs h (λ _. tt))

-- ---- an answer: a refusal with a place up to n, or what is P

abbrev pub AnswerTo : {A : Type 0} → ℕ → (A → Type 0) → Answer A → Type 0
AnswerTo n P (refused r) = place_of r ≤ n
AnswerTo n P (accepted a) = P a

pub unless_to : {A : Type 0} (P : A → Type 0) (n : ℕ) (cs : List Condition) (a : Answer A) → Asked n (AnswerTo n P a) cs → AnswerTo n P (unless (broken cs) a)
unless_to P n cs a h = go (broken cs) (asked (AnswerTo n P a) n cs h)
  where
    go : (r : Option Refusal) → Ends n (AnswerTo n P a) r → AnswerTo n P (unless r a)
    go none h = h
    go (some r) h = h

-- where the places are known beforehand
pub unless-met : {A : Type 0} (P : A → Type 0) (n : ℕ) (cs : List Condition) (a : Answer A) → PlacesTo n cs → (Met cs → AnswerTo n P a) → AnswerTo n P (unless (broken cs) a)
unless-met P n cs a h p = unless_to P n cs a (places-asked n cs h p)

-- ---- a place up to n, and nothing said of what is accepted; which may then be said

abbrev pub PlacedTo : {A : Type 0} → ℕ → Answer A → Type 0
PlacedTo {A} n a = AnswerTo n (λ (x : A). Unit) a

pub placed : {A : Type 0} (n : ℕ) (cs : List Condition) (a : Answer A) → PlacesTo n cs → (Met cs → PlacedTo n a) → PlacedTo n (unless (broken cs) a)
placed {A} n cs a h p = unless-met (λ (x : A). Unit) n cs a h p

pub and-accepted : {A : Type 0} (P : A → Type 0) (n : ℕ) (a : Answer A) → PlacedTo n a → ((x : A) → a ≡ accepted x → P x) → AnswerTo n P a
and-accepted P n (refused r) h p = h
and-accepted P n (accepted x) h p = p x refl
