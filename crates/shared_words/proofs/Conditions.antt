-- Conditions in order: none is broken exactly when each holds.
use mathlib.Core.Path.{◌≡◌, refl}
use mathlib.Core.Bool.{Bool, true, false, false≢true}
use mathlib.Core.List.{List, [], ◌∷◌}
use mathlib.Core.Option.{none, some, some-ne-none}
use Rattle.shared_words.specs.declared.Refusal.{Refusal}
use Rattle.shared_words.specs.Conditions.{Condition, must, broken}

-- each holds
abbrev pub Met : List Condition → Type 0
Met [] = Unit
Met (must b r ∷ cs) = (b ≡ true) × Met cs

pub met : (cs : List Condition) → broken cs ≡ none → Met cs
unfolding broken
met [] h = tt
met (must true r ∷ cs) h = (refl, met cs h)
met (must false r ∷ cs) h = absurd (some-ne-none r h)

pub unbroken : (cs : List Condition) → Met cs → broken cs ≡ none
unfolding broken
unbroken [] h = refl
unbroken (must true r ∷ cs) h = unbroken cs h.1
unbroken (must false r ∷ cs) h = absurd (false≢true h.0)

-- ---- one condition after the other

pub broken-here : (b : Bool) (r : Refusal) (cs : List Condition) → b ≡ false → broken (must b r ∷ cs) ≡ some r
unfolding broken
broken-here b r cs e = rw e

pub broken-later : (b : Bool) (r : Refusal) (cs : List Condition) → b ≡ true → broken (must b r ∷ cs) ≡ broken cs
unfolding broken
broken-later b r cs e = rw e
