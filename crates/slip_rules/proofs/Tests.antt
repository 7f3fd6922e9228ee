-- Conditions with one refusal, one after another, are one test.
use mathlib.Core.Path.{◌≡◌, refl}
use mathlib.Core.Bool.{Bool, true, false, true≢false, false≢true}
use mathlib.Core.List.{List, [], ◌∷◌}
use mathlib.Core.Option.{none, some}
use Rattle.shared_words.specs.declared.Refusal.{Refusal}
use Rattle.shared_words.specs.Conditions.{Condition, must, broken}
use Rattle.slip_rules.specs.Conditions.{all_of}

abbrev pub must_all : List Bool → Refusal → List Condition → List Condition
must_all [] r later = later
must_all (b ∷ bs) r later = must b r ∷ must_all bs r later

pub all_hold : (bs : List Bool) (r : Refusal) (later : List Condition) → all_of bs ≡ true → broken (must_all bs r later) ≡ broken later
unfolding broken
all_hold [] r later h = refl
all_hold (true ∷ bs) r later h = all_hold bs r later h
all_hold (false ∷ bs) r later h = absurd (false≢true h)

pub one_fails : (bs : List Bool) (r : Refusal) (later : List Condition) → all_of bs ≡ false → broken (must_all bs r later) ≡ some r
unfolding broken
one_fails [] r later h = absurd (true≢false h)
one_fails (true ∷ bs) r later h = one_fails bs r later h
one_fails (false ∷ bs) r later h = refl

-- where nothing comes later
pub none_fails : (bs : List Bool) (r : Refusal) → all_of bs ≡ true → broken (must_all bs r []) ≡ none
unfolding broken
none_fails bs r h = all_hold bs r [] h
