-- A bare figure is written as before: what is added to the bare writer's conditions holds of it.
use mathlib.Core.Path.{◌≡◌, refl, sym, ap, ◌∙◌}
use Prim.Native.Nat.{ℕ}
use native.Mathlib.Omega.{arith}
use mathlib.Core.Bool.{Bool, true, false}
use mathlib.Core.List.{List, [], ◌∷◌, map}
use mathlib.Core.Option.{Option}
use lib.Dec.{T}
use lib.Ieee.{Float, binary32, fits}
use lib.ListN.{length, length-map}
use Rattle.shared_words.specs.declared.Refusal.{Refusal}
use Rattle.shared_words.specs.Lists.{every, first_fault}
use Rattle.shared_words.specs.Floats.{finite}
use Rattle.studio_rules.specs.Layout.{Run, figure, bytes}
use Rattle.shared_words.specs.Conditions.{Condition, must, broken}
use Rattle.shared_words.proofs.Conditions.{broken-later}
use Rattle.studio_write_judge.specs.Judged.{finite_float, figure_size, write_conditions, answer_of, judged}
use Rattle.studio_write_bytes.specs.Bare.{bare}
use Rattle.studio_write.specs.Write.{writing, write_call}
use Rattle.studio_write.specs.ReadsBack.{Floats32}
use Rattle.studio_write.proofs.Floats.{bits, finite-float, float-bits, parts}
use Rattle.studio_figure_rules.specs.Built.{layout}
use Rattle.studio_figure_rules.specs.Judged.{size_of, conditions, judged_figure}
use Rattle.studio_figure_rules.specs.Write.{write_figure}
use Rattle.studio_figure_rules.specs.AsBefore.{bare_figure, BareAsBefore}

-- ---- floats: finite as such and as bits

finite-bits : (x : Float) → T (fits binary32 x) → finite (bits x) ≡ finite_float x
finite-bits x f = sym (finite-float (bits x)) ∙ ap finite_float (float-bits x f)

pub all-finite : (xs : List Float) → Floats32 xs → every finite (map bits xs) ≡ every finite_float xs
unfolding every
all-finite [] f = refl
all-finite (x ∷ xs) f = let p = parts x xs f in rw (finite-bits x p.0, all-finite xs p.1)

pub first-finite : (xs : List Float) → Floats32 xs → first_fault finite (map bits xs) ≡ first_fault finite_float xs
first-finite [] f = refl
first-finite (x ∷ xs) f = let p = parts x xs f in rw (finite-bits x p.0, first-finite xs p.1)

-- ---- conditions

broken-more : (b : Bool) (r : Refusal) (cs ds : List Condition) → broken cs ≡ broken ds → broken (must b r ∷ cs) ≡ broken (must b r ∷ ds)
unfolding broken
broken-more true r cs ds e = e
broken-more false r cs ds e = refl

writing-same : (out : List ℕ) {t u : Run} {n m : ℕ} {o p : Option Refusal} → t ≡ u → n ≡ m → o ≡ p →
    writing (bytes (figure t)) out (answer_of n o) ≡ writing (bytes (figure u)) out (answer_of m p)
writing-same out a b c = cc

module _ (name : List ℕ) (vertices : List Float) (corners : List ℕ) (f : Floats32 vertices) where
  count_same : length (map bits vertices) ≡ length vertices
  count_same = length-map vertices bits

  layout-same : layout (bare_figure name vertices corners) ≡ bare name vertices corners
  layout-same = rw count_same

  size_same : size_of (bare_figure name vertices corners) ≡ figure_size name vertices corners
  size_same = omega (arith, count_same)

  faults_same : (room : ℕ) → broken (conditions (bare_figure name vertices corners) room) ≡ broken (write_conditions name vertices corners room)
  unfolding every
  faults_same room =
      broken-more _ _ _ _
      (broken-more _ _ _ _
      (broken-later _ _ _ refl ∙ broken-later _ _ _ refl ∙
      rw (size_same, all-finite vertices f, first-finite vertices f, count_same)
      (broken-more _ _ _ _ (broken-more _ _ _ _ (broken-later _ _ _ refl)))))

  call_same : (out : List ℕ) → write_figure (bare_figure name vertices corners) out ≡ write_call name vertices corners out
  unfolding write_figure judged_figure write_call judged
  call_same out = writing-same out layout-same size_same (faults_same (length out))

pub as_before : BareAsBefore
as_before name vertices corners f = record {
  same_layout = layout-same name vertices corners f;
  same_size = size_same name vertices corners f;
  same_faults = faults_same name vertices corners f;
  same-call = call_same name vertices corners f;
}
