-- Answers of conditions: of one and those behind it, of a row, and of a list that a loop goes through.
use Rattle.std.specs.Prelude.{Ok, Err}
use mathlib.Core.Path.{◌≡◌, refl, sym, ap, ◌∙◌}
use Prim.Native.Nat.{ℕ, ◌+◌, ◌-◌, ◌<◌, ◌≤◌}
use native.Mathlib.Omega.{arith}
use mathlib.Core.Bool.{Bool, true, false}
use mathlib.Core.List.{List, [], ◌∷◌, ◌++◌}
use mathlib.Core.Option.{Option, none, some}
use lib.ListN.{length}
use Rattle.shared_words.specs.declared.Refusal.{Refusal}
use Rattle.shared_words.specs.Conditions.{Condition, must, broken, judged_by, answered}
use Rattle.shared_words.specs.Lists.{every, first_fault}
use Rattle.shared_words.proofs.Conditions.{broken-here, broken-later}
use Rattle.shared_words.proofs.FirstFault.{some-bad, every-good}
use Rattle.studio_write_judge.specs.Judged.{each_must}
use Rattle.studio_figure_rules.specs.Given.{over}
use Rattle.studio_figure_rules.proofs.Described.{broken-first, broken-rest}
use Rattle.studio_figure_rows.specs.Rows.{run}
use Rattle.studio_figure_rows.proofs.Runs.{run-opened, run_none}

-- what an answer tells of the first broken condition
pub refused-told : (cs : List Condition) (r : Refusal) → Err r ≡ answered cs → broken cs ≡ some r
unfolding answered
refused-told cs r e = go (broken cs) e
  where
    go : (o : Option Refusal) → Err r ≡ judged_by o → o ≡ some r
    go none e = let z : ◌≡◌ {A = ℕ} 0 1 = cc in absurd (omega arith)
    go (some x) e = cc

pub good-told : (cs : List Condition) → (Ok tt) ≡ answered cs → broken cs ≡ none
unfolding answered
good-told cs e = go (broken cs) e
  where
    go : (o : Option Refusal) → (Ok tt) ≡ judged_by o → o ≡ none
    go none e = refl
    go (some x) e = let z : ◌≡◌ {A = ℕ} 0 1 = cc in absurd (omega arith)

pub none-broken : (Ok tt) ≡ answered []
unfolding answered broken
none-broken = refl

pub here : (b : Bool) (r : Refusal) (cs : List Condition) → b ≡ false → Err r ≡ answered (must b r ∷ cs)
unfolding answered
here b r cs e = sym (ap judged_by (broken-here b r cs e))

pub later : (b : Bool) (r : Refusal) (cs : List Condition) → b ≡ true → answered cs ≡ answered (must b r ∷ cs)
unfolding answered
later b r cs e = sym (ap judged_by (broken-later b r cs e))

-- conditions, and those behind them
pub front-refused : (cs ds : List Condition) (r : Refusal) → Err r ≡ answered cs → Err r ≡ answered (cs ++ ds)
unfolding answered
front-refused cs ds r e = sym (ap judged_by (broken-first cs ds r (refused-told cs r e)))

pub front-passed : (cs ds : List Condition) → (Ok tt) ≡ answered cs → answered ds ≡ answered (cs ++ ds)
unfolding answered
front-passed cs ds e = sym (ap judged_by (broken-rest cs ds (good-told cs e)))

-- a row whose elements must pass a test
module _ {A : Type 0} (good : A → Bool) (row : List A) (refusal : ℕ → Refusal) (cs : List Condition) where
  pub row-refused : (at : ℕ) → at ≡ first_fault good row → every good row ≡ false → Err (refusal at) ≡ answered (each_must good row refusal ∷ cs)
  row-refused at e f = ap (λ (p : ℕ). Err (refusal p)) e ∙ here (every good row) (refusal (first_fault good row)) cs f

  pub row-passed : every good row ≡ true → answered cs ≡ answered (each_must good row refusal ∷ cs)
  row-passed e = later (every good row) (refusal (first_fault good row)) cs e

  pub row-found : (at : ℕ) → at ≡ first_fault good row → at < length row → Err (refusal at) ≡ answered (each_must good row refusal ∷ cs)
  row-found at e h = row-refused at e (some-bad good row (omega arith))

  pub row-through : (at : ℕ) → at ≡ first_fault good row → length row ≤ at → answered cs ≡ answered (each_must good row refusal ∷ cs)
  row-through at e h = row-passed (every-good good row (omega arith))

-- things by number, judged one after another
module _ {A : Type 0} (give : A → List Condition) (thing : ℕ → A) (n : ℕ) where
  -- what is left to judge from i on
  abbrev pub Left : ℕ → Type 0
  Left i = broken (over give (run thing 0 n)) ≡ broken (over give (run thing i (n - i)))

  pub left-all : Left 0
  left-all = let a : n - 0 ≡ n = omega arith in rw a

  opened : (i : ℕ) → i < n → broken (over give (run thing i (n - i))) ≡ broken (give (thing i) ++ over give (run thing (i + 1) (n - (i + 1))))
  opened i h = ap (λ (l : List A). broken (over give l)) (run-opened thing i n h)

  pub left-on : (i : ℕ) → i < n → Left i → (Ok tt) ≡ answered (give (thing i)) → Left (i + 1)
  left-on i h l e = l ∙ opened i h ∙ broken-rest (give (thing i)) (over give (run thing (i + 1) (n - (i + 1)))) (good-told (give (thing i)) e)

  pub left_out : (i : ℕ) → i < n → Left i → (r : Refusal) → Err r ≡ answered (give (thing i)) → Err r ≡ answered (over give (run thing 0 n))
  unfolding answered
  left_out i h l r e = sym (ap judged_by (l ∙ opened i h ∙ broken-first (give (thing i)) (over give (run thing (i + 1) (n - (i + 1)))) r (refused-told (give (thing i)) r e)))

  pub left-none : (i : ℕ) → n ≤ i → Left i → (Ok tt) ≡ answered (over give (run thing 0 n))
  unfolding answered broken
  left-none i h l = sym (ap judged_by (l ∙ ap (λ (xs : List A). broken (over give xs)) (run_none thing i n h)))
