-- The names of the rows, one at a time; and what the first that does not fit makes of their conditions.
use mathlib.Core.Path.{◌≡◌, refl, sym, ap, ◌∙◌}
use Prim.Native.Nat.{ℕ, zero, suc, ◌+◌, ◌-◌, ◌<◌, ◌≤◌}
use native.Mathlib.Numerals.{add-one}
use native.Mathlib.Omega.{arith}
use mathlib.Core.Bool.{Bool, true, false, cond}
use mathlib.Core.List.{List, [], ◌∷◌}
use mathlib.Core.Option.{some}
use lib.ListN.{length}
use lib.Seq.{slice}
use Rattle.shared_words.specs.declared.Refusal.TheVariants.{Text}
use Rattle.shared_words.specs.Lists.{first_fault}
use Rattle.shared_words.specs.Labels.{fits_label}
use Rattle.shared_words.specs.Conditions.{Condition, broken}
use Rattle.shared_words.proofs.Conditions.{broken-here, broken-later}
use Rattle.shared_numbers.proofs.Slices.{drop-take}
use Rattle.slip_rules.specs.declared.Numbers.{Numbers}
use Rattle.slip_rules.specs.Slip.{Entry}
use Rattle.slip_rules.specs.Rules.{is_labelled}
use Rattle.slip_rules.specs.Conditions.{label_conditions}
use Rattle.slip_rules.specs.Calls.{entry_from, entries_from, one_on}
use Rattle.slip_write_judge.specs.Rows.{entry_no, rows_from}

-- ---- the conditions

module _ (later : List Condition) where
  pub labels_unfit : (i : ℕ) (es : List Entry) → first_fault is_labelled es < length es →
      broken (label_conditions one_on i es later) ≡ some (Text (i + first_fault is_labelled es))
  labels_unfit i [] l = absurd (omega arith)
  labels_unfit i (e ∷ es) l = go (is_labelled e) refl (labels_unfit (suc i) es) l
    where
      go : (b : Bool) → is_labelled e ≡ b →
          (first_fault is_labelled es < length es → broken (label_conditions one_on (suc i) es later) ≡ some (Text (suc i + first_fault is_labelled es))) →
          cond b (suc (first_fault is_labelled es)) 0 < suc (length es) →
          broken (label_conditions one_on i (e ∷ es) later) ≡ some (Text (i + cond b (suc (first_fault is_labelled es)) 0))
      go true q ih l =
          let z : suc i + first_fault is_labelled es ≡ i + suc (first_fault is_labelled es) = omega arith in
          broken-later _ _ _ q ∙ ih (omega arith) ∙ ap (λ (k : ℕ). some (Text k)) z
      go false q ih l =
          let z : i ≡ i + 0 = omega arith in
          broken-here _ _ _ q ∙ ap (λ (k : ℕ). some (Text k)) z

  pub labels_fit : (i : ℕ) (es : List Entry) → length es ≤ first_fault is_labelled es → broken (label_conditions one_on i es later) ≡ broken later
  labels_fit i [] l = refl
  labels_fit i (e ∷ es) l = go (is_labelled e) refl (labels_fit (suc i) es) l
    where
      go : (b : Bool) → is_labelled e ≡ b → (length es ≤ first_fault is_labelled es → broken (label_conditions one_on (suc i) es later) ≡ broken later) →
          suc (length es) ≤ cond b (suc (first_fault is_labelled es)) 0 → broken (label_conditions one_on i (e ∷ es) later) ≡ broken later
      go true q ih l = broken-later _ _ _ q ∙ ih (omega arith)
      go false q ih l = absurd (omega arith)

-- ---- the loop

pub label_is : (names : List ℕ) (n : Numbers) (b : Bool) → b ≡ fits_label (slice n.name (n.name + n.len) names) → is_labelled (entry_from names n) ≡ b
label_is names n b e = ap fits_label (sym (drop-take n.name n.len names)) ∙ sym e

module _ (names s : List ℕ) where
  -- the first unfit of k rows from number i on
  abbrev unfit_from : ℕ → ℕ → ℕ
  unfit_from k i = first_fault is_labelled (entries_from names (rows_from k s i))

  unfit_here : (k i : ℕ) → 0 < k → is_labelled (entry_no names s i) ≡ false → unfit_from k i ≡ 0
  unfit_here zero i p e = absurd (omega arith)
  unfit_here (suc k) i p e = rw e

  fit_on : (k i : ℕ) → 0 < k → is_labelled (entry_no names s i) ≡ true → unfit_from k i ≡ suc (unfit_from (k - 1) (suc i))
  fit_on zero i p e = absurd (omega arith)
  fit_on (suc k) i p e =
      let q : suc k - 1 ≡ k = omega arith in
      rw (e, q)

  pub record On (n i : ℕ) : Type 0 where
    pub few : i ≤ n
    pub goes : unfit_from n 0 ≡ i + unfit_from (n - i) i

  pub on-start : (n : ℕ) → On n 0
  on-start n =
      let q : n - 0 ≡ n = omega arith in
      record { few = omega arith; goes = rw q (omega arith) }

  module _ (n i : ℕ) (on : On n i) where
    pub on_unfit : i < n → is_labelled (entry_no names s i) ≡ false → i ≡ unfit_from n 0
    on_unfit l e = omega (arith, on.goes, unfit_here (n - i) i (omega arith) e)

    pub on_fit : i < n → is_labelled (entry_no names s i) ≡ true → On n (i + 1)
    on_fit l e =
        let q : n - i - 1 ≡ n - suc i = omega arith in
        let f : unfit_from (n - i) i ≡ suc (unfit_from (n - suc i) (suc i)) = rw q at (fit_on (n - i) i (omega arith) e) in
        rw (add-one i) record { few = omega arith; goes = omega (arith, on.goes, f) }

    pub on-all : i ≡ n → i ≡ unfit_from n 0
    on-all e =
        let q : n - i ≡ 0 = omega arith in
        let z : unfit_from (n - i) i ≡ 0 = rw q in
        omega (arith, on.goes, z)
