-- The names of the entries as the loop meets them: after some that fit, the conditions of the rest answer for all.
use mathlib.Core.Path.{◌≡◌, refl, sym, ap, ◌∙◌}
use Prim.Native.Nat.{ℕ, zero, suc, ◌+◌, ◌-◌, ◌<◌, ◌≤◌}
use native.Mathlib.Omega.{arith}
use mathlib.Core.Bool.{Bool, true, false}
use mathlib.Core.List.{List, []}
use mathlib.Core.Option.{Option, some, none}
use lib.ListN.{length, get_or}
use lib.Seq.{slice}
use Rattle.shared_words.specs.declared.Refusal.{Refusal}
use Rattle.shared_words.specs.declared.Refusal.TheVariants.{Text}
use Rattle.shared_words.specs.Labels.{fits_label}
use Rattle.shared_words.specs.Conditions.{broken, refused, accepted, unless}
use Rattle.shared_words.proofs.Conditions.{broken-here, broken-later, unbroken}
use Rattle.shared_numbers.proofs.Slices.{drop-take}
use Rattle.slip_rules.specs.Slip.{entry_size}
use Rattle.slip_rules.specs.Rules.{is_labelled}
use Rattle.slip_rules.specs.Conditions.{label_conditions}
use Rattle.slip_rules.specs.Walk.{behind, labelled}
use Rattle.slip_check.specs.Entries.{entry_in, next_at, entries_in, Whole}
use Rattle.slip_check.proofs.Names.{name-is, name-length, whole-first, whole-on}

-- the conditions of `left` entries from an offset on
abbrev labels_in : List ℕ → ℕ → ℕ → Option Refusal
labels_in s left o = broken (label_conditions behind o (entries_in left s o) [])

-- ---- one entry

module _ (s : List ℕ) (o : ℕ) where
  pub label_is : (b : Bool) → b ≡ fits_label (slice (o + 1) (o + 1 + get_or s o 0) s) → is_labelled (entry_in s o) ≡ b
  label_is b e = ap fits_label (name-is s o ∙ sym (drop-take (o + 1) (get_or s o 0) s)) ∙ sym e

  unfit_here : (left : ℕ) → 0 < left → is_labelled (entry_in s o) ≡ false → labels_in s left o ≡ some (Text o)
  unfit_here zero p e = absurd (omega arith)
  unfit_here (suc k) p e = broken-here _ _ _ e

  fit_on : (left : ℕ) → 0 < left → next_at s o ≤ length s → is_labelled (entry_in s o) ≡ true → labels_in s left o ≡ labels_in s (left - 1) (next_at s o)
  fit_on zero p l e = absurd (omega arith)
  fit_on (suc k) p l e =
      let q : suc k - 1 ≡ k = omega arith in
      let b : o + entry_size (entry_in s o) ≡ next_at s o = omega (arith, name-length s o l) in
      broken-later _ _ _ e ∙ rw (q, b)

-- ---- the loop

pub record On (s : List ℕ) (count left o : ℕ) : Type 0 where
  pub whole : Whole left s o
  pub goes : labels_in s count 7 ≡ labels_in s left o

pub on-start : (s : List ℕ) (count : ℕ) → Whole count s 7 → On s count count 7
on-start s count w = record { whole = w; goes = refl }

module _ (s : List ℕ) (count left o : ℕ) (i : On s count left o) where
  -- the entry at o is whole
  pub here : 0 < left → next_at s o ≤ length s
  here l = whole-first s o left l i.whole

  pub on_unfit : 0 < left → is_labelled (entry_in s o) ≡ false → labelled (accepted (entries_in count s 7)) ≡ refused (Text o)
  on_unfit l e = ap (λ (r : Option Refusal). unless r (accepted (entries_in count s 7))) (i.goes ∙ unfit_here s o left l e)

  pub on_fit : 0 < left → is_labelled (entry_in s o) ≡ true → On s count (left - 1) (next_at s o)
  on_fit l e = record {
    whole = whole-on s o left l i.whole;
    goes = i.goes ∙ fit_on s o left l (whole-first s o left l i.whole) e;
  }

  pub on-end : left ≡ 0 → labelled (accepted (entries_in count s 7)) ≡ accepted (entries_in count s 7)
  on-end z =
      let e : labels_in s left o ≡ none = rw z (unbroken [] tt) in
      ap (λ (r : Option Refusal). unless r (accepted (entries_in count s 7))) (i.goes ∙ e)
