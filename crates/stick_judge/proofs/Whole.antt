-- The parts of the judgement, one after another.
use Rattle.std.specs.Prelude.{Result, Ok, Err}
use mathlib.Core.Path.{◌≡◌, refl, sym, ap, ◌∙◌}
use Rattle.shared_words.specs.Lists.{any}
use mathlib.Core.Bool.{true, false}
use mathlib.Core.List.{List, [], ◌∷◌, ◌++◌, tail}
use Prim.Native.Nat.{ℕ, zero, suc, ◌+◌, ◌*◌, ◌%◌, ◌≤◌}
use native.Mathlib.Omega.{arith}
use lib.ListN.{length, get_or, replicate}
use borrow.Author.Tests.{eq-eqb, ne_eqb}
use Rattle.shared_words.specs.Conditions.{accepted, broken}
use Rattle.slip_rules.specs.Slip.{Entry}
use Rattle.shared_words.specs.declared.Refusal.{Refusal}
use Rattle.shared_words.specs.declared.Refusal.TheVariants.{Unchecked, Incomplete, NoFigure}
use Rattle.shared_words.specs.Conditions.{answered}
use Rattle.stick_rules.proofs.Answers.{goes_on, stops}
use Rattle.stick_rules.specs.Items.{Item, is_figure}
use Rattle.stick_rules.specs.Judge.{manifest, Target, root_conditions, items_conditions, matched_by, entry_conditions, is_whole}
use Rattle.stick_rules.specs.Judge.{figure_conditions, rest_conditions, judgement}
use Rattle.stick_rules.specs.Records.{item_no, item_count, items_in, judge_records}
use Rattle.stick_records.proofs.Walk.{items_step, items_none}
use Rattle.stick_judge.specs.Judging.{Flags, JudgesEntries, JudgesRest, behind_root}

-- ---- no flag is set at first

zero-at : (n k : ℕ) → get_or {A = ℕ} (replicate n 0) k 0 ≡ 0
zero-at zero k = refl
zero-at (suc n) zero = refl
zero-at (suc n) (suc k) = zero-at n k

pub no-marks : (n : ℕ) → Flags (replicate n 0) []
no-marks n k u h l = rw (zero-at n (64 * k + u))

-- ---- the walk, then the entries

module _ (n : ℕ) (ts : List Item) (flags : List ℕ) where
  pub rest_unfinished : is_whole ts ≡ false → JudgesRest n ts flags (Err Incomplete)
  unfolding answered broken
  rest_unfinished w es matched h m = rw w

  module _ (w : is_whole ts ≡ true) (r : Result Unit Refusal) (j : JudgesEntries n flags r) where
    rest-on : (es : List Entry) (matched : List Target) → answered (rest_conditions es matched ts) ≡ answered (entry_conditions 0 es matched ++ figure_conditions ts)
    unfolding answered broken
    rest-on es matched = rw w

    pub rest_absent : (p : Refusal) → r ≡ Err p → JudgesRest n ts flags (Err p)
    rest_absent p q es matched h m = sym (rest-on es matched ∙ stops (entry_conditions 0 es matched) (figure_conditions ts) p (sym (j es matched h m) ∙ q))

    module _ (q : r ≡ (Ok tt)) where
      rest-figure : (es : List Entry) (matched : List Target) → length es ≡ n → Flags flags matched → answered (rest_conditions es matched ts) ≡ answered (figure_conditions ts)
      rest-figure es matched h m = rest-on es matched ∙ goes_on (entry_conditions 0 es matched) (figure_conditions ts) (sym (j es matched h m) ∙ q)

      pub rest-no-figure : any is_figure ts ≡ false → JudgesRest n ts flags (Err NoFigure)
      unfolding answered broken
      rest-no-figure f es matched h m = sym (rest-figure es matched h m ∙ rw f)

      pub rest-good : any is_figure ts ≡ true → JudgesRest n ts flags (Ok tt)
      unfolding answered broken
      rest-good f es matched h m = sym (rest-figure es matched h m ∙ rw f)

-- ---- the items, then the rest

module _ (es : List Entry) (ts : List Item) (r : Result Unit Refusal) (j : r ≡ answered (items_conditions es [] 1 (tail ts))) where
  pub item_refused : (p : Refusal) → r ≡ Err p → answered (behind_root es ts) ≡ Err p
  item_refused p q = stops (items_conditions es [] 1 (tail ts)) _ p (sym j ∙ q)

  pub items_good : r ≡ (Ok tt) → answered (behind_root es ts) ≡ answered (rest_conditions es (matched_by es [] (tail ts)) ts)
  items_good q = goes_on (items_conditions es [] 1 (tail ts)) _ (sym j ∙ q)

-- ---- all of it

module _ (slip : List ℕ) (es : List Entry) (names s : List ℕ) where
  pub part_left : (length s % 56 ≡ 0 → ⊥) → judge_records slip (accepted es) names s ≡ Err (Unchecked (item_count s))
  part_left n = rw (ne_eqb (length s % 56) 0 n)

  no_items : (es : List Entry) (ts : List Item) → ts ≡ [] → judgement es ts ≡ Err Incomplete
  unfolding judgement items_conditions answered broken
  no_items es ts e = rw e

  pub nothing-handed : length s ≡ 0 → judge_records slip (accepted es) names s ≡ Err Incomplete
  nothing-handed z =
      let c : item_count s ≡ 0 = omega arith in
      let d : length s % 56 ≡ 0 = omega arith in
      rw (eq-eqb (length s % 56) 0 d) (no_items (manifest slip es) (items_in names s) (items_none (item_count s) names s 0 c))

  module _ (z : length s % 56 ≡ 0) (r : Result Unit Refusal) (j : r ≡ answered (root_conditions (items_in names s))) where
    pub root-refused : (p : Refusal) → r ≡ Err p → judge_records slip (accepted es) names s ≡ Err p
    unfolding judgement
    root-refused p q = rw (eq-eqb (length s % 56) 0 z) (stops (root_conditions (items_in names s)) (behind_root (manifest slip es) (items_in names s)) p (sym j ∙ q))

    pub root-good : r ≡ (Ok tt) → judge_records slip (accepted es) names s ≡ answered (behind_root (manifest slip es) (items_in names s))
    unfolding judgement
    root-good q = rw (eq-eqb (length s % 56) 0 z) (goes_on (root_conditions (items_in names s)) (behind_root (manifest slip es) (items_in names s)) (sym j ∙ q))

-- the first item
pub root-conditions : (names s : List ℕ) → 56 ≤ length s → root_conditions (items_in names s) ≡ root_conditions (item_no names s 0 ∷ [])
root-conditions names s h = ap root_conditions (items_step (item_count s) names s 0 (omega arith))
