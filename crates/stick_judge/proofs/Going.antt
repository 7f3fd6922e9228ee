-- Items one after another, and then the entries, as loops judge them: after some that are in order, the conditions of the rest answer for all.
use Rattle.std.specs.Prelude.{Result, Ok, Err}
use mathlib.Core.Path.{◌≡◌, refl, sym, ap, ◌∙◌}
use mathlib.Core.Bool.{true, false}
use mathlib.Core.List.{List, [], ◌++◌, tail}
use Prim.Native.Nat.{ℕ, suc, ◌+◌, ◌-◌, ◌*◌, ◌<◌, ◌≤◌}
use native.Mathlib.Numerals.{add-one}
use native.Mathlib.Omega.{arith}
use lib.ListN.{length, drop, get_or, drop_of_length-le}
use lib.Seq.{drop-cons}
use Rattle.slip_rules.specs.Slip.{Entry}
use Rattle.shared_words.specs.declared.Refusal.{Refusal}
use Rattle.shared_words.specs.declared.Refusal.TheVariants.{Absent}
use Rattle.shared_words.specs.Conditions.{answered, broken}
use Rattle.stick_rules.proofs.Answers.{never, goes_on, stops}
use Rattle.stick_rules.specs.Items.{Item}
use Rattle.stick_rules.specs.Judge.{Target, is_matched, item_conditions, matching, items_conditions, matched_by, entry_conditions}
use Rattle.stick_rules.specs.Records.{item_no, items_from, item_count, items_in}
use Rattle.stick_records.proofs.Walk.{items_step, items_none}
use Rattle.stick_judge.proofs.Marking.{flag_set, flag_unset}
use Rattle.stick_judge.specs.Judging.{Flags, JudgesItem, JudgesItems, JudgesEntries}

module _ (es : List Entry) (names s flags₀ : List ℕ) where
  pub record Going (n : ℕ) (flags : List ℕ) (i : ℕ) : Type 0 where
    pub few : i ≤ n
    pub long : length flags ≡ length flags₀
    -- the entries that are met so far
    pub matched : List Target
    pub marks : Flags flags matched
    pub goes : answered (items_conditions es [] 1 (tail (items_in names s))) ≡ answered (items_conditions es matched i (items_from (n - i) names s i))
    pub meets : matched_by es [] (tail (items_in names s)) ≡ matched_by es matched (items_from (n - i) names s i)

  pub going_start : (n : ℕ) → n ≡ item_count s → 1 ≤ n → Flags flags₀ [] → Going n flags₀ 1
  going_start n q l m =
      let e : tail (items_in names s) ≡ items_from (n - 1) names s 1 = rw q (ap tail (items_step (item_count s) names s 0 (omega arith))) in
      record { few = l; long = refl; matched = []; marks = m; goes = rw e; meets = rw e }

  module _ (n : ℕ) (flags : List ℕ) (i : ℕ) (g : Going n flags i) (l : i < n) (r : Result Unit Refusal) (flags' : List ℕ)
      (j : JudgesItem es i (item_no names s i) flags r flags') where
    abbrev rest : List Item
    rest = items_from (n - i - 1) names s (i + 1)

    abbrev cs : List Item → Result Unit Refusal
    cs ts = answered (items_conditions es g.matched i ts)

    going_step : answered (items_conditions es [] 1 (tail (items_in names s))) ≡
        answered (item_conditions es g.matched i (item_no names s i) ++ items_conditions es (matching es g.matched (item_no names s i)) (suc i) rest)
    unfolding items_conditions
    going_step = g.goes ∙ ap cs (items_step (n - i) names s i (omega arith))

    meets-step : matched_by es [] (tail (items_in names s)) ≡ matched_by es (matching es g.matched (item_no names s i)) rest
    unfolding matched_by
    meets-step = g.meets ∙ ap (matched_by es g.matched) (items_step (n - i) names s i (omega arith))

    pub going_bad : (p : Refusal) → r ≡ Err p → JudgesItems es (tail (items_in names s)) flags₀ (Err p) flags'
    going_bad p q =
        let k = j.judges g.matched g.marks in
        record {
          long = j.long ∙ g.long;
          judges = λ _. record { is = sym (going_step ∙ stops _ _ p (sym k.is ∙ q)); marks = never p };
        }

    pub going_on : r ≡ (Ok tt) → Going n flags' (i + 1)
    going_on q =
        let k = j.judges g.matched g.marks in
        let z : n - (i + 1) ≡ n - i - 1 = omega arith in
        record {
          few = omega arith;
          long = j.long ∙ g.long;
          matched = matching es g.matched (item_no names s i);
          marks = k.marks q;
          goes = going_step ∙ goes_on _ _ (sym k.is ∙ q) ∙ rw (z, add-one i);
          meets = meets-step ∙ rw z;
        }

  pub going_end : (n : ℕ) (flags : List ℕ) (i : ℕ) → Going n flags i → n ≤ i → JudgesItems es (tail (items_in names s)) flags₀ (Ok tt) flags
  unfolding items_conditions matched_by answered broken
  going_end n flags i g l =
      let e = items_none (n - i) names s i (omega arith) in
      record {
        long = g.long;
        judges = λ _. record {
          is = sym (g.goes ∙ ap (λ (ts : List Item). answered (items_conditions es g.matched i ts)) e);
          marks = λ _. rw (g.meets ∙ ap (matched_by es g.matched) e) g.marks;
        };
      }

-- ---- the entries

abbrev blank : Entry
blank = record { name = []; file = 0; first = 0; second = 0 }

pub record Passed (n : ℕ) (flags : List ℕ) (k : ℕ) : Type 0 where
  pub few : k ≤ n
  pub goes : (es : List Entry) (matched : List Target) → length es ≡ n → Flags flags matched →
      answered (entry_conditions 0 es matched) ≡ answered (entry_conditions k (drop k es) matched)

pub passed_none : (n : ℕ) (flags : List ℕ) → Passed n flags 0
passed_none n flags = record { few = omega arith; goes = λ es matched h m. refl }

module _ (n : ℕ) (flags : List ℕ) (k : ℕ) (p : Passed n flags k) where
  module _ (l : k < n) (h : 64 * n ≤ length flags) where
    pub passed_off : get_or flags (64 * k) 0 ≡ 0 → JudgesEntries n flags (Err (Absent k))
    unfolding entry_conditions answered broken
    passed_off z es matched e m =
        let y : 64 * k + 0 ≡ 64 * k = omega arith in
        let a : is_matched k 0 matched ≡ false = flag_unset flags matched m k 0 (omega arith) (omega arith) (rw y z) in
        sym (p.goes es matched e m ∙ rw (drop-cons es k blank (omega arith), a))

    pub passed_on : (get_or flags (64 * k) 0 ≡ 0 → ⊥) → Passed n flags (k + 1)
    unfolding entry_conditions answered broken
    passed_on z = record {
      few = omega arith;
      goes = λ es matched e m.
          let y : 64 * k + 0 ≡ 64 * k = omega arith in
          let a : is_matched k 0 matched ≡ true = flag_set flags matched m k 0 (omega arith) (omega arith) (rw y z) in
          p.goes es matched e m ∙ rw (drop-cons es k blank (omega arith), a, add-one k);
    }

  pub passed-all : n ≤ k → JudgesEntries n flags (Ok tt)
  unfolding entry_conditions answered broken
  passed-all l es matched e m = sym (p.goes es matched e m ∙ rw (drop_of_length-le es {i = k} (omega arith)))
