-- The rows' conditions as the loop meets them: after i good rows, what is left of the conditions answers for all, and what is
-- left of the bytes is what the size still lacks.
use mathlib.Core.Path.{◌≡◌, refl, sym, ap, ◌∙◌}
use Prim.Native.Nat.{ℕ, zero, suc, ◌+◌, ◌-◌, ◌*◌, ◌/◌, ◌<◌, ◌≤◌}
use native.Mathlib.Numerals.{add-one}
use native.Mathlib.Omega.{arith}
use mathlib.Core.Bool.{Bool, true, false}
use mathlib.Core.List.{List, [], ◌∷◌}
use mathlib.Core.Option.{some}
use lib.Dec.{ltb}
use lib.ListN.{length, drop, length-append}
use lib.Seq.{drop-drop}
use borrow.Author.Count.{below_more}
use Rattle.shared_words.specs.declared.Refusal.TheVariants.{Slip}
use Rattle.shared_words.specs.Conditions.{Condition, broken}
use Rattle.slip_rules.specs.declared.Numbers.{Numbers}
use Rattle.slip_rules.specs.Slip.{behind_name, entry_bytes, all_bytes, bytes}
use Rattle.slip_rules.specs.Rules.{is_named, sums_proper, not_twice, most_entries}
use Rattle.slip_rules.specs.Calls.{entries_from, rows_in, given_bytes, within, row_conditions}
use Rattle.slip_rules.proofs.Tests.{all_hold, one_fails}
use Rattle.slip_write_judge.specs.Rows.{row_no, entry_no, rows_from, names_from, Inside, AllInside, good_row}
use Rattle.slip_write_judge.specs.Judged.{AllGood}
use Rattle.slip_write_judge.proofs.Rows.{name-long, names_then}

-- ---- rows by their numbers are the rows given

rows_are : (k : ℕ) (s : List ℕ) (i : ℕ) → rows_in k (drop (16 * i) s) ≡ rows_from k s i
rows_are zero s i = refl
rows_are (suc k) s i =
    let q : 16 * i + 16 ≡ 16 * suc i = omega arith in
    ap (λ (ns : List Numbers). row_no s i ∷ ns)
    (ap (rows_in k) (drop-drop 16 (16 * i) s ∙ ap (λ (j : ℕ). drop j s) q) ∙ rows_are k s (suc i))

pub given-rows : (s : List ℕ) → (given_bytes s).rows ≡ rows_from (length s / 16) s 0
given-rows s = rows_are (length s / 16) s 0

-- ---- the conditions of one row

abbrev tests : List ℕ → List ℕ → ℕ → List Bool
tests names s i =
    ltb i most_entries ∷ within names (row_no s i) ∷ is_named (entry_no names s i) ∷ sums_proper (entry_no names s i) ∷
    not_twice (names_from names i s 0) (entry_no names s i) ∷ []

module _ (names s : List ℕ) (i : ℕ) (later : List Condition) where
  row-bad : (k : ℕ) → 0 < k → good_row names s i ≡ false → broken (row_conditions names (names_from names i s 0) i (rows_from k s i) later) ≡ some (Slip i)
  unfolding good_row
  row-bad zero p e = absurd (omega arith)
  row-bad (suc k) p e =
      one_fails (tests names s i) (Slip i) _ e

  row-good : (k : ℕ) → 0 < k → good_row names s i ≡ true →
      broken (row_conditions names (names_from names i s 0) i (rows_from k s i) later) ≡
      broken (row_conditions names (names_from names (suc i) s 0) (suc i) (rows_from (k - 1) s (suc i)) later)
  unfolding good_row
  row-good zero p e = absurd (omega arith)
  row-good (suc k) p e =
      let q : suc k - 1 ≡ k = omega arith in
      all_hold (tests names s i) (Slip i) _ e ∙ rw (q, names_then names i s)

-- the bytes of one row
pub row-size : (names s : List ℕ) (i k : ℕ) → 0 < k → Inside names s i →
    length (all_bytes (entries_from names (rows_from k s i))) ≡ 7 + (row_no s i).len + length (all_bytes (entries_from names (rows_from (k - 1) s (suc i))))
row-size names s i zero p h = absurd (omega arith)
row-size names s i (suc k) p h =
    let q : suc k - 1 ≡ k = omega arith in
    let e = entry_no names s i in
    rw q (omega (arith, name-long names (row_no s i) h, length-append (entry_bytes e) (all_bytes (entries_from names (rows_from k s (suc i)))), length-append e.name (behind_name e)))

-- ---- the loop

pub record On (names s : List ℕ) (n size i : ℕ) : Type 0 where
  pub few : i ≤ n
  pub under : i ≤ most_entries
  pub inside : AllInside names s i
  pub small : size ≤ 7 + 262 * i
  pub goes : (later : List Condition) →
      broken (row_conditions names [] 0 (rows_from n s 0) later) ≡ broken (row_conditions names (names_from names i s 0) i (rows_from (n - i) s i) later)
  pub sized : length (bytes (entries_from names (rows_from n s 0))) ≡ size + length (all_bytes (entries_from names (rows_from (n - i) s i)))

pub on-start : (names s : List ℕ) (n : ℕ) → On names s n 7 0
on-start names s n =
    let q : n - 0 ≡ n = omega arith in
    record { few = omega arith; under = omega arith; inside = λ j l. absurd (omega arith); small = omega arith; goes = λ later. rw q; sized = rw q (omega arith) }

module _ (names s : List ℕ) (n size i : ℕ) (on : On names s n size i) where
  pub on-bad : i < n → good_row names s i ≡ false → (later : List Condition) → broken (row_conditions names [] 0 (rows_from n s 0) later) ≡ some (Slip i)
  on-bad l e later = on.goes later ∙ row-bad names s i later (n - i) (omega arith) e

  pub on-more : i < n → good_row names s i ≡ true → Inside names s i → (row_no s i).len ≤ 255 → i < most_entries → On names s n (size + (7 + (row_no s i).len)) (i + 1)
  on-more l e h k u =
      let q : n - i - 1 ≡ n - suc i = omega arith in
      let z = row-size names s i (n - i) (omega arith) h in
      rw (add-one i) record {
        few = omega arith;
        under = omega arith;
        inside = rw (add-one i) at (below_more (Inside names s) i on.inside h);
        small = omega (arith, on.small);
        goes = λ later. on.goes later ∙ row-good names s i later (n - i) (omega arith) e ∙ rw q;
        sized = rw (← q) (omega (arith, on.sized));
      }

  pub on-end : i ≡ n → n ≡ length s / 16 → AllGood names s size
  on-end e m =
      let q : n - i ≡ 0 = omega arith in
      let r : (given_bytes s).rows ≡ rows_from n s 0 = given-rows s ∙ ap (λ (k : ℕ). rows_from k s 0) (sym m) in
      record {
        passes = λ later. rw r (on.goes later ∙ rw q);
        sized = rw r (on.sized ∙ rw q (omega arith));
        inside = rw (← m, ← e) on.inside;
      }
