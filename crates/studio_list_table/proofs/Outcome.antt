-- What a list leaves: the same records, of which there may be none, as numbers in the row and one by one in the table.
use Rattle.studio_rules.specs.declared.Counts.{Counts}
use Rattle.shared_words.specs.declared.Refusal.{Refusal}
use Rattle.std.specs.Prelude.{Result, Ok, Err}
use mathlib.Core.Path.{◌≡◌, refl, sym, ap, ◌∙◌}
use mathlib.Core.Bool.{Bool, true, false}
use mathlib.Core.List.{List, [], ◌∷◌, ◌++◌}
use Prim.Native.Nat.{ℕ, zero, suc, ◌+◌, ◌*◌, ◌/◌, ◌≤◌, ◌<◌, min}
use native.Mathlib.Nat.{min_comm, mul-suc}
use native.Mathlib.Numerals.{towards_suc, add-one}
use native.Mathlib.Omega.{arith}
use lib.Dec.{leb}
use lib.ListN.{length, get_or, set, take, drop}
use lib.Seq.{take-suc, length-take-le, take-length}
use borrow.Author.Tests.{leb-true}
use Rattle.studio_rules.specs.declared.Record.{Record}
use Rattle.shared_words.specs.declared.Refusal.TheVariants.{NoRoom}
use Rattle.studio_rules.specs.Layout.{Run, figure}
use Rattle.shared_words.specs.Conditions.{Answer, refused, accepted}
use Rattle.studio_rules.specs.Walk.{verdict}
use Rattle.studio_rules.specs.Gives.{record_numbers, record_count, list, flat}
use Rattle.shared_words.specs.Encodings.{beside, plain_row}
use Rattle.studio_rules.specs.Encodings.{flat_records}
use Rattle.shared_words.specs.Effects.{Effect, leaving, filled}
use Rattle.studio_rules.specs.Calls.{counts_of, list_of, list_call}
use Rattle.studio_rules.proofs.Jumps.{length-records}
use Rattle.shared_words.proofs.Effects.{fill-at}
use Rattle.studio_list_table.specs.Numbers.{record_no, taken}

-- record number i of a flat row that begins with records
nth : (rs : List Record) (more : List ℕ) (i : ℕ) (d : Record) → i < length rs → record_no (flat rs ++ more) i ≡ get_or rs i d
nth [] more i d h = absurd (omega arith)
nth (r ∷ rs) more zero d h = refl
nth (r ∷ rs) more (suc i) d h = simp (mul-suc, towards_suc) (simp towards_suc at (nth rs more i d (omega arith)))

-- the records that a list has left: as numbers in the row, which is row' now, and in the table as the effect x has them
pub record Outcome (row : List ℕ) (table : List Record) (answer : Result Counts Refusal) (row' : List ℕ) (x : Effect (Result Counts Refusal) (List Record)) : Type 0 where
  pub records : List Record
  pub counted : taken answer ≡ length records
  pub numbers : row' ≡ filled (flat records) row
  pub row_fits : record_numbers * length records ≤ length row
  pub table_fits : length records ≤ length table
  pub answers : answer ≡ x.answer
  pub fills : filled records table ≡ x.rows

module _ {row : List ℕ} {table : List Record} {answer : Result Counts Refusal} {row' : List ℕ} where
  leaves : (rs : List Record) (a : Result Counts Refusal) → taken a ≡ length rs → record_numbers * length rs ≤ length row → length rs ≤ length table → leaving answer row' ≡ leaving a (filled (flat rs) row) →
      Outcome row table answer row' (leaving a (filled rs table))
  leaves rs a n h k e = record {
    records = rs;
    counted = ap (λ (x : Effect (Result Counts Refusal) (List ℕ)). taken x.answer) e ∙ n;
    numbers = ap (λ (x : Effect (Result Counts Refusal) (List ℕ)). x.rows) e;
    row_fits = h;
    table_fits = k;
    answers = ap (λ (x : Effect (Result Counts Refusal) (List ℕ)). x.answer) e;
    fills = refl;
  }

  -- an accepted file, with room or without
  judged : (kids : Run) (t : Bool) → leb (record_count (figure kids)) (min (length table) (length row / record_numbers)) ≡ t → leaving answer row' ≡ list_of (beside (length table) flat_records) row (accepted kids) →
      Outcome row table answer row' (list_of (beside (length row / record_numbers) plain_row) table (accepted kids))
  judged kids false h e = rw (min_comm (length row / record_numbers) (length table), h) (leaves [] (Err (NoRoom (record_count (figure kids)))) refl (omega arith) (omega arith) (rw h at e))
  judged kids true h e =
      let n = length-records 0 0 0 0 (figure kids) in
      let m = leb-true (record_count (figure kids)) (min (length table) (length row / record_numbers)) h in
      rw (min_comm (length row / record_numbers) (length table), h) (leaves (list kids) (Ok (counts_of kids)) (sym n) (omega arith) (omega arith) (rw h at e))

  at-outcome : (v : Answer Run) → leaving answer row' ≡ list_of (beside (length table) flat_records) row v → Outcome row table answer row' (list_of (beside (length row / record_numbers) plain_row) table v)
  at-outcome (refused r) = leaves [] (Err r) refl (omega arith) (omega arith)
  at-outcome (accepted kids) = judged kids (leb (record_count (figure kids)) (min (length table) (length row / record_numbers))) refl

  pub outcome : (s : List ℕ) → leaving answer row' ≡ list_call (beside (length table) flat_records) s row → Outcome row table answer row' (list_call (beside (length row / record_numbers) plain_row) s table)
  unfolding list_call
  outcome s = at-outcome (verdict s)

  module _ {x : Effect (Result Counts Refusal) (List Record)} (o : Outcome row table answer row' x) where
    -- one record more
    pub one_more : (i : ℕ) → i < length o.records → set (filled (take i o.records) table) i (record_no row' i) ≡ filled (take (i + 1) o.records) table
    one_more i h =
        let d = record_no [] 0 in
        let l : i ≤ length o.records = omega arith in
        rw (add-one i, take-suc o.records i d h, o.numbers, nth o.records (drop (length (flat o.records)) row) i d h)
        (fill-at (take i o.records) table (get_or o.records i d) i (length-take-le i o.records l) (omega (arith, o.table_fits)))

    -- all of them
    pub all_there : filled (take (length o.records) o.records) table ≡ x.rows
    all_there = rw (take-length o.records) o.fills
