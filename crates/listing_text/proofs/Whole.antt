-- What `studio_list::list` answers with room for 1,024 records, and the listing that is printed of it.
use Rattle.std.specs.Prelude.{Ok, Err}
use mathlib.Core.Path.{◌≡◌, refl, sym, ap, ◌∙◌}
use mathlib.Core.Bool.{Bool, true, false, cond}
use mathlib.Core.List.{List, ◌++◌}
use Prim.Native.Nat.{ℕ, ◌/◌, ◌≤◌}
use native.Mathlib.Omega.{arith}
use lib.Dec.{leb}
use lib.ListN.{length, drop}
use borrow.Author.Tests.{leb-true}
use Rattle.shared_words.specs.declared.Refusal.{Refusal}
use Rattle.shared_words.specs.declared.Refusal.TheVariants.{NoRoom}
use Rattle.studio_rules.specs.declared.Record.{Record}
use Rattle.studio_rules.specs.declared.Counts.{Counts}
use Rattle.studio_rules.specs.Layout.{Run, figure}
use Rattle.shared_words.specs.Conditions.{Answer, refused, accepted}
use Rattle.studio_rules.specs.Walk.{verdict}
use Rattle.studio_rules.specs.Gives.{record_numbers, record_count, list, flat}
use Rattle.studio_rules.specs.Encodings.{flat_records}
use Rattle.shared_words.specs.Effects.{leaving, filled}
use Rattle.studio_rules.specs.Calls.{counts_of, list_of, list_call}
use Rattle.studio_rules.proofs.Jumps.{length-records}
use Rattle.listing_text.specs.Lines.{refusal_line, counts_line, lines, row_lines}
use Rattle.listing_text.specs.Listing.{listing_of, listing}
use Rattle.listing_text.proofs.Rows.{lines-flat}

-- what is printed of an accepted file whose records are in the row
pub record Shown (s row : List ℕ) (counts : Counts) : Type 0 where
  pub is : listing s ≡ counts_line (length s) counts ++ row_lines counts.records row
  pub few : counts.records ≤ 1024

module _ (row : List ℕ) (room : length row / record_numbers ≡ 1024) where
  no-room-of : (size : ℕ) (kids : Run) (r : Refusal) (t : Bool) →
      (cond t (leaving (Ok (counts_of kids)) (filled (flat (list kids)) row)) (leaving (Err (NoRoom (record_count (figure kids)))) row)).answer ≡ Err r →
      cond t (counts_line size (counts_of kids) ++ lines (list kids)) (refusal_line (NoRoom (record_count (figure kids)))) ≡ refusal_line r
  no-room-of size kids r true e = absurd (let z : ◌≡◌ {A = ℕ} 0 1 = cc in omega arith)
  no-room-of size kids r false e = let p : NoRoom (record_count (figure kids)) ≡ r = cc in ap refusal_line p

  refused-of : (size : ℕ) (a : Answer Run) (r : Refusal) → (list_of flat_records row a).answer ≡ Err r → listing_of size a ≡ refusal_line r
  refused-of size (refused q) r e = let p : q ≡ r = cc in ap refusal_line p
  refused-of size (accepted kids) r e = no-room-of size kids r (leb (record_count (figure kids)) 1024) (rw room at e)

  -- a refused file, or one with too many records
  pub refused-shown : (s : List ℕ) (r : Refusal) → (list_call flat_records s row).answer ≡ Err r → listing s ≡ refusal_line r
  unfolding listing list_call
  refused-shown s r e = refused-of (length s) (verdict s) r e

  row-lines : (rs : List Record) (n : ℕ) → length rs ≡ n → row_lines n (filled (flat rs) row) ≡ lines rs
  row-lines rs n e = rw (← e) (lines-flat rs (drop (length (flat rs)) row))

  filled_of : (size : ℕ) (kids : Run) (counts : Counts) (t : Bool) → leb (record_count (figure kids)) 1024 ≡ t →
      (cond t (leaving (Ok (counts_of kids)) (filled (flat (list kids)) row)) (leaving (Err (NoRoom (record_count (figure kids)))) row)).answer ≡ Ok counts →
      (cond t (counts_line size (counts_of kids) ++ lines (list kids)) (refusal_line (NoRoom (record_count (figure kids)))) ≡
      counts_line size counts ++ row_lines counts.records (cond t (leaving (Ok (counts_of kids)) (filled (flat (list kids)) row)) (leaving (Err (NoRoom (record_count (figure kids)))) row)).rows) ×
      (counts.records ≤ 1024)
  filled_of size kids counts true h e =
      let k : counts_of kids ≡ counts = cc in
      let n : record_count (figure kids) ≡ counts.records = ap (λ (c : Counts). c.records) k in (
        ap (λ (c : Counts). counts_line size c ++ lines (list kids)) k ∙
            ap (λ (l : List ℕ). counts_line size counts ++ l) (sym (row-lines (list kids) counts.records (length-records 0 0 0 0 (figure kids) ∙ n))),
        omega (arith, leb-true (record_count (figure kids)) 1024 h),
      )
  filled_of size kids counts false h e = absurd (let z : ◌≡◌ {A = ℕ} 0 1 = cc in omega arith)

  accepted-of : (size : ℕ) (a : Answer Run) (counts : Counts) → (list_of flat_records row a).answer ≡ Ok counts →
      (listing_of size a ≡ counts_line size counts ++ row_lines counts.records (list_of flat_records row a).rows) × (counts.records ≤ 1024)
  accepted-of size (refused q) counts e = absurd (let z : ◌≡◌ {A = ℕ} 0 1 = cc in omega arith)
  accepted-of size (accepted kids) counts e =
      rw room (filled_of size kids counts (leb (record_count (figure kids)) 1024) refl (rw room at e))

  -- an accepted file whose records have room
  pub accepted-shown : (s after : List ℕ) (counts : Counts) → (list_call flat_records s row).answer ≡ Ok counts → after ≡ (list_call flat_records s row).rows → Shown s after counts
  unfolding listing list_call
  accepted-shown s after counts e f =
      let both = accepted-of (length s) (verdict s) counts e in
      record { is = rw f both.0; few = both.1 }
