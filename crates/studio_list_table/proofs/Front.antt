-- The list in the front of a row, where the front has as much room as is allowed: it is the list in the whole row.
use Rattle.studio_rules.specs.declared.Counts.{Counts}
use Rattle.shared_words.specs.declared.Refusal.{Refusal}
use Rattle.std.specs.Prelude.{Result}
use mathlib.Core.Path.{◌≡◌, refl, sym, ap, ◌∙◌}
use mathlib.Core.Bool.{Bool, true, false}
use mathlib.Core.List.{List, ◌++◌, append_assoc}
use Prim.Native.Nat.{ℕ, ◌/◌, ◌≤◌, min}
use native.Mathlib.Omega.{arith}
use lib.Dec.{leb}
use lib.ListN.{length, take, drop, take-append-drop}
use lib.Seq.{length-take-le, drop-append-le}
use borrow.Author.Tests.{leb-true}
use Rattle.studio_rules.specs.Layout.{Run, figure}
use Rattle.shared_words.specs.Conditions.{Answer, refused, accepted}
use Rattle.studio_rules.specs.Walk.{verdict}
use Rattle.studio_rules.specs.Gives.{record_numbers, record_count, list, flat}
use Rattle.shared_words.specs.Encodings.{beside}
use Rattle.studio_rules.specs.Encodings.{flat_records}
use Rattle.shared_words.specs.Effects.{leaving, filled}
use Rattle.studio_rules.specs.Calls.{list_of, list_call}
use Rattle.studio_list_rows.proofs.Rows.{flat_even}
use Rattle.studio_rules.proofs.Jumps.{length-records}

-- numbers that fit into the front of a row
filled-front : (new row : List ℕ) (end : ℕ) → length new ≤ end → end ≤ length row → filled new (take end row) ++ drop end row ≡ filled new row
filled-front new row end h l =
    let k : length new ≤ length (take end row) = omega (arith, length-take-le end row l) in
    append_assoc new (drop (length new) (take end row)) (drop end row) ∙ ap (λ (x : List ℕ). new ++ x) (sym (drop-append-le (length new) (take end row) (drop end row) k) ∙ ap (drop (length new)) (take-append-drop end row))

module _ (s row : List ℕ) (room end : ℕ) (l : end ≤ length row) (e : end / record_numbers ≡ min room (length row / record_numbers)) where
  -- an accepted file, with room or without
  in_front : (kids : Run) (t : Bool) → leb (record_count (figure kids)) (min room (length row / record_numbers)) ≡ t →
      leaving (list_of flat_records (take end row) (accepted kids)).answer ((list_of flat_records (take end row) (accepted kids)).rows ++ drop end row) ≡ list_of (beside room flat_records) row (accepted kids)
  in_front kids false h = rw (length-take-le end row l, e, h, take-append-drop end row)
  in_front kids true h =
      let fits : length (flat (list kids)) ≤ end = omega (arith, leb-true (record_count (figure kids)) (min room (length row / record_numbers)) h, length-records 0 0 0 0 (figure kids), flat_even.size (list kids)) in
      rw (length-take-le end row l, e, h, filled-front (flat (list kids)) row end fits l)

  at_front : (v : Answer Run) → leaving (list_of flat_records (take end row) v).answer ((list_of flat_records (take end row) v).rows ++ drop end row) ≡ list_of (beside room flat_records) row v
  at_front (refused r) = rw (take-append-drop end row)
  at_front (accepted kids) = in_front kids (leb (record_count (figure kids)) (min room (length row / record_numbers))) refl

  pub front-list : {answer : Result Counts Refusal} {part : List ℕ} → answer ≡ (list_call flat_records s (take end row)).answer → part ≡ (list_call flat_records s (take end row)).rows →
      leaving answer (part ++ drop end row) ≡ list_call (beside room flat_records) s row
  unfolding list_call
  front-list p q = rw (p, q) (at_front (verdict s))
