-- The whole file: the layout that the check accepts stands in it, and its records in the row are what the list call gives.
use Rattle.std.specs.Prelude.{Result, Ok, Err}
use mathlib.Core.Path.{◌≡◌, refl, sym, ap, ◌∙◌}
use mathlib.Core.Bool.{Bool, true, false}
use mathlib.Core.List.{List, [], ◌++◌}
use Prim.Native.Nat.{ℕ, ◌+◌, ◌*◌, ◌≤◌, ◌<◌}
use native.Mathlib.Nat.{zero-add, mul-zero, mul-le-mul_left}
use native.Mathlib.Omega.{arith}
use lib.Dec.{leb}
use lib.ListN.{length, drop}
use lib.Seq.{sets, sets-eq, take-length}
use borrow.Author.Tests.{le-leb, lt-leb, leb-true}
use Rattle.studio_rules.specs.declared.Record.{Record}
use Rattle.shared_words.specs.declared.Refusal.{Refusal}
use Rattle.shared_words.specs.declared.Refusal.TheVariants.{NoRoom}
use Rattle.studio_rules.specs.declared.Counts.{Counts}
use Rattle.shared_words.specs.Bytes.{Bytes}
use Rattle.studio_rules.specs.Layout.{Run, figure}
use Rattle.studio_rules.specs.Rules.{file, version}
use Rattle.studio_rules.specs.Parses.{in_file}
use Rattle.studio_rules.proofs.Parses.{parses}
use Rattle.studio_rules.specs.Gives.{record_count, list}
use Rattle.shared_words.specs.Conditions.{Answer, refused, accepted}
use Rattle.studio_rules.specs.Walk.{verdict}
use Rattle.shared_words.specs.Encodings.{Encoding}
use Rattle.shared_words.specs.Effects.{Effect, leaving, filled}
use Rattle.studio_rules.specs.Calls.{check_of, check_call, list_of, list_call}
use Rattle.studio_check.proofs.Accepted.{Accepted, meets-by}
use Rattle.studio_list_rows.specs.Lent.{Lent, Room, written}
use Rattle.studio_list_walk.specs.Laid.{Laid, Bounds, Listed}
use Rattle.studio_list.specs.Rows.{rows_of, list_rows}
use Rattle.studio_list_rows.proofs.Rows.{Even, room_less}
use Rattle.studio_rules.proofs.Jumps.{length-records}

-- ---- a refused file

pub rows-refused : (s : List ℕ) (room : ℕ) (l : Lent) (r : Refusal) → check_call s ≡ Err r → leaving (Err r) l ≡ list_rows s room l
unfolding check_call list_rows
rows-refused s room l r = go (verdict s)
  where
    go : (a : Answer Run) → check_of a ≡ Err r → leaving (Err r) l ≡ rows_of room l a
    go (refused x) e = ap (λ (c : Result Counts Refusal). leaving c l) (sym e)
    go (accepted kids) e = absurd (let z : ◌≡◌ {A = ℕ} 0 1 = cc in omega arith)

-- ---- an accepted file

module _ {s : List ℕ} {counts : Counts} (a : Accepted s counts) where
  records_are : counts.records ≡ record_count (figure a.kids)
  records_are = ap (λ (x : Counts). x.records) a.counts_are

  module _ (b : Bytes s) where
    pub whole-laid : Laid s 0 (length s) in_file (figure a.kids)
    whole-laid =
        let m = meets-by b a in record {
          stands = record { order = omega arith; stays = omega arith; small = omega (arith, m.within-limit); is = m.is ∙ sym (take-length s) };
          parses = parses (file (version a.kids)) [] (figure a.kids) m.chunks;
        }

    pub whole-bounds : Bounds s 0 (length s) 0 0 0
    whole-bounds = record { ends = omega arith; short = (meets-by b a).within-limit; deep = omega arith; over = omega arith; before = omega arith }

  module _ {room : ℕ} (l : Lent) where
    pub rows-no-room : room < counts.records → leaving (Err (NoRoom counts.records)) l ≡ list_rows s room l
    unfolding list_rows
    rows-no-room h = rw (a.verdict-is, records_are, lt-leb (record_count (figure a.kids)) room (omega (arith, records_are)))

    module _ (h : counts.records ≤ room) where
      pub whole_room : Room l room → Room l (0 + record_count (figure a.kids))
      whole_room = room_less refl refl (omega (arith, records_are))

      pub rows-filled : {l' : Lent} {r : ℕ} → Listed l 0 0 0 0 (figure a.kids) l' r → leaving (Ok counts) l' ≡ list_rows s room l
      unfolding list_rows
      rows-filled g = rw (a.verdict-is, le-leb (record_count (figure a.kids)) room (omega (arith, records_are)), g.fills, a.counts_are)

-- ---- one row in use

-- records from the front of a row that has room for them
module _ (e : Encoding Record ℕ) {k : ℕ} (even : Even k e.encode) (fits : (n : ℕ) → k * e.room n ≤ n) (row : List ℕ) where
  front : (rs : List Record) → length rs ≤ e.room (length row) → sets row (k * 0) (e.encode rs) ≡ filled (e.encode rs) row
  front rs h =
      let n = even.size rs in
      let z = fits (length row) in
      let m = mul-le-mul_left k h in
      ap (λ (i : ℕ). sets row i (e.encode rs)) (mul-zero k) ∙ sets-eq (e.encode rs) row 0 (omega arith) ∙ ap (λ (i : ℕ). e.encode rs ++ drop i row) (zero-add (length (e.encode rs)))

  -- what both rows are given is, in the row in use, what the call gives
  pub gives : (s : List ℕ) (l : Lent) (of : Lent → List ℕ) → ((rs : List Record) → of (written l 0 rs) ≡ sets row (k * 0) (e.encode rs)) → of l ≡ row →
      {answer : Result Counts Refusal} {l' : Lent} → leaving answer l' ≡ list_rows s (e.room (length row)) l → (answer ≡ (list_call e s row).answer) × (of l' ≡ (list_call e s row).rows)
  unfolding list_rows list_call
  gives s l of w u {answer} {l'} q =
      let z = go (verdict s) in
      (ap (λ (x : Effect (Result Counts Refusal) Lent). x.answer) q ∙ z.0, ap (λ (x : Effect (Result Counts Refusal) Lent). of x.rows) q ∙ z.1)
    where
      go : (v : Answer Run) → ((rows_of (e.room (length row)) l v).answer ≡ (list_of e row v).answer) × (of (rows_of (e.room (length row)) l v).rows ≡ (list_of e row v).rows)
      go (refused r) = (refl, u)
      go (accepted kids) = at (leb (record_count (figure kids)) (e.room (length row))) refl
        where
          at : (t : Bool) → leb (record_count (figure kids)) (e.room (length row)) ≡ t →
              ((rows_of (e.room (length row)) l (accepted kids)).answer ≡ (list_of e row (accepted kids)).answer) × (of (rows_of (e.room (length row)) l (accepted kids)).rows ≡ (list_of e row (accepted kids)).rows)
          at true h =
              let n : length (list kids) ≤ e.room (length row) = omega (arith, leb-true (record_count (figure kids)) (e.room (length row)) h, length-records 0 0 0 0 (figure kids)) in
              rw h (refl, w (list kids) ∙ front (list kids) n)
          at false h = rw h (refl, u)
