-- The judgement, by what the rows answer: then a part of an entry at the end, then the names, then the room.
use Rattle.std.specs.Prelude.{Ok, Err}
use mathlib.Core.Path.{◌≡◌, refl, ap, ◌∙◌}
use Prim.Native.Nat.{ℕ, zero, suc, ◌/◌, ◌%◌, ◌<◌, ◌≤◌}
use native.Mathlib.Omega.{arith}
use mathlib.Core.Bool.{not}
use mathlib.Core.List.{List, [], ◌∷◌}
use lib.Dec.{leb}
use lib.ListN.{length, drop}
use borrow.Author.Tests.{eq-eqb, ne_eqb, le-leb, lt-leb}
use Rattle.shared_words.specs.declared.Refusal.{Refusal}
use Rattle.shared_words.specs.declared.Refusal.TheVariants.{Slip, NoRoom, Text}
use Rattle.shared_words.specs.Lists.{first_fault}
use Rattle.shared_words.specs.Conditions.{Condition, must, broken}
use Rattle.shared_words.proofs.Conditions.{broken-here, broken-later, unbroken}
use Rattle.slip_rules.specs.Slip.{Entry, bytes}
use Rattle.slip_rules.specs.Rules.{is_labelled}
use Rattle.slip_rules.specs.Conditions.{label_conditions}
use Rattle.slip_rules.specs.Calls.{entries_from, rows_in, given_bytes, one_on}
use Rattle.slip_rules.proofs.Given.{length-entries}
use Rattle.slip_write_judge.specs.Rows.{rows_from}
use Rattle.slip_write_judge.specs.Judged.{size_unless, judged, AllGood, JudgesRows}
use Rattle.slip_write_judge.proofs.Judging.{given-rows}
use Rattle.slip_write_judge.proofs.Labels.{labels_unfit, labels_fit}

pub length-rows : (k : ℕ) (s : List ℕ) → length (rows_in k s) ≡ k
length-rows zero s = refl
length-rows (suc k) s = ap suc (length-rows k (drop 16 s))

module _ (names s : List ℕ) (room : ℕ) where
  pub judged-bad : (r : Refusal) → JudgesRows names s (Err r) → judged names (given_bytes s) room ≡ Err r
  unfolding judged
  judged-bad r h = ap (size_unless (length (bytes (entries_from names (given_bytes s).rows)))) (h _)

  abbrev entries : List Entry
  entries = entries_from names (given_bytes s).rows

  entries-count : length entries ≡ length s / 16
  entries-count = length-entries names (given_bytes s).rows ∙ length-rows (length s / 16) s

  module _ (size : ℕ) (h : AllGood names s size) where
    abbrev room_last : List Condition
    room_last = must (leb size room) (NoRoom size) ∷ []

    abbrev names_then_room : List Condition
    names_then_room = label_conditions one_on 0 entries room_last

    all-good : judged names (given_bytes s) room ≡ size_unless size (broken (must (not (given_bytes s).part) (Slip (length (given_bytes s).rows)) ∷ names_then_room))
    unfolding judged
    all-good =
        ap (size_unless (length (bytes entries))) (h.passes _) ∙
        ap (λ (k : ℕ). size_unless k (broken (must (not (given_bytes s).part) (Slip (length (given_bytes s).rows)) ∷ label_conditions one_on 0 entries (must (leb k room) (NoRoom k) ∷ [])))) h.sized

    pub judged-part : (length s % 16 ≡ 0 → ⊥) → judged names (given_bytes s) room ≡ Err (Slip (length s / 16))
    judged-part e =
        all-good ∙
        ap (size_unless size) (broken-here (not (given_bytes s).part) (Slip (length (given_bytes s).rows)) names_then_room (rw (ne_eqb (length s % 16) 0 e))) ∙
        ap (λ (k : ℕ). Err (Slip k)) (length-rows (length s / 16) s)

    -- u is the number of the first of n rows whose name does not fit
    module _ (e : length s % 16 ≡ 0) (u n : ℕ) (z : n ≡ length s / 16) (is : u ≡ first_fault is_labelled (entries_from names (rows_from n s 0))) where
      whole : broken (must (not (given_bytes s).part) (Slip (length (given_bytes s).rows)) ∷ names_then_room) ≡ broken names_then_room
      whole = broken-later (not (given_bytes s).part) (Slip (length (given_bytes s).rows)) names_then_room (rw (eq-eqb (length s % 16) 0 e))

      first-is : u ≡ first_fault is_labelled entries
      first-is = rw (given-rows s, ← z) is

      pub judged_unfit : u < n → judged names (given_bytes s) room ≡ Err (Text u)
      judged_unfit l =
          let f = first-is in
          let c = entries-count in
          all-good ∙ ap (size_unless size) (whole ∙ labels_unfit room_last 0 entries (omega arith)) ∙ ap (λ (k : ℕ). Err (Text k)) (omega arith)

      names_fit_lem : n ≤ u → broken names_then_room ≡ broken room_last
      names_fit_lem l =
          let f = first-is in
          let c = entries-count in
          labels_fit room_last 0 entries (omega arith)

      pub judged_small : n ≤ u → room < size → judged names (given_bytes s) room ≡ Err (NoRoom size)
      judged_small f l = all-good ∙ ap (size_unless size) (whole ∙ names_fit_lem f ∙ broken-here (leb size room) (NoRoom size) [] (lt-leb size room l))

      pub judged-size : n ≤ u → size ≤ room → judged names (given_bytes s) room ≡ Ok size
      judged-size f l = all-good ∙ ap (size_unless size) (whole ∙ names_fit_lem f ∙ unbroken room_last (le-leb size room l, tt))
