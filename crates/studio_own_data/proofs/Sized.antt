-- Own data that was found in the file, and how long it is: what each test of the code then says of the conditions.
use mathlib.Core.Path.{◌≡◌, refl, sym, ap, ◌∙◌, subst}
use mathlib.Core.Bool.{Bool, true, false, not, ◌||◌}
use mathlib.Core.List.{List}
use Prim.Native.Nat.{ℕ, ◌+◌, ◌-◌, ◌≤◌}
use native.Mathlib.Omega.{arith}
use lib.Dec.{leb}
use lib.ListN.{length, take, drop, take-append-drop}
use lib.Seq.{slice, length-slice}
use borrow.Author.Tests.{not-true, not-false, le-leb, lt-leb, leb-true, leb-false}
use Rattle.shared_words.specs.declared.Refusal.TheVariants.{Length, Number, Index, Father}
use Rattle.studio_rules.specs.Table.{Shape, counted, named_words, named, rows, listed, shape, plus}
use Rattle.studio_rules.specs.OwnData.{own_size, name_fits}
use Rattle.studio_rules.specs.Rules.{Parent, numbers_finite, face_numbers_below, father_earlier}
use Rattle.studio_rules.proofs.OwnSize.{own_size_less}
use Rattle.shared_numbers.proofs.Slices.{take-slice}
use Rattle.studio_row.specs.Packed.{row_of, plus_in, shape_in}
use Rattle.studio_row.proofs.Facts.{plus-is, shape_is}
use Rattle.studio_own_size.specs.declared.Flaw.{Flaw}
use Rattle.studio_own_size.specs.Own.{Fits, FitIs}
use Rattle.studio_own_data.specs.Judges.{Exact, Judges}
use Rattle.studio_own_data.proofs.Conditions.{judge_left_over, judge_number, judge_index, judge_father, judge_fine}
use Rattle.std.specs.Prelude.{Result, Ok, Err}

-- what was found of the row's shape is so of the identifier's
module _ (id row : ℕ) (l : listed id ≡ true) (e : row ≡ row_of id) (around body : List ℕ) (r : Result ℕ Flaw) (found : FitIs (shape_in row) around body r) where
  pub own_of_row : (x : Result ℕ Flaw) → r ≡ x → FitIs (shape id) around body x
  own_of_row x f = subst (FitIs (shape id) around body) f (subst (λ (sh : Shape). FitIs sh around body r) (ap shape_in e ∙ shape_is id l) found)

-- a listed chunk from at to stop, whose own data takes k bytes
pub record Sized (s : List ℕ) (at stop id row : ℕ) (around : List ℕ) (k : ℕ) : Type 0 where
  pub order : at + 6 ≤ stop
  pub stays : stop ≤ length s
  pub known : listed id ≡ true
  pub row_is : row ≡ row_of id
  pub label : name_fits (shape id) (slice (at + 6) stop s) ≡ true
  pub fits : Fits (shape id) around (slice (at + 6) stop s) k

pub sized : {at stop id row : ℕ} → at + 6 ≤ stop → {s : List ℕ} → stop ≤ length s → listed id ≡ true → row ≡ row_of id →
    (around : List ℕ) (r : Result ℕ Flaw) → FitIs (shape_in row) around (slice (at + 6) stop s) r → {k : ℕ} → r ≡ Ok k → Sized s at stop id row around k
sized o l m e around r found f =
    let own = own_of_row _ _ m e around _ r found _ f in
    record { order = o; stays = l; known = m; row_is = e; label = own.0; fits = own.1 }

module _ {s : List ℕ} {at stop id row : ℕ} {around : List ℕ} {k : ℕ} (z : Sized s at stop id row around k) where
  pub own_ends : at + 6 + k ≤ stop
  own_ends = omega (arith, length-slice (at + 6) stop s z.stays, z.fits.within, z.order)

  own_is : take k (slice (at + 6) stop s) ≡ slice (at + 6) (at + 6 + k) s
  own_is = take-slice k (at + 6) stop s own_ends

  own_length : length (slice (at + 6) (at + 6 + k) s) ≡ k
  own_length = length-slice (at + 6) (at + 6 + k) s (omega (arith, own_ends, z.stays)) ∙ omega arith

  -- it is just as long as its shape says
  own_exact : own_size (shape id) around (slice (at + 6) (at + 6 + k) s) ≡ length (slice (at + 6) (at + 6 + k) s)
  own_exact =
      own_size_less (shape id) around (slice (at + 6) (at + 6 + k) s) (drop k (slice (at + 6) stop s))
      (rw (← own_is, take-append-drop k (slice (at + 6) stop s), own_is, own_length) (sym z.fits.is))

  shape_at : (x : ℕ) (sh : Shape) → shape x ≡ sh → id ≡ x → own_size sh around (slice (at + 6) (at + 6 + k) s) ≡ length (slice (at + 6) (at + 6 + k) s)
  shape_at x sh e i = rw (← e, ← i) own_exact

  pub exact : Exact id (slice (at + 6) (at + 6 + k) s)
  unfolding shape rows
  exact = record {
    vertices = λ i. sym (shape_at 0x4110 (counted 12) refl i);
    pairs = λ i. sym (shape_at 0x4140 (counted 8) refl i);
    words = λ i. sym (shape_at 0x4130 named_words refl i);
    father = λ i. sym (shape_at 0xB010 (named 6) refl i);
  }

  -- bytes are left behind it just where the chunk goes on
  left-over-is : (plus id || leb (length (slice (at + 6) stop s)) k) ≡ (plus_in row || leb stop (at + 6 + k))
  left-over-is = rw (length-slice (at + 6) stop s z.stays, z.row_is, plus-is id z.known) (ap (λ (b : Bool). plus id || b) (go (leb stop (at + 6 + k)) refl))
    where
      go : (b : Bool) → leb stop (at + 6 + k) ≡ b → leb (stop - (at + 6)) k ≡ b
      go true h = le-leb (stop - (at + 6)) k (omega (arith, leb-true stop (at + 6 + k) h))
      go false h = lt-leb (stop - (at + 6)) k (omega (arith, leb-false stop (at + 6 + k) h))

-- the conditions, by the tests of the code
module _ (p : Parent) {s : List ℕ} {at stop id row k : ℕ} (z : Sized s at stop id row p.own k) where
  pub is-left-over : not (plus_in row || leb stop (at + 6 + k)) ≡ true → Judges p at id (slice (at + 6) stop s) (Err (Length at))
  is-left-over l = judge_left_over p at id (slice (at + 6) stop s) k z.label z.fits (left-over-is z ∙ not-true _ l)

  module _ (l : not (plus_in row || leb stop (at + 6 + k)) ≡ false) where
    whole : (plus id || leb (length (slice (at + 6) stop s)) k) ≡ true
    whole = left-over-is z ∙ not-false _ l

    finite_as : {b : Bool} → numbers_finite p id (slice (at + 6) (at + 6 + k) s) ≡ b → numbers_finite p id (take k (slice (at + 6) stop s)) ≡ b
    finite_as e = ap (λ (own : List ℕ). numbers_finite p id own) (own_is z) ∙ e

    below_as : {b : Bool} → face_numbers_below p id (slice (at + 6) (at + 6 + k) s) ≡ b → face_numbers_below p id (take k (slice (at + 6) stop s)) ≡ b
    below_as e = ap (λ (own : List ℕ). face_numbers_below p id own) (own_is z) ∙ e

    pub has_bad_number : numbers_finite p id (slice (at + 6) (at + 6 + k) s) ≡ false → Judges p at id (slice (at + 6) stop s) (Err (Number at))
    has_bad_number n = judge_number p at id (slice (at + 6) stop s) k z.label z.fits whole (finite_as n)

    module _ (n : numbers_finite p id (slice (at + 6) (at + 6 + k) s) ≡ true) where
      pub has_bad_index : face_numbers_below p id (slice (at + 6) (at + 6 + k) s) ≡ false → Judges p at id (slice (at + 6) stop s) (Err (Index at))
      has_bad_index b = judge_index p at id (slice (at + 6) stop s) k z.label z.fits whole (finite_as n) (below_as b)

      module _ (b : face_numbers_below p id (slice (at + 6) (at + 6 + k) s) ≡ true) where
        father_as : {b : Bool} → father_earlier p id (slice (at + 6) (at + 6 + k) s) ≡ b → father_earlier p id (take k (slice (at + 6) stop s)) ≡ b
        father_as e = ap (λ (own : List ℕ). father_earlier p id own) (own_is z) ∙ e

        pub has_bad_father : father_earlier p id (slice (at + 6) (at + 6 + k) s) ≡ false → Judges p at id (slice (at + 6) stop s) (Err (Father at))
        has_bad_father f = judge_father p at id (slice (at + 6) stop s) k z.label z.fits whole (finite_as n) (below_as b) (father_as f)

        pub is_fine : father_earlier p id (slice (at + 6) (at + 6 + k) s) ≡ true → Judges p at id (slice (at + 6) stop s) (Ok k)
        is_fine f = judge_fine p at id (slice (at + 6) stop s) k z.label z.fits whole (finite_as n) (below_as b) (father_as f)
