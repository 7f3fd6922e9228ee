-- The conditions of own data, in their order: the first that is broken, or none.
use mathlib.Core.Path.{◌≡◌, refl, sym, ap, ◌∙◌, subst}
use mathlib.Core.Bool.{Bool, true, false, ◌||◌}
use mathlib.Core.List.{List, []}
use mathlib.Core.Option.{Option, none, some}
use Prim.Native.Nat.{ℕ, ◌+◌, ◌-◌, ◌≤◌, ◌<◌}
use native.Mathlib.Omega.{arith}
use lib.Dec.{leb}
use lib.ListN.{length, take, drop}
use lib.Seq.{slice, length-slice}
use borrow.Author.Tests.{le-leb, lt-leb, leb-true, leb-false}
use Rattle.shared_words.specs.declared.Refusal.{Refusal}
use Rattle.shared_words.specs.declared.Refusal.TheVariants.{Name, Length, Number, Index, Father, Text}
use Rattle.shared_words.specs.Bytes.{le}
use Rattle.studio_rules.specs.Table.{Shape, listed, shape, plus}
use Rattle.studio_rules.specs.OwnData.{own_size, has_name, name_fits}
use Rattle.studio_rules.specs.Rules.{Parent, numbers_finite, face_numbers_below, father_earlier}
use Rattle.shared_words.specs.Conditions.{broken}
use Rattle.studio_rules.specs.Walk.{own_conditions}
use Rattle.shared_words.proofs.Bytes.{value-le}
use Rattle.shared_words.proofs.Conditions.{broken-here, broken-later, unbroken}
use Rattle.studio_row.specs.Packed.{row_of, plain_in, size_in}
use Rattle.studio_row.proofs.Facts.{Plain, plain-is}
use Rattle.studio_own_size.specs.Own.{Fits, Exceeds, CountIs}
use Rattle.studio_own_data.specs.Judges.{JudgedIs, Judges}
use Rattle.std.specs.Prelude.{Result, Ok, Err}

-- some own data with a given count word
pub some-around : (n : ℕ) → n < 65536 → CountIs (le 2 n) n
some-around n h = record { is = sym (value-le 2 n h); small = h }

-- ---- what the conditions come to

module _ (p : Parent) (o id : ℕ) (body : List ℕ) where
  abbrev size : ℕ
  size = own_size (shape id) p.own body

  judges : (x : Option Refusal) (r : Result ℕ Refusal) → broken (own_conditions p o id body size) ≡ x → JudgedIs size x r → Judges p o id body r
  judges x r e h = subst (λ (y : Option Refusal). JudgedIs size y r) (sym e) h

  pub judge_no_name : has_name (shape id) body ≡ false → Judges p o id body (Err (Name o))
  judge_no_name h = judges (some (Name o)) _ (broken-here _ _ _ h) refl

  pub judge_unfit : has_name (shape id) body ≡ true → name_fits (shape id) body ≡ false → Judges p o id body (Err (Text o))
  judge_unfit h f = judges (some (Text o)) _ (broken-later _ _ _ h ∙ broken-here _ _ _ f) refl

  pub judge_too_long : name_fits (shape id) body ≡ true → Exceeds (shape id) p.own body → Judges p o id body (Err (Length o))
  judge_too_long f h =
      judges (some (Length o)) _ (broken-later _ _ _ h.named ∙ broken-later _ _ _ f ∙ broken-here _ _ _ (lt-leb size (length body) h.beyond)) refl

  module _ (k : ℕ) (label : name_fits (shape id) body ≡ true) (fits : Fits (shape id) p.own body k) where
    within : leb size (length body) ≡ true
    within = rw (← fits.is) (le-leb k (length body) fits.within)

    pub judge_left_over : (plus id || leb (length body) k) ≡ false → Judges p o id body (Err (Length o))
    judge_left_over h = judges (some (Length o)) _ (broken-later _ _ _ fits.named ∙ broken-later _ _ _ label ∙ broken-later _ _ _ within ∙ broken-here _ _ _ (rw (← fits.is) h)) refl

    module _ (all : (plus id || leb (length body) k) ≡ true) where
      past : broken (own_conditions p o id body size) ≡ broken (drop 4 (own_conditions p o id body size))
      past = broken-later _ _ _ fits.named ∙ broken-later _ _ _ label ∙ broken-later _ _ _ within ∙ broken-later _ _ _ (rw (← fits.is) all)

      pub judge_number : numbers_finite p id (take k body) ≡ false → Judges p o id body (Err (Number o))
      judge_number h = judges (some (Number o)) _ (past ∙ broken-here _ _ _ (rw (← fits.is) h)) refl

      pub judge_index : numbers_finite p id (take k body) ≡ true → face_numbers_below p id (take k body) ≡ false → Judges p o id body (Err (Index o))
      judge_index f h = judges (some (Index o)) _ (past ∙ broken-later _ _ _ (rw (← fits.is) f) ∙ broken-here _ _ _ (rw (← fits.is) h)) refl

      module _ (f : numbers_finite p id (take k body) ≡ true) (h : face_numbers_below p id (take k body) ≡ true) where
        past_index : broken (own_conditions p o id body size) ≡ broken (drop 6 (own_conditions p o id body size))
        past_index = past ∙ broken-later _ _ _ (rw (← fits.is) f) ∙ broken-later _ _ _ (rw (← fits.is) h)

        pub judge_father : father_earlier p id (take k body) ≡ false → Judges p o id body (Err (Father o))
        judge_father g = judges (some (Father o)) _ (past_index ∙ broken-here _ _ _ (rw (← fits.is) g)) refl

        pub judge_fine : father_earlier p id (take k body) ≡ true → Judges p o id body (Ok k)
        judge_fine g = judges none _ (past_index ∙ broken-later _ _ _ (rw (← fits.is) g) ∙ unbroken [] tt) (ap Ok fits.is)

-- ---- a plain row: its size is all that is asked

module _ (p : Parent) (o id : ℕ) (body : List ℕ) (q : Plain id) where
  plain_fits : size_in (row_of id) ≤ length body → Fits (shape id) p.own body (size_in (row_of id))
  plain_fits h = subst (λ (sh : Shape). Fits sh p.own body (size_in (row_of id))) (sym q.shape-fixed) record { named = refl; is = refl; within = h }

  plain_label : name_fits (shape id) body ≡ true
  plain_label = rw q.shape-fixed

  plain_fine : length body ≡ size_in (row_of id) → Judges p o id body (Ok (size_in (row_of id)))
  plain_fine e =
      judge_fine p o id body (size_in (row_of id)) plain_label (plain_fits (omega (arith, e))) (rw q.no_plus (le-leb (length body) (size_in (row_of id)) (omega (arith, e))))
      (rw (q.not_4110, q.not_4140)) (rw q.not_4130) (rw q.not_B010)

  plain-fault : (length body ≡ size_in (row_of id) → ⊥) → Judges p o id body (Err (Length o))
  plain-fault ne = go (leb (length body) (size_in (row_of id))) refl
    where
      go : (b : Bool) → leb (length body) (size_in (row_of id)) ≡ b → Judges p o id body (Err (Length o))
      go true h =
          let m = leb-true (length body) (size_in (row_of id)) h in
          judge_too_long p o id body plain_label (subst (λ (sh : Shape). Exceeds sh p.own body) (sym q.shape-fixed) record { named = refl; beyond = omega (arith, m, ne) })
      go false h =
          let m = leb-false (length body) (size_in (row_of id)) h in
          judge_left_over p o id body (size_in (row_of id)) plain_label (plain_fits (omega (arith, m))) (rw q.no_plus h)

-- a chunk of a plain row, from `at` to `past`
module _ (s : List ℕ) (at past id row k : ℕ) (order : at + 6 ≤ past) (stays : past ≤ length s) (l : listed id ≡ true) (e : row ≡ row_of id) (plain : plain_in row ≡ true) (is : k ≡ size_in row) (p : Parent) where
  row_plain : Plain id
  row_plain = plain-is id l (subst (λ (r : ℕ). plain_in r ≡ true) e plain)

  size_of : k ≡ size_in (row_of id)
  size_of = is ∙ ap size_in e

  body-length : length (slice (at + 6) past s) ≡ past - (at + 6)
  body-length = length-slice (at + 6) past s stays

  pub plain-chunk_fine : past - at ≡ 6 + k → Judges p at id (slice (at + 6) past s) (Ok k)
  plain-chunk_fine h =
      subst (λ (n : ℕ). Judges p at id (slice (at + 6) past s) (Ok n)) (sym size_of) (plain_fine p at id (slice (at + 6) past s) row_plain (omega (arith, body-length, size_of, h, order)))

  pub plain-chunk-fault : (past - at ≡ 6 + k → ⊥) → Judges p at id (slice (at + 6) past s) (Err (Length at))
  plain-chunk-fault ne = plain-fault p at id (slice (at + 6) past s) row_plain (λ f. ne (omega (arith, f, body-length, size_of, order)))
