-- The verdict accepts a slip, with its entries, exactly when the slip meets the rules with them.
use mathlib.Core.Path.{◌≡◌, refl, sym, ap, ◌∙◌, subst}
use Prim.Native.Nat.{ℕ, ◌+◌, ◌*◌, ◌≤◌}
use native.Mathlib.Omega.{arith}
use mathlib.Core.List.{List, [], ◌∷◌, ◌++◌}
use mathlib.Core.Option.{Option, none, some}
use lib.Dec.{leb}
use lib.ListN.{length, drop, get_or, length-drop, length-append}
use lib.Seq.{drop-cons}
use borrow.Author.Tests.{leb-true, le-leb, eqb-true, eq-eqb}
use Rattle.shared_words.specs.declared.Refusal.{Refusal}
use Rattle.shared_words.specs.Bytes.{be, be_at, Bytes}
use Rattle.shared_words.specs.Conditions.{broken, refused, accepted, unless}
use Rattle.shared_words.proofs.Bytes.{bytes_drop}
use Rattle.shared_words.proofs.BigEndian.{value-be, be-at-whole}
use Rattle.shared_words.proofs.Bools.{and_parts}
use Rattle.shared_words.proofs.Conditions.{Met, met, unbroken}
use Rattle.slip_rules.specs.Slip.{Entry, behind_name, entry_bytes, all_bytes, rest, bytes}
use Rattle.slip_rules.specs.Rules.{remember, most_entries, AllLawful, Meets}
use Rattle.slip_rules.specs.Conditions.{label_conditions}
use Rattle.slip_rules.specs.Walk.{head_conditions, Entries, walk, behind, labelled, verdict}
use Rattle.slip_rules.specs.Theorems.{AcceptedExactly, OneReading}
use Rattle.slip_rules.proofs.Labels.{labels_met, met_labels}
use Rattle.slip_rules.proofs.Sound.{Tells, Sound, walk-tells}
use Rattle.slip_rules.proofs.Complete.{walk_complete}

-- ---- accepted, so it meets the rules

abbrev MeetsIf : List ℕ → Entries → Type 0
MeetsIf s (refused r) = Unit
MeetsIf s (accepted es) = Meets s es

module _ (s : List ℕ) (h : Bytes s) (t : Met (head_conditions s)) where
  long : 7 ≤ length s
  long = leb-true _ _ t.0

  rest-is : (es : List Entry) → Sound (be_at 5 2 s) [] (drop 7 s) es → rest es ≡ drop 5 s
  rest-is es k = rw (k.count, k.is) (be-at-whole 5 2 s h long)

  whole_is : (es : List Entry) → Sound (be_at 5 2 s) [] (drop 7 s) es → bytes es ≡ s
  whole_is es k =
      let r = rest-is es k in
      let l = long in
      let q : 5 + be_at 1 4 s ≡ length s = eqb-true _ _ t.1.1.0 in
      let n : length (rest es) ≡ be_at 1 4 s = omega (arith, ap length r, length-drop 5 s) in
      let v : get_or s 0 0 ≡ 1 = eqb-true _ _ t.1.0 in
      ap (λ (k : ℕ). 1 ∷ be 4 k ++ rest es) n ∙
      ap (λ (x : List ℕ). 1 ∷ be 4 (be_at 1 4 s) ++ x) r ∙
      ap (λ (x : List ℕ). 1 ∷ x) (be-at-whole 1 4 s h (omega arith)) ∙
      ap (λ (b : ℕ). b ∷ drop 1 s) (sym v) ∙ sym (drop-cons s 0 0 (omega arith))

  told-meets : (a : Entries) → Tells (be_at 5 2 s) [] (drop 7 s) a → MeetsIf s (labelled a)
  told-meets (refused r) k = tt
  told-meets (accepted es) k = test (broken (label_conditions behind 7 es [])) refl
    where
      test : (r : Option Refusal) → broken (label_conditions behind 7 es []) ≡ r → MeetsIf s (unless r (accepted es))
      test (some r) q = tt
      test none q = record {
        is = whole_is es k;
        few = omega (arith, k.count, leb-true (be_at 5 2 s) most_entries t.1.1.1.0);
        lawful = k.lawful;
        labelled = (labels_met behind [] 7 es (met _ q)).0;
      }

verdict-meets : (s : List ℕ) → Bytes s → MeetsIf s (verdict s)
unfolding verdict
verdict-meets s h = test (broken (head_conditions s)) refl
  where
    test : (r : Option Refusal) → broken (head_conditions s) ≡ r → MeetsIf s (unless r (labelled (walk (be_at 5 2 s) [] 7 (drop 7 s))))
    test (some r) q = tt
    test none q = told-meets s h (met _ q) (walk (be_at 5 2 s) [] 7 (drop 7 s)) (walk-tells (be_at 5 2 s) [] 7 (drop 7 s) (bytes_drop 7 s h))

-- ---- it meets the rules, so it is accepted

-- an entry has at most 262 bytes, so that the lengths fit their fields
all_short : (es : List Entry) (seen : List (List ℕ)) → AllLawful seen es → length (all_bytes es) ≤ 262 * length es
all_short [] seen h = omega arith
all_short (e ∷ es) seen h =
    let n = leb-true (length e.name) 255 (and_parts (leb 1 (length e.name)) (leb (length e.name) 255) h.0.is-named).1 in
    omega (arith, n, all_short es (remember seen e) h.1, length-append (entry_bytes e) (all_bytes es), length-append e.name (behind_name e))

good-bytes : (es : List Entry) → Meets (bytes es) es → verdict (bytes es) ≡ accepted es
unfolding verdict
good-bytes es m =
    let f = m.few in
    let b = all_short es [] m.lawful in
    let n : be_at 1 4 (bytes es) ≡ length (rest es) = value-be 4 (length (rest es)) (omega arith) in
    let c : be_at 5 2 (bytes es) ≡ length es = value-be 2 (length es) (omega arith) in
    let q : broken (head_conditions (bytes es)) ≡ none =
    unbroken _ (
      le-leb 7 (length (bytes es)) (omega arith),
      (refl, (eq-eqb (5 + be_at 1 4 (bytes es)) (length (bytes es)) (omega arith), (le-leb (be_at 5 2 (bytes es)) most_entries (omega arith), tt))),
    ) in
    let l : broken (label_conditions behind 7 es []) ≡ none = unbroken _ (met_labels behind [] 7 es m.labelled tt) in
    rw (q, c, walk_complete es [] 7 m.lawful, l)

pub verdict-good : (s : List ℕ) (es : List Entry) → Meets s es → verdict s ≡ accepted es
verdict-good s es m =
    subst (λ (x : List ℕ). verdict x ≡ accepted es) m.is
    (good-bytes es record { is = refl; few = m.few; lawful = m.lawful; labelled = m.labelled })

-- ---- the theorems

pub accepted_exactly : AcceptedExactly
accepted_exactly s h es = (λ q. subst (MeetsIf s) q (verdict-meets s h), verdict-good s es)

pub one-reading : OneReading
one-reading s es es' m m' =
    let a = verdict-good s es m in
    let b = verdict-good s es' m' in
    cc
