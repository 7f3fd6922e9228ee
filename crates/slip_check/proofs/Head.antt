-- The first seven bytes of a slip, and the verdict.
use mathlib.Core.Path.{◌≡◌, ◌∙◌}
use Prim.Native.Nat.{ℕ, ◌+◌, ◌<◌, ◌≤◌}
use mathlib.Core.Bool.{true, false, and-true, and-false}
use mathlib.Core.List.{List, [], ◌∷◌}
use lib.Dec.{eqb, leb}
use lib.ListN.{length, drop, get_or}
use borrow.Author.Tests.{leb-true, lt-leb, le-leb, ne_eqb, eq-eqb}
use Rattle.shared_words.specs.declared.Refusal.{Refusal}
use Rattle.shared_words.specs.declared.Refusal.TheVariants.{Slip}
use Rattle.shared_words.specs.Bytes.{be_at}
use Rattle.shared_words.specs.Conditions.{refused, accepted}
use Rattle.shared_words.proofs.Bools.{and_parts}
use Rattle.slip_rules.specs.Rules.{most_entries}
use Rattle.slip_rules.specs.Walk.{walk, labelled, verdict}
use Rattle.slip_rules.proofs.Tests.{one_fails, none_fails}
use Rattle.slip_check.specs.Entries.{entries_in, head_good}

-- ---- the verdict

module _ (s : List ℕ) where
  pub verdict_off : head_good s ≡ false → verdict s ≡ refused (Slip 0)
  unfolding head_good verdict
  verdict_off e = rw (one_fails (leb 7 (length s) ∷ eqb (get_or s 0 0) 1 ∷ eqb (5 + be_at 1 4 s) (length s) ∷ leb (be_at 5 2 s) most_entries ∷ []) (Slip 0) [] e)

  verdict-on : head_good s ≡ true → verdict s ≡ labelled (walk (be_at 5 2 s) [] 7 (drop 7 s))
  unfolding head_good verdict
  verdict-on e = rw (none_fails (leb 7 (length s) ∷ eqb (get_or s 0 0) 1 ∷ eqb (5 + be_at 1 4 s) (length s) ∷ leb (be_at 5 2 s) most_entries ∷ []) (Slip 0) e)

  pub head_few : head_good s ≡ true → be_at 5 2 s ≤ most_entries
  unfolding head_good
  head_few e =
      let version = (and_parts (leb 7 (length s)) _ e).1 in
      let long = (and_parts (eqb (get_or s 0 0) 1) _ version).1 in
      let count = (and_parts (eqb (5 + be_at 1 4 s) (length s)) _ long).1 in
      leb-true (be_at 5 2 s) most_entries (and_parts (leb (be_at 5 2 s) most_entries) true count).0

  module _ (n : ℕ) (e : head_good s ≡ true) (q : n ≡ be_at 5 2 s) where
    pub verdict-bad : (r : Refusal) → walk n [] 7 (drop 7 s) ≡ refused r → verdict s ≡ refused r
    verdict-bad r w = verdict-on e ∙ rw (← q, w)

    pub verdict-good : walk n [] 7 (drop 7 s) ≡ accepted (entries_in n s 7) → verdict s ≡ labelled (accepted (entries_in n s 7))
    verdict-good w = verdict-on e ∙ rw (← q, w)

-- ---- the first seven bytes, in the order in which the code comes to know them

module _ (s : List ℕ) where
  pub head_short : length s < 7 → head_good s ≡ false
  unfolding head_good
  head_short l = rw (lt-leb 7 (length s) l)

  pub head_version : (get_or s 0 0 ≡ 1 → ⊥) → head_good s ≡ false
  unfolding head_good
  head_version e = rw (ne_eqb (get_or s 0 0) 1 e, and-false (leb 7 (length s)))

  pub head_length : (5 + be_at 1 4 s ≡ length s → ⊥) → head_good s ≡ false
  unfolding head_good
  head_length e = rw (ne_eqb (5 + be_at 1 4 s) (length s) e, and-false (eqb (get_or s 0 0) 1), and-false (leb 7 (length s)))

  pub head_count : 7 ≤ length s → get_or s 0 0 ≡ 1 → 5 + be_at 1 4 s ≡ length s → head_good s ≡ leb (be_at 5 2 s) most_entries
  unfolding head_good
  head_count l v q = rw (le-leb 7 (length s) l, eq-eqb (get_or s 0 0) 1 v, eq-eqb (5 + be_at 1 4 s) (length s) q, and-true (leb (be_at 5 2 s) most_entries))
