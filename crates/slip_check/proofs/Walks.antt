-- The walk's equations as the loop meets them: after n entries, what is left of the walk answers for the whole.
use mathlib.Core.Path.{◌≡◌, refl, ap, ◌∙◌}
use Prim.Native.Nat.{ℕ, zero, suc, ◌+◌, ◌-◌, ◌<◌, ◌≤◌}
use native.Mathlib.Numerals.{add-one}
use native.Mathlib.Omega.{arith}
use mathlib.Core.Bool.{true, false}
use mathlib.Core.List.{List, [], ◌∷◌}
use lib.Dec.{leb}
use lib.ListN.{length, drop, get_or}
use lib.Seq.{drop-drop, drop-length, drop-cons}
use Rattle.shared_words.specs.declared.Refusal.{Refusal}
use Rattle.shared_words.specs.declared.Refusal.TheVariants.{Slip}
use Rattle.slip_rules.specs.Slip.{Entry, entry_size}
use Rattle.slip_rules.specs.Rules.{is_named, sums_proper, not_twice, remember}
use Rattle.shared_words.specs.Conditions.{refused, accepted}
use Rattle.slip_rules.specs.Walk.{Entries, with_entry, entry_at, walk}
use Rattle.slip_rules.proofs.Tests.{one_fails, none_fails}
use Rattle.slip_check.specs.Entries.{entry_in, next_at, entries_in, names_in, after, Whole, Reached, good_at}
use Rattle.slip_check.proofs.Names.{name-length}

-- ---- one entry

module _ (seen : List (List ℕ)) (s : List ℕ) (at : ℕ) where
  walk_off : (k : ℕ) → 0 < k → good_at seen (drop at s) ≡ false → walk k seen at (drop at s) ≡ refused (Slip at)
  unfolding good_at
  walk_off zero p e = absurd (omega arith)
  walk_off (suc k) p e =
      let t = drop at s in
      rw (one_fails (leb (7 + get_or t 0 0) (length t) ∷ is_named (entry_at t) ∷ sums_proper (entry_at t) ∷ not_twice seen (entry_at t) ∷ []) (Slip at) [] e)

  walk-on : (k : ℕ) → 0 < k → next_at s at ≤ length s → good_at seen (drop at s) ≡ true →
      walk k seen at (drop at s) ≡ with_entry (entry_in s at) (walk (k - 1) (remember seen (entry_in s at)) (next_at s at) (drop (next_at s at) s))
  unfolding good_at
  walk-on zero p l e = absurd (omega arith)
  walk-on (suc k) p l e =
      let t = drop at s in
      let q : suc k - 1 ≡ k = omega arith in
      let b : at + entry_size (entry_in s at) ≡ next_at s at = omega (arith, name-length s at l) in
      let d : drop (entry_size (entry_in s at)) t ≡ drop (next_at s at) s = drop-drop (entry_size (entry_in s at)) at s ∙ ap (λ (i : ℕ). drop i s) b in
      rw (none_fails (leb (7 + get_or t 0 0) (length t) ∷ is_named (entry_at t) ∷ sums_proper (entry_at t) ∷ not_twice seen (entry_at t) ∷ []) (Slip at) e, q, d, b)

-- ---- n entries and one more

abbrev pub with_all : List Entry → Entries → Entries
with_all [] a = a
with_all (e ∷ es) a = with_entry e (with_all es a)

all-refused : (es : List Entry) (r : Refusal) → with_all es (refused r) ≡ refused r
all-refused [] r = refl
all-refused (e ∷ es) r = rw (all-refused es r)

all-accepted : (es : List Entry) → with_all es (accepted []) ≡ accepted es
all-accepted [] = refl
all-accepted (e ∷ es) = rw (all-accepted es)

entries-more : (n : ℕ) (s : List ℕ) (o : ℕ) (a : Entries) → with_all (entries_in n s o) (with_entry (entry_in s (after n s o)) a) ≡ with_all (entries_in (suc n) s o) a
entries-more zero s o a = refl
entries-more (suc n) s o a = ap (with_entry (entry_in s o)) (entries-more n s (next_at s o) a)

pub names_more : (n : ℕ) (s : List ℕ) (o : ℕ) → remember (names_in n s o) (entry_in s (after n s o)) ≡ names_in (suc n) s o
names_more zero s o = refl
names_more (suc n) s o = ap (λ (x : List (List ℕ)). (entry_in s o).name ∷ x) (names_more n s (next_at s o))

pub after_more : (n : ℕ) (s : List ℕ) (o : ℕ) → after (suc n) s o ≡ next_at s (after n s o)
after_more zero s o = refl
after_more (suc n) s o = after_more n s (next_at s o)

whole-more : (n : ℕ) (s : List ℕ) (o : ℕ) → Whole n s o → next_at s (after n s o) ≤ length s → Whole (suc n) s o
whole-more zero s o w l = (l, l)
whole-more (suc n) s o w l = (w.0, whole-more n s (next_at s o) w.1 l)

-- ---- the loop

pub record On (s : List ℕ) (count n at : ℕ) : Type 0 where
  pub reached : Reached s n at
  pub few : n ≤ count
  pub goes : walk count [] 7 (drop 7 s) ≡ with_all (entries_in n s 7) (walk (count - n) (names_in n s 7) at (drop at s))

pub on-start : (s : List ℕ) (count : ℕ) → 7 ≤ length s → On s count 0 7
on-start s count l =
    let q : count - 0 ≡ count = omega arith in
    record { reached = record { whole = l; ends = refl }; few = omega arith; goes = rw q }

module _ (s : List ℕ) (count n at : ℕ) (i : On s count n at) where
  pub on-bad : n < count → good_at (names_in n s 7) (drop at s) ≡ false → walk count [] 7 (drop 7 s) ≡ refused (Slip at)
  on-bad l e = i.goes ∙ rw (walk_off (names_in n s 7) s at (count - n) (omega arith) e) (all-refused (entries_in n s 7) (Slip at))

  pub on-more : n < count → next_at s at ≤ length s → good_at (names_in n s 7) (drop at s) ≡ true → On s count (n + 1) (next_at s at)
  on-more l w e =
      let h = i.reached.ends in
      let q : count - n - 1 ≡ count - suc n = omega arith in
      let m = names_more n s 7 in
      let a = after_more n s 7 in
      let k = whole-more n s 7 i.reached.whole (rw h w) in
      let g : with_all (entries_in n s 7) (with_entry (entry_in s at) (walk (count - suc n) (names_in (suc n) s 7) (next_at s at) (drop (next_at s at) s))) ≡
      with_all (entries_in (suc n) s 7) (walk (count - suc n) (names_in (suc n) s 7) (next_at s at) (drop (next_at s at) s)) =
      rw h at (entries-more n s 7 (walk (count - suc n) (names_in (suc n) s 7) (next_at s at) (drop (next_at s at) s))) in
      rw (add-one n) record {
        reached = record { whole = k; ends = rw h at a };
        few = omega arith;
        goes = i.goes ∙ ap (with_all (entries_in n s 7)) (walk-on (names_in n s 7) s at (count - n) (omega arith) w e ∙ rw (q, rw h at m)) ∙ g;
      }

  pub on-left : n ≡ count → at < length s → walk count [] 7 (drop 7 s) ≡ refused (Slip at)
  on-left e l =
      let z : count - n ≡ 0 = omega arith in
      i.goes ∙ rw (z, drop-cons s at 0 l) (all-refused (entries_in n s 7) (Slip at))

  pub on-end : n ≡ count → at ≡ length s → walk count [] 7 (drop 7 s) ≡ accepted (entries_in count s 7)
  on-end e l =
      let z : count - n ≡ 0 = omega arith in
      i.goes ∙ rw (z, l, drop-length s) (all-accepted (entries_in n s 7) ∙ ap (λ (k : ℕ). accepted (entries_in k s 7)) e)
