-- What the walk accepts is the bytes of entries that meet the rules.
-- By the count: the conditions met at an entry are its rules, and the rest of the walk says the same of what is left.
use mathlib.Core.Path.{◌≡◌, refl, sym, ap, ◌∙◌}
use Prim.Native.Nat.{ℕ, zero, suc, ◌+◌, ◌^◌, ◌<◌, ◌≤◌}
use native.Mathlib.Omega.{arith}
use mathlib.Core.List.{List, [], ◌∷◌, ◌++◌, append_assoc}
use mathlib.Core.Option.{Option, none, some}
use lib.ListN.{length, take, drop, get_or, take-append-drop}
use lib.Seq.{length-take-le, drop-cons}
use borrow.Author.Tests.{leb-true}
use Rattle.shared_words.specs.declared.Refusal.{Refusal}
use Rattle.shared_words.specs.Bytes.{be, be_at, Bytes}
use Rattle.shared_words.specs.Conditions.{broken, refused, accepted, unless}
use Rattle.shared_words.proofs.Bytes.{bytes_drop}
use Rattle.shared_words.proofs.BigEndian.{be-at_small, be-at-whole}
use Rattle.shared_words.proofs.Conditions.{met}
use Rattle.slip_rules.specs.Slip.{Entry, sum_bytes, behind_name, entry_bytes, entry_size, all_bytes}
use Rattle.slip_rules.specs.Rules.{remember, AllLawful}
use Rattle.slip_rules.specs.Walk.{Entries, with_entry, entry_of, entry_at, walk_conditions, go_on, step, walk}

-- ---- the entry at s

-- behind a name of n bytes: the file's length and the sums
module _ (n : ℕ) (s : List ℕ) (h : Bytes s) (l : n + 6 ≤ length s) where
  sums_whole : sum_bytes (entry_of n s) ++ drop (n + 6) s ≡ drop (n + 4) s
  sums_whole =
      let p : suc (n + 4) ≡ n + 5 = omega arith in
      let q : suc (n + 5) ≡ n + 6 = omega arith in
      let a : drop (n + 4) s ≡ get_or s (n + 4) 0 ∷ drop (n + 5) s = rw p at (drop-cons s (n + 4) 0 (omega arith)) in
      let b : drop (n + 5) s ≡ get_or s (n + 5) 0 ∷ drop (n + 6) s = rw q at (drop-cons s (n + 5) 0 (omega arith)) in
      sym (rw b at a)

  behind-whole : behind_name (entry_of n s) ++ drop (n + 6) s ≡ drop n s
  behind-whole =
      append_assoc (be 4 (be_at n 4 s)) (sum_bytes (entry_of n s)) (drop (n + 6) s) ∙
      ap (λ (t : List ℕ). be 4 (be_at n 4 s) ++ t) sums_whole ∙ be-at-whole n 4 s h (omega arith)

  name-whole : take n s ++ behind_name (entry_of n s) ++ drop (n + 6) s ≡ s
  name-whole = append_assoc (take n s) (behind_name (entry_of n s)) (drop (n + 6) s) ∙ rw behind-whole (take-append-drop n s)

pub entry_whole : (s : List ℕ) → Bytes s → 7 + get_or s 0 0 ≤ length s → entry_bytes (entry_at s) ++ drop (entry_size (entry_at s)) s ≡ s
unfolding entry_at
entry_whole [] h l = absurd (omega arith)
entry_whole (n ∷ s) h l =
    let k : length (take n s) ≡ n = length-take-le n s (omega arith) in
    let c : 7 + n ≡ suc (n + 6) = omega arith in
    rw (k, c) (ap (λ (t : List ℕ). n ∷ t) (name-whole n s h.1 (omega arith)))

-- its file length has four bytes
file-fits : (s : List ℕ) → Bytes s → 7 + get_or s 0 0 ≤ length s → (entry_at s).file < 256 ^ 4
unfolding entry_at
file-fits [] h l = absurd (omega arith)
file-fits (n ∷ s) h l = be-at_small n 4 s h.1 (omega arith)

-- ---- what is told of accepted entries

pub record Sound (n : ℕ) (seen : List (List ℕ)) (s : List ℕ) (es : List Entry) : Type 0 where
  pub is : all_bytes es ≡ s
  pub count : length es ≡ n
  pub lawful : AllLawful seen es

abbrev pub Tells : ℕ → List (List ℕ) → List ℕ → Entries → Type 0
Tells n seen s (refused r) = Unit
Tells n seen s (accepted es) = Sound n seen s es

module _ (n : ℕ) (go : List (List ℕ) → ℕ → List ℕ → Entries)
    (w : (seen : List (List ℕ)) (o : ℕ) (s : List ℕ) → Bytes s → Tells n seen s (go seen o s))
    (seen : List (List ℕ)) (o : ℕ) (s : List ℕ) (h : Bytes s) where
  on-tells : broken (walk_conditions seen o s (entry_at s)) ≡ none → (a : Entries) →
      Tells n (remember seen (entry_at s)) (drop (entry_size (entry_at s)) s) a → Tells (suc n) seen s (with_entry (entry_at s) a)
  on-tells q (refused r) k = tt
  on-tells q (accepted es) k =
      let t = met _ q in
      record {
        is = ap (λ (x : List ℕ). entry_bytes (entry_at s) ++ x) k.is ∙ entry_whole s h (leb-true _ _ t.0);
        count = ap suc k.count;
        lawful = (record { is-named = t.1.0; sums_proper_lem = t.1.1.0; not_twice_lem = t.1.1.1.0; file-fits = file-fits s h (leb-true _ _ t.0) }, k.lawful);
      }

  step-tells : Tells (suc n) seen s (step go seen o s (entry_at s))
  step-tells = test (broken (walk_conditions seen o s (entry_at s))) refl
    where
      test : (r : Option Refusal) → broken (walk_conditions seen o s (entry_at s)) ≡ r → Tells (suc n) seen s (unless r (go_on go seen o s (entry_at s)))
      test (some r) q = tt
      test none q =
          let left = drop (entry_size (entry_at s)) s in
          let place = o + entry_size (entry_at s) in
          on-tells q (go (remember seen (entry_at s)) place left) (w (remember seen (entry_at s)) place left (bytes_drop (entry_size (entry_at s)) s h))

pub walk-tells : (n : ℕ) (seen : List (List ℕ)) (o : ℕ) (s : List ℕ) → Bytes s → Tells n seen s (walk n seen o s)
walk-tells zero seen o [] h = record { is = refl; count = refl; lawful = tt }
walk-tells zero seen o (b ∷ s) h = tt
walk-tells (suc n) seen o s h = step-tells n (walk n) (walk-tells n) seen o s h
