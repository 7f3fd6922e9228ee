-- The test of one entry, in the order in which the code comes to know it.
use mathlib.Core.Path.{◌≡◌, ap, ◌∙◌}
use Prim.Native.Nat.{ℕ, zero, suc, ◌+◌, ◌<◌, ◌≤◌}
use native.Mathlib.Omega.{arith}
use mathlib.Core.Bool.{false, not, and-true, and-false}
use mathlib.Core.List.{List}
use lib.Dec.{leb}
use lib.ListN.{length, drop, get_or, length-drop}
use lib.Seq.{get_or-drop}
use borrow.Author.Tests.{le-leb, lt-leb}
use Rattle.shared_numbers.proofs.At.{head_is}
use Rattle.slip_rules.specs.Rules.{is_named, sums_proper, named_before}
use Rattle.slip_rules.specs.Walk.{entry_at}
use Rattle.slip_check.specs.Entries.{entry_in, next_at, after, Whole, Reached, good_at}
use Rattle.slip_check.proofs.Names.{name-length}

after-within : (n : ℕ) (s : List ℕ) (o : ℕ) → Whole n s o → after n s o ≤ length s
after-within zero s o w = w
after-within (suc n) s o w = after-within n s (next_at s o) w.1

pub reached-within : (s : List ℕ) (n at : ℕ) → Reached s n at → at ≤ length s
reached-within s n at r = omega (arith, after-within n s 7 r.whole, r.ends)

module _ (seen : List (List ℕ)) (s : List ℕ) (at : ℕ) (h : at ≤ length s) where
  pub off_short : length s < next_at s at → good_at seen (drop at s) ≡ false
  unfolding good_at
  off_short l = rw (lt-leb (7 + get_or (drop at s) 0 0) (length (drop at s)) (omega (arith, head_is s at, length-drop at s)))

  -- the two sums
  sum_is : (k : ℕ) → get_or (drop 1 (drop at s)) (get_or (drop at s) 0 0 + k) 0 ≡ get_or s (at + 1 + get_or s at 0 + k) 0
  sum_is k =
      get_or-drop 1 (drop at s) (get_or (drop at s) 0 0 + k) 0 ∙
      get_or-drop at s (1 + (get_or (drop at s) 0 0 + k)) 0 ∙
      ap (λ (i : ℕ). get_or s i 0) (omega (arith, head_is s at))

  pub first-is : (entry_in s at).first ≡ get_or s (at + 5 + get_or s at 0) 0
  unfolding entry_at
  first-is = sum_is 4 ∙ ap (λ (i : ℕ). get_or s i 0) (omega arith)

  pub second_is : (entry_in s at).second ≡ get_or s (at + 5 + get_or s at 0 + 1) 0
  unfolding entry_at
  second_is = sum_is 5 ∙ ap (λ (i : ℕ). get_or s i 0) (omega arith)

  off_sums : sums_proper (entry_in s at) ≡ false → good_at seen (drop at s) ≡ false
  unfolding good_at
  off_sums e = rw (e, and-false (is_named (entry_in s at)), and-false (leb (7 + get_or (drop at s) 0 0) (length (drop at s))))

  pub off_first : get_or s (at + 5 + get_or s at 0) 0 ≡ 255 → good_at seen (drop at s) ≡ false
  off_first e = off_sums (rw (lt-leb (entry_in s at).first 254 (omega (arith, first-is))))

  pub off_second : get_or s (at + 5 + get_or s at 0 + 1) 0 ≡ 255 → good_at seen (drop at s) ≡ false
  off_second e = off_sums (rw (lt-leb (entry_in s at).second 254 (omega (arith, second_is)), and-false (leb (entry_in s at).first 254)))

  module _ (l : next_at s at ≤ length s) where
    pub off_empty : get_or s at 0 ≡ 0 → good_at seen (drop at s) ≡ false
    unfolding good_at
    off_empty e = rw (lt-leb 1 (length (entry_in s at).name) (omega (arith, name-length s at l)), and-false (leb (7 + get_or (drop at s) 0 0) (length (drop at s))))

    pub on-all : 0 < get_or s at 0 → get_or s at 0 < 256 → get_or s (at + 5 + get_or s at 0) 0 < 255 → get_or s (at + 5 + get_or s at 0 + 1) 0 < 255 →
        good_at seen (drop at s) ≡ not (named_before (entry_in s at).name seen)
    unfolding good_at
    on-all p q f g =
        let n = name-length s at l in
        rw (
          le-leb (7 + get_or (drop at s) 0 0) (length (drop at s)) (omega (arith, head_is s at, length-drop at s)),
          le-leb 1 (length (entry_in s at).name) (omega arith),
          le-leb (length (entry_in s at).name) 255 (omega arith),
          le-leb (entry_in s at).first 254 (omega (arith, first-is)),
          le-leb (entry_in s at).second 254 (omega (arith, second_is)),
          and-true (not (named_before (entry_in s at).name seen)),
        )
