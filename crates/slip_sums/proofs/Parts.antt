-- The sum of a list and of what follows it, from the totals of the latter.
use mathlib.Core.Path.{◌≡◌, sym, ap, ◌∙◌}
use mathlib.Core.List.{List, ◌++◌}
use Prim.Native.Nat.{ℕ, ◌+◌, ◌*◌, ◌-◌, ◌%◌, ◌≤◌}
use native.Mathlib.Nat.{add-mod-mod}
use native.Mathlib.Omega.{arith}
use lib.ListN.{length, take, drop, length-drop}
use lib.Seq.{take-add, length-take-le}
use Rattle.slip_sums.specs.declared.Sum.{Sum}
use Rattle.slip_sums.specs.Fletcher.{total, running, sum_of}
use Rattle.slip_sums.specs.Totals.{TotalsOf}
use Rattle.slip_sums.proofs.Joined.{join_law}

first_more : (xs ys : List ℕ) (f g : ℕ) → TotalsOf ys f g → ((sum_of xs).first + f) % 255 ≡ (sum_of (xs ++ ys)).first
first_more xs ys f g t =
    ap (λ (n : ℕ). ((sum_of xs).first + n) % 255) t.first-is ∙
    sym (add-mod-mod (sum_of xs).first (total ys) 255) ∙
    sym (ap (λ (a : Sum). a.first) (join_law xs ys))

second_more : (xs ys : List ℕ) (f g n : ℕ) → TotalsOf ys f g → n ≡ length ys → ((sum_of xs).second + n * (sum_of xs).first + g) % 255 ≡ (sum_of (xs ++ ys)).second
second_more xs ys f g n t l =
    let a = sum_of xs in
    let r = total (running 0 ys) in
    rw (t.second_is, l)
    (sym (add-mod-mod (a.second + length ys * a.first) r 255) ∙
    ap (λ (m : ℕ). m % 255) (omega arith) ∙
    sym (ap (λ (b : Sum). b.second) (join_law xs ys)))

-- the front of a list and a part of it that starts there
longer : (s : List ℕ) (at end : ℕ) → at ≤ end → take at s ++ take (end - at) (drop at s) ≡ take end s
longer s at end h =
    let q : at + (end - at) ≡ end = omega arith in
    sym (take-add at (end - at) s) ∙ ap (λ (n : ℕ). take n s) q

-- ---- the sums up to a place of a list, and on to another

module _ (s : List ℕ) (at end : ℕ) (on : at ≤ end) (within : end ≤ length s) (f g : ℕ) (part : TotalsOf (take (end - at) (drop at s)) f g) where
  pub first_on : (first : ℕ) → first ≡ (sum_of (take at s)).first → (first + f) % 255 ≡ (sum_of (take end s)).first
  first_on first e = rw e (first_more (take at s) (take (end - at) (drop at s)) f g part) ∙ ap (λ (t : List ℕ). (sum_of t).first) (longer s at end on)

  pub second-on : (n first second : ℕ) → n ≡ end - at → first ≡ (sum_of (take at s)).first → second ≡ (sum_of (take at s)).second →
      (second + n * first + g) % 255 ≡ (sum_of (take end s)).second
  second-on n first second l e h =
      let size : length (take (end - at) (drop at s)) ≡ end - at = length-take-le (end - at) (drop at s) (omega (arith, length-drop at s)) in
      rw (e, h) (second_more (take at s) (take (end - at) (drop at s)) f g n part (l ∙ sym size)) ∙
      ap (λ (t : List ℕ). (sum_of t).second) (longer s at end on)
