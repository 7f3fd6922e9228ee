-- Joining sums.
use mathlib.Core.Path.{◌≡◌, refl, sym, ap, ◌∙◌}
use mathlib.Core.List.{List, [], ◌∷◌, ◌++◌, flatten, append-nil, append_assoc}
use Prim.Native.Nat.{ℕ, ◌+◌, ◌*◌, ◌%◌}
use native.Mathlib.Nat.{mod-add-mod}
use native.Mathlib.Omega.{arith}
use lib.ListN.{length, length-append}
use Rattle.slip_sums.specs.declared.Sum.{Sum}
use Rattle.slip_sums.specs.Fletcher.{total, sum_of}
use Rattle.slip_sums.specs.Joined.{join, JoinLaw, Associative, SumsAreProper, Neutral, capped, with_parts, PartByPart, AssociativeWithin}
use Rattle.slip_sums.proofs.Remainders.{times_remainder, early, sum_same}
use Rattle.slip_sums.proofs.Weighted.{running-is, total_append, weighted_append}

pub join_law : JoinLaw
join_law xs ys =
    sum_same
    (length-append xs ys)
    (omega (arith, total_append xs ys))
    (omega (arith, running-is (xs ++ ys), running-is xs, running-is ys, weighted_append xs ys, times_remainder (length ys) (total xs)))

pub associative : Associative
associative a b c =
    let one = early (a.second + b.second + b.len * a.first) c.second c.len (a.first + b.first) in
    let other = mod-add-mod (b.second + c.second + c.len * b.first) 255 (a.second + (b.len + c.len) * a.first) in
    sum_same (omega arith) (omega arith) (one ∙ same a b c ∙ sym other ∙ ap (λ (x : ℕ). x % 255) (omega arith))
  where
    same : (a b c : Sum) →
        (a.second + b.second + b.len * a.first + c.second + c.len * (a.first + b.first)) % 255 ≡
        (b.second + c.second + c.len * b.first + (a.second + (b.len + c.len) * a.first)) % 255
    same a b c = ap (λ (x : ℕ). x % 255) (omega arith)

pub sums_are_proper : SumsAreProper
sums_are_proper s = record { first_small = omega arith; second_small = omega arith }

pub neutral : Neutral
neutral a p = (
  sum_same (omega arith) (omega (arith, p.first_small)) (omega (arith, p.second_small)),
  sum_same (omega arith) (omega (arith, p.first_small)) (omega (arith, p.second_small)),
)

-- ---- part by part

-- a limit on the first part's length is the same as one on the whole
pub cap_first : (a b : Sum) → capped (join (capped a) b) ≡ capped (join a b)
cap_first a b = sum_same (omega arith) refl refl

with-parts : (s : List ℕ) (parts : List (List ℕ)) → with_parts (capped (sum_of s)) parts ≡ capped (sum_of (s ++ flatten parts))
unfolding flatten
with-parts s [] = ap (λ (x : List ℕ). capped (sum_of x)) (sym (append-nil s))
with-parts s (part ∷ parts) =
    ap (λ (x : Sum). with_parts x parts) (cap_first (sum_of s) (sum_of part) ∙ ap capped (sym (join_law s part))) ∙
    with-parts (s ++ part) parts ∙
    ap (λ (x : List ℕ). capped (sum_of x)) (append_assoc s part (flatten parts))

pub part-by-part : PartByPart
part-by-part parts = with-parts [] parts

pub associative_within : AssociativeWithin
associative_within a b c l =
    cap_first (join a b) c ∙
    ap capped (associative a b c) ∙
    ap (λ (x : Sum). capped (join a x)) (sum_same (omega arith) refl refl)
