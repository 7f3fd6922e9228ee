-- Sums handed on as numbers.
use Rattle.std.specs.Prelude.{Ok, Err}
use mathlib.Core.Path.{◌≡◌, refl, sym, ap, ◌∙◌}
use mathlib.Core.List.{List, [], ◌∷◌}
use mathlib.Core.Bool.{Bool, true, false, cond}
use mathlib.Core.Logic.{inl, inr}
use Prim.Native.Nat.{ℕ, ◌+◌, ◌*◌, ◌/◌, ◌%◌, ◌<◌}
use native.Mathlib.Nat.{mod-eq_of_lt}
use native.Mathlib.Omega.{arith}
use lib.Dec.{eqb, ltb}
use lib.ListN.{length}
use borrow.Author.Tests.{eq-eqb, ne_eqb}
use Rattle.shared_words.specs.declared.Refusal.TheVariants.{TooLong}
use Rattle.slip_sums.specs.declared.Sum.{Sum}
use Rattle.slip_sums.specs.Fletcher.{sum_of}
use Rattle.slip_sums.specs.Joined.{join, capped, with_part, with_parts}
use Rattle.slip_sums.specs.Passes.{sums_call, other_sums, match_of}
use Rattle.slip_sums.proofs.Remainders.{sum_same}
use Rattle.slip_sums.proofs.Joined.{join_law, cap_first, part-by-part, associative_within}
use Rattle.slip_sums.proofs.Passes.{same-part-by-part}
use Rattle.c_sums.specs.Numbers.{SumsProper, NoFileHas, number_of, sum_in, Handed, ReadsBack, part_number, sum_by_parts, NumberByParts, MatchesByParts, NumbersJoin, NumbersAssociate}

-- the sums of a file are remainders, where it has any
pub sums_proper_lem : (file : List ℕ) → SumsProper (sums_call file)
sums_proper_lem file = go (ltb 1_048_576 (length file))
  where
    go : (t : Bool) → SumsProper (cond t (Err TooLong) (Ok (sum_of file)))
    go true = tt
    go false = record { first_small = omega arith; second_small = omega arith }

pub no-file_has : NoFileHas
no-file_has s sums (inl e) = rw (eq-eqb (length s) (length s) refl, ne_eqb (sum_of s).first (sums % 256) (omega arith))
no-file_has s sums (inr l) = go (eqb (sum_of s).first (sums % 256)) refl
  where
    other : eqb (sum_of s).second (sums / 256) ≡ false
    other = ne_eqb (sum_of s).second (sums / 256) (omega arith)

    go : (t : Bool) → eqb (sum_of s).first (sums % 256) ≡ t → match_of (sum_of s) (length s) (sums % 256) (sums / 256) ≡ other_sums
    go true e = rw (eq-eqb (length s) (length s) refl, e, other)
    go false e = rw (eq-eqb (length s) (length s) refl, e)

-- two digits, the lower below the base
low : (a b : ℕ) → a < 256 → (a + 256 * b) % 256 ≡ a
low a b h = omega arith

high : (a b : ℕ) → a < 256 → (a + 256 * b) / 256 ≡ b
high a b h = omega arith

pub reads-back : ReadsBack
reads-back a h =
    let f = h.proper.first_small in
    let g = h.proper.second_small in
    let n : number_of a ≡ a.first + 256 * (a.second + 256 * a.len) = omega arith in
    let first : number_of a % 256 ≡ a.first = rw n (low a.first (a.second + 256 * a.len) (omega arith)) in
    let rest : number_of a / 256 ≡ a.second + 256 * a.len = rw n (high a.first (a.second + 256 * a.len) (omega arith)) in
    let second : number_of a / 256 % 256 ≡ a.second = rw rest (low a.second a.len (omega arith)) in
    sum_same (omega (arith, f, g)) (rw first (mod-eq_of_lt f)) (rw second (mod-eq_of_lt g))

-- what is joined is as it is handed on
pub joined-handed : (a b : Sum) → Handed (capped (join a b))
joined-handed a b = record { proper = record { first_small = omega arith; second_small = omega arith }; length_small = omega arith }

-- and so is the sum of a file, up to the limit
file-handed : (s : List ℕ) → Handed (capped (sum_of s))
file-handed s = record { proper = record { first_small = omega arith; second_small = omega arith }; length_small = omega arith }

by_parts : (a : Sum) (parts : List (List ℕ)) → Handed a → (sum_by_parts (number_of a) parts ≡ number_of (with_parts a parts)) × Handed (with_parts a parts)
by_parts a [] h = (refl, h)
by_parts a (part ∷ parts) h =
    let e = ap (λ (b : Sum). sum_by_parts (number_of (with_part b part)) parts) (reads-back a h) in
    let r = by_parts (with_part a part) parts (joined-handed a (sum_of part)) in
    (e ∙ r.0, r.1)

pub number_by_parts : NumberByParts
number_by_parts parts = (by_parts (sum_of []) parts (file-handed [])).0 ∙ ap number_of (part-by-part parts)

pub matches_by_parts : MatchesByParts
matches_by_parts parts l sums h =
    let r = by_parts (sum_of []) parts (file-handed []) in
    ap (λ (n : ℕ). match_of (sum_in n) l (sums % 256) (sums / 256)) r.0 ∙
    ap (λ (a : Sum). match_of a l (sums % 256) (sums / 256)) (reads-back (with_parts (sum_of []) parts) r.1) ∙
    same-part-by-part parts l (sums % 256) (sums / 256) (omega arith)

pub numbers-join : NumbersJoin
numbers-join xs ys l =
    let short : capped (sum_of ys) ≡ sum_of ys = sum_same (omega arith) refl refl in
    ap (λ (a : Sum). number_of (capped (join a (sum_in (part_number ys))))) (reads-back (capped (sum_of xs)) (file-handed xs)) ∙
    ap (λ (b : Sum). number_of (capped (join (capped (sum_of xs)) b))) (reads-back (capped (sum_of ys)) (file-handed ys) ∙ short) ∙
    ap number_of (cap_first (sum_of xs) (sum_of ys) ∙ ap capped (sym (join_law xs ys)))

pub numbers_associate : NumbersAssociate
numbers_associate a b c l =
    let ab = reads-back (capped (join (sum_in a) (sum_in b))) (joined-handed (sum_in a) (sum_in b)) in
    let bc = reads-back (capped (join (sum_in b) (sum_in c))) (joined-handed (sum_in b) (sum_in c)) in
    ap (λ (x : Sum). number_of (capped (join x (sum_in c)))) ab ∙
    ap number_of (associative_within (sum_in a) (sum_in b) (sum_in c) (omega arith)) ∙
    ap (λ (x : Sum). number_of (capped (join (sum_in a) x))) (sym bc)
