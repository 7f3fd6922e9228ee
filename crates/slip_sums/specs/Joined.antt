-- Sums of joined parts: the sum of two parts joined follows from their two sums and the second part's length.
use Rattle.std.specs.Prelude.{◌≡◌, ℕ, ◌+◌, ◌*◌, ◌-◌, ◌%◌, ◌^◌, ◌≤◌, ◌<◌, min}
use mathlib.Core.List.{List, [], ◌∷◌, ◌++◌, flatten}
use Rattle.slip_sums.specs.declared.Sum.{Sum}
use Rattle.slip_sums.specs.Fletcher.{sum_of}

-- First sums add; the second sum is the two second sums plus the second part's length times the first part's first sum.
abbrev pub join : Sum → Sum → Sum
join a b = record {
  len = a.len + b.len;
  first = (a.first + b.first) % 255;
  second = (a.second + b.second + b.len * a.first) % 255;
}

-- TWO PARTS JOINED
abbrev pub JoinLaw : Type 0
JoinLaw = (xs ys : List ℕ) → sum_of (xs ++ ys) ≡ join (sum_of xs) (sum_of ys)

-- JOINING IS ASSOCIATIVE
abbrev pub Associative : Type 0
Associative = (a b c : Sum) → join (join a b) c ≡ join a (join b c)

-- a sum that some file may have: both are remainders
pub record Proper (a : Sum) : Type 0 where
  pub first_small : a.first < 255
  pub second_small : a.second < 255

abbrev pub SumsAreProper : Type 0
SumsAreProper = (s : List ℕ) → Proper (sum_of s)

-- THE EMPTY PART, first or second, changes nothing
abbrev pub Neutral : Type 0
Neutral = (a : Sum) → Proper a → (join (sum_of []) a ≡ a) × (join a (sum_of []) ≡ a)

-- ---- part by part. What is handed on keeps a length of 48 bits; a longer one counts as the longest.

abbrev pub capped : Sum → Sum
capped a = record { len = min a.len (2 ^ 48 - 1); first = a.first; second = a.second }

-- the sum of what stood before, followed by these bytes
abbrev pub with_part : Sum → List ℕ → Sum
with_part a part = capped (join a (sum_of part))

abbrev pub with_parts : Sum → List (List ℕ) → Sum
with_parts a [] = a
with_parts a (part ∷ parts) = with_parts (with_part a part) parts

-- EVERY CUTTING of a file, gone through part by part, gives the sum of the file.
abbrev pub PartByPart : Type 0
PartByPart = (parts : List (List ℕ)) → with_parts (sum_of []) parts ≡ capped (sum_of (flatten parts))

-- WITHIN THE LIMIT, so for every real file, joining what is handed on is associative too. Beyond it the second part's length is
-- lost, and with it its effect on the second sum.
abbrev pub AssociativeWithin : Type 0
AssociativeWithin = (a b c : Sum) → a.len + b.len + c.len ≤ 2 ^ 48 - 1 →
    capped (join (capped (join a b)) c) ≡ capped (join a (capped (join b c)))
