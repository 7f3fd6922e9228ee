-- Parts of a list, and the numbers in them: what code that reads s[at] with at < end is proved against.
use mathlib.Core.Path.{◌≡◌, sym, ap, ◌∙◌}
use mathlib.Core.List.{List, [], ◌∷◌}
use Prim.Native.Nat.{ℕ, zero, suc, ◌+◌, ◌≤◌}
use native.Mathlib.Nat.{zero-add, suc-add}
use lib.ListN.{take, drop}
use lib.Seq.{slice, drop-drop, take-take, take-nil}
use Rattle.shared_words.specs.Bytes.{value}
use Rattle.shared_numbers.specs.Numbers.{word_at, long_at}

pub drop-take : (n k : ℕ) (s : List ℕ) → drop n (take (n + k) s) ≡ take k (drop n s)
drop-take zero k s = rw (zero-add k)
drop-take (suc n) k [] = rw (suc-add n k) (sym (take-nil k))
drop-take (suc n) k (x ∷ s) = rw (suc-add n k) (drop-take n k s)

-- a part of a part
pub drop-slice : (n a e : ℕ) (s : List ℕ) → drop n (slice a e s) ≡ slice (a + n) e s
drop-slice n a e s = drop-drop n a (take e s)

pub take-slice : (n a e : ℕ) (s : List ℕ) → a + n ≤ e → take n (slice a e s) ≡ slice a (a + n) s
take-slice n a e s h = sym (drop-take a n (take e s)) ∙ ap (drop a) (take-take (a + n) e s h)

-- the first bytes of a part are those of the whole
pub front-slice : (n a e : ℕ) (s : List ℕ) → a + n ≤ e → take n (slice a e s) ≡ take n (drop a s)
front-slice n a e s h = take-slice n a e s h ∙ drop-take a n s

pub word_slice : (a e : ℕ) (s : List ℕ) → a + 2 ≤ e → value (take 2 (slice a e s)) ≡ word_at s a
unfolding word_at
word_slice a e s h = ap value (front-slice 2 a e s h)

pub long-slice : (a e : ℕ) (s : List ℕ) → a + 4 ≤ e → value (take 4 (slice a e s)) ≡ long_at s a
unfolding long_at
long-slice a e s h = ap value (front-slice 4 a e s h)
