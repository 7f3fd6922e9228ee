-- Rows by their numbers: how one is read, its name, and the names of the first.
use mathlib.Core.Path.{◌≡◌, sym, ap, ◌∙◌}
use Prim.Native.Nat.{ℕ, zero, suc, ◌+◌, ◌*◌, ◌≤◌}
use native.Mathlib.Omega.{arith}
use mathlib.Core.List.{List, [], ◌∷◌, ◌++◌}
use lib.ListN.{length, take, drop, length-drop}
use lib.Seq.{length-take-le, drop-drop}
use Rattle.shared_words.specs.Bytes.{value}
use Rattle.shared_numbers.specs.Numbers.{long_at}
use Rattle.slip_rules.specs.declared.Numbers.{Numbers}
use Rattle.slip_rules.specs.Rules.{remember}
use Rattle.slip_rules.specs.Calls.{entry_from}
use Rattle.slip_write_judge.specs.Rows.{row_no, entry_no, names_from}

abbrev made : ℕ → ℕ → ℕ → ℕ → Numbers
made name len file sums = record { name = name; len = len; file = file; sums = sums }

-- the number at an offset of a row
behind : (s : List ℕ) (i o : ℕ) → long_at s (16 * i + o) ≡ value (take 4 (drop o (drop (16 * i) s)))
unfolding long_at
behind s i o = ap (λ (l : List ℕ). value (take 4 l)) (sym (drop-drop o (16 * i) s))

pub row_is : (s : List ℕ) (i name len file sums : ℕ) → name ≡ long_at s (16 * i) → len ≡ long_at s (16 * i + 4) → file ≡ long_at s (16 * i + 8) →
    sums ≡ long_at s (16 * i + 12) → made name len file sums ≡ row_no s i
unfolding long_at
row_is s i name len file sums a b c d =
    let l = b ∙ behind s i 4 in
    let f = c ∙ behind s i 8 in
    let t = d ∙ behind s i 12 in
    rw (a, l, f, t)

-- ---- names

pub name-long : (names : List ℕ) (n : Numbers) → n.name + n.len ≤ length names → length (entry_from names n).name ≡ n.len
name-long names n h = length-take-le n.len (drop n.name names) (omega (arith, length-drop n.name names))

-- the names of the first rows, and of one more
names_more : (names : List ℕ) (k : ℕ) (s : List ℕ) (i : ℕ) → names_from names k s i ++ ((entry_no names s (i + k)).name ∷ []) ≡ names_from names (suc k) s i
names_more names zero s i =
    let q : i + 0 ≡ i = omega arith in
    rw q
names_more names (suc k) s i =
    let q : i + suc k ≡ suc i + k = omega arith in
    ap (λ (x : List (List ℕ)). (entry_no names s i).name ∷ x) (rw q (names_more names k s (suc i)))

pub names_then : (names : List ℕ) (i : ℕ) (s : List ℕ) → remember (names_from names i s 0) (entry_no names s i) ≡ names_from names (suc i) s 0
names_then names i s =
    let q : 0 + i ≡ i = omega arith in
    rw q at (names_more names i s 0)
