-- A mark that names a chunk: its faces stand in the file.
use mathlib.Core.Path.{◌≡◌}
use mathlib.Core.Logic.{inl, inr}
use mathlib.Core.List.{List}
use Prim.Native.Nat.{ℕ, ◌+◌, ◌*◌, ◌≤◌}
use native.Mathlib.Omega.{arith}
use lib.ListN.{length}
use borrow.Author.Tests.{ne_eqb}
use Rattle.shared_numbers.specs.Numbers.{word_at}
use Rattle.studio_marks.specs.Marks.{Placed, count_at}

count-there : (s : List ℕ) (mark : ℕ) → (mark ≡ 0 → ⊥) → count_at s mark ≡ word_at s (mark + 6)
unfolding count_at
count-there s mark n = rw (ne_eqb mark 0 n)

pub faces-there : (s : List ℕ) (mark : ℕ) → (mark ≡ 0 → ⊥) → Placed s mark (2 + 8 * count_at s mark) → mark + 8 + 8 * word_at s (mark + 6) ≤ length s
faces-there s mark n (inl e) = absurd (n e)
faces-there s mark n (inr e) = omega (arith, e, count-there s mark n)
