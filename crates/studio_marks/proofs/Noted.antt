-- The marks one chunk on: five slots name their chunk, the sixth number counts.
use mathlib.Core.Path.{◌≡◌, sym}
use mathlib.Core.Bool.{Bool, true, false, cond}
use mathlib.Core.List.{List}
use Prim.Native.Nat.{ℕ, ◌+◌, ◌<◌, ◌≤◌, min}
use native.Mathlib.Omega.{arith}
use lib.Dec.{leb}
use lib.ListN.{length, get_or, set, length-set}
use lib.Seq.{get_or-set_same, get_or-set_other}
use borrow.Author.Tests.{le-leb, lt-leb}
use Rattle.studio_rules.specs.OwnData.{root}
use Rattle.studio_marks.specs.Marks.{noted}

pub noted-length : (k o : ℕ) (ms : List ℕ) → length (noted k o ms) ≡ length ms
unfolding noted
noted-length k o ms = go (leb 5 k)
  where
    go : (b : Bool) → length (cond b (set ms 5 (min (get_or ms 5 0 + 1) root)) (set ms k o)) ≡ length ms
    go true = length-set ms 5 (min (get_or ms 5 0 + 1) root)
    go false = length-set ms k o

-- k is a slot of a group, among six marks
abbrev pub SlotOf : ℕ → List ℕ → Type 0
SlotOf k ms = (k < 5) × (length ms ≡ 6)

-- what it holds after a chunk of slot j at o
module _ (ms : List ℕ) (k o : ℕ) (l : SlotOf k ms) where
  pub hit : (j : ℕ) → j ≡ k → get_or (noted j o ms) k 0 ≡ o
  unfolding noted
  hit j e = rw (e, lt-leb 5 k l.0) (get_or-set_same ms k o 0 (omega (arith, l.0, l.1)))

  pub miss : (j : ℕ) → (j ≡ k → ⊥) → get_or (noted j o ms) k 0 ≡ get_or ms k 0
  unfolding noted
  miss j e = go (leb 5 j)
    where
      go : (b : Bool) → get_or (cond b (set ms 5 (min (get_or ms 5 0 + 1) root)) (set ms j o)) k 0 ≡ get_or ms k 0
      go true = get_or-set_other ms 5 k (min (get_or ms 5 0 + 1) root) 0 (λ q. omega (arith, q, l.0))
      go false = get_or-set_other ms j k o 0 (λ q. e (sym q))

-- what the sixth holds
module _ (ms : List ℕ) (k o : ℕ) (six : length ms ≡ 6) where
  pub counts : 5 ≤ k → get_or (noted k o ms) 5 0 ≡ min (get_or ms 5 0 + 1) root
  unfolding noted
  counts h = rw (le-leb 5 k h) (get_or-set_same ms 5 (min (get_or ms 5 0 + 1) root) 0 (omega arith))

  pub counts-not : k < 5 → get_or (noted k o ms) 5 0 ≡ get_or ms 5 0
  unfolding noted
  counts-not h = rw (lt-leb 5 k h) (get_or-set_other ms k 5 o 0 (λ q. omega (arith, q, h)))
