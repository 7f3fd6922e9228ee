-- `studio_write_judge::all_below` meets its contract: `good` says whether the corners that the loop has passed are below n.
use Prim.Native.Nat.{ℕ}
use mathlib.Core.Bool.{Bool}
use lib.Dec.{ltb}
use Rattle.shared_words.proofs.FirstFault.{Told}
use Rattle.studio_write_judge.proofs.all_below.Given as goal

-- That x is below n.
abbrev pub below : ℕ → ℕ → Bool
below n x = ltb x n

abbrev pub invariant-loop-corner : goal.invariant-loop-corner
invariant-loop-corner l = Told (below l.n) l.corners l.good l.corner-index
