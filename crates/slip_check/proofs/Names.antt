-- The name of the entry at an offset, and entries that are whole, one at a time.
use mathlib.Core.Path.{◌≡◌, ap, ◌∙◌}
use Prim.Native.Nat.{ℕ, zero, suc, ◌+◌, ◌-◌, ◌<◌, ◌≤◌}
use native.Mathlib.Omega.{arith}
use mathlib.Core.List.{List}
use lib.ListN.{length, take, drop, get_or, length-drop}
use lib.Seq.{drop-drop, length-take-le}
use Rattle.shared_numbers.proofs.At.{head_is}
use Rattle.slip_rules.specs.Walk.{entry_at}
use Rattle.slip_check.specs.Entries.{entry_in, next_at, Whole}

-- ---- the name of the entry at an offset

pub name-is : (s : List ℕ) (o : ℕ) → (entry_in s o).name ≡ take (get_or s o 0) (drop (o + 1) s)
unfolding entry_at
name-is s o = ap (λ (k : ℕ). take k (drop 1 (drop o s))) (head_is s o) ∙ ap (take (get_or s o 0)) (drop-drop 1 o s)

pub name-length : (s : List ℕ) (o : ℕ) → next_at s o ≤ length s → length (entry_in s o).name ≡ get_or s o 0
name-length s o l = ap length (name-is s o) ∙ length-take-le (get_or s o 0) (drop (o + 1) s) (omega (arith, length-drop (o + 1) s))

-- what is left of whole entries
module _ (s : List ℕ) (o : ℕ) where
  pub whole-first : (left : ℕ) → 0 < left → Whole left s o → next_at s o ≤ length s
  whole-first zero p w = absurd (omega arith)
  whole-first (suc k) p w = w.0

  pub whole-on : (left : ℕ) → 0 < left → Whole left s o → Whole (left - 1) s (next_at s o)
  whole-on zero p w = absurd (omega arith)
  whole-on (suc k) p w =
      let q : suc k - 1 ≡ k = omega arith in
      rw q w.1
