-- A run chunk by chunk: what has been written so far, and what the records of the chunks that are left make of it.
use mathlib.Core.Path.{◌≡◌, refl, subst}
use mathlib.Core.List.{List}
use Prim.Native.Nat.{ℕ, ◌+◌, ◌≤◌}
use native.Mathlib.Omega.{arith}
use Rattle.studio_rules.specs.Layout.{Run}
use Rattle.studio_rules.specs.Parses.{Place}
use Rattle.studio_rules.specs.Gives.{record_count}
use Rattle.studio_list_rows.specs.Lent.{Lent}
use Rattle.studio_list_walk.specs.Laid.{first, Laid, Listed}
use Rattle.studio_list_walk.proofs.Runs.{rest, split-count, laid-size, FirstAt, listed-end, listed-on}

-- The run t from `at` to stop has been listed up to `from`: the next record has this number, and the rows are l₁.
pub record Sofar (s : List ℕ) (stop depth parent : ℕ) (p : Place) (l : Lent) (at next : ℕ) (t : Run) (l₁ : Lent) (from number : ℕ) : Type 0 where
  pub left : Run
  pub laid : Laid s from stop p left
  pub counts : number + record_count left ≡ next + record_count t
  pub goes_on : (l₂ : Lent) (r : ℕ) → Listed l₁ from depth parent number left l₂ r → Listed l at depth parent next t l₂ r

module _ {s : List ℕ} {stop depth parent : ℕ} {p : Place} {l : Lent} {at next : ℕ} {t : Run} where
  pub sofar_start : Laid s at stop p t → Sofar s stop depth parent p l at next t l at next
  sofar_start l = record { left = t; laid = l; counts = refl; goes_on = λ l₂ r h. h }

  module _ {l₁ : Lent} {from number : ℕ} (f : Sofar s stop depth parent p l at next t l₁ from number) where
    -- one chunk on
    pub sofar_next : {n : ℕ} {l₂ : Lent} {number₂ : ℕ} → FirstAt s from stop p n f.left → Listed l₁ from depth parent number (first f.left) l₂ number₂ →
        Sofar s stop depth parent p l at next t l₂ (from + n) number₂
    sofar_next {n} {l₂} {number₂} a h = record {
      left = rest f.left;
      laid = a.follows;
      counts = omega (arith, h.counts, f.counts, split-count f.left);
      goes_on = λ l₃ r g. f.goes_on l₃ r (listed-on f.left h (subst (λ (k : ℕ). Listed l₂ (from + k) depth parent number₂ (rest f.left) l₃ r) a.size_is g));
    }

    pub sofar_ends : stop ≤ from → Listed l at depth parent next t l₁ number
    sofar_ends e = f.goes_on l₁ number (listed-end l₁ from depth parent number f.left (omega (arith, laid-size f.laid)))
