-- The names of groups, one after another, up to one that a test does not hold of.
use mathlib.Core.Path.{◌≡◌, sym, ap, ◌∙◌}
use Prim.Native.Nat.{ℕ, ◌+◌, ◌<◌, ◌≤◌}
use native.Mathlib.Omega.{arith}
use mathlib.Core.Bool.{Bool, true, false}
use mathlib.Core.List.{List, []}
use lib.ListN.{get_or}
use Rattle.shared_words.specs.Lists.{first_fault}
use Rattle.shared_words.proofs.FirstFault.{Passed, passed_none, passed-more, found, all-passed}
use Rattle.studio_figure_rows.specs.Rows.{entry, sum_to, part, name_at}
use Rattle.studio_figure_rows.proofs.Runs.{run_length, run_get, sum-next}
use Rattle.studio_figure_names.specs.Names.{names_in}

module _ (good : List ℕ → Bool) (names groups : List ℕ) (from n : ℕ) where
  -- the first i are good, and the next name begins at a position
  pub record Going (at i : ℕ) : Type 0 where
    pub few : i ≤ n
    pub is : at ≡ from + sum_to 2 0 groups i
    pub passed : Passed good (names_in 2 groups names from n) i

  pub going_none : Going from 0
  going_none = record { few = omega arith; is = omega arith; passed = passed_none good (names_in 2 groups names from n) }

  module _ (at len i : ℕ) (g : Going at i) (h : i < n) (f : len ≡ entry 2 0 groups i) where
    its_name : good (part at len names) ≡ good (get_or (names_in 2 groups names from n) i [])
    its_name =
        let z : 0 + i ≡ i = omega arith in
        rw (g.is, f) (ap good (sym (run_get (name_at 2 groups names from) 0 n i [] h ∙ ap (name_at 2 groups names from) z)))

    pub going_out : good (part at len names) ≡ false → i ≡ first_fault good (names_in 2 groups names from n)
    going_out e = found good (names_in 2 groups names from n) i [] (omega (arith, run_length (name_at 2 groups names from) 0 n)) g.passed (sym its_name ∙ e)

    pub going_on : good (part at len names) ≡ true → Going (at + len) (i + 1)
    going_on e = record {
      few = omega arith;
      is = omega (arith, g.is, sum-next 2 0 groups i);
      passed = passed-more good (names_in 2 groups names from n) i [] (omega (arith, run_length (name_at 2 groups names from) 0 n)) g.passed (sym its_name ∙ e);
    }

  pub going_all : (at i : ℕ) → Going at i → n ≤ i → i ≡ first_fault good (names_in 2 groups names from n)
  going_all at i g h = all-passed good (names_in 2 groups names from n) i (omega (arith, run_length (name_at 2 groups names from) 0 n)) g.passed
