-- What the callers of the check know of a file that it accepts: its layout.
use Rattle.std.specs.Prelude.{Ok}
use mathlib.Core.Path.{◌≡◌, refl}
use mathlib.Core.List.{List}
use Prim.Native.Nat.{ℕ}
use native.Mathlib.Omega.{arith}
use Rattle.studio_rules.specs.declared.Counts.{Counts}
use Rattle.shared_words.specs.Bytes.{Bytes}
use Rattle.studio_rules.specs.Layout.{Run}
use Rattle.studio_rules.specs.Rules.{Meets}
use Rattle.shared_words.specs.Conditions.{Answer, refused, accepted}
use Rattle.studio_rules.specs.Walk.{verdict}
use Rattle.studio_rules.specs.Calls.{counts_of, check_of, check_call}
use Rattle.studio_rules.proofs.Verdict.{accepted_exactly}

pub record Accepted (s : List ℕ) (counts : Counts) : Type 0 where
  pub kids : Run
  pub verdict-is : verdict s ≡ accepted kids
  pub counts_are : counts ≡ counts_of kids

pub accepted-by : (s : List ℕ) (counts : Counts) → check_call s ≡ Ok counts → Accepted s counts
unfolding check_call
accepted-by s counts = go (verdict s) refl
  where
    go : (a : Answer Run) → verdict s ≡ a → check_of a ≡ Ok counts → Accepted s counts
    go (refused r) v e = absurd (let z : ◌≡◌ {A = ℕ} 0 1 = cc in omega arith)
    go (accepted kids) v e = record { kids = kids; verdict-is = v; counts_are = cc }

pub meets-by : {s : List ℕ} {counts : Counts} → Bytes s → (a : Accepted s counts) → Meets s a.kids
meets-by {s} b a = (accepted_exactly s b a.kids).0 a.verdict-is
