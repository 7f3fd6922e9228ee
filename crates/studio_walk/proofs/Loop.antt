-- The loop of a run: what holds before each chunk of it.
use mathlib.Core.Path.{◌≡◌}
use mathlib.Core.Bool.{Bool}
use mathlib.Core.List.{List}
use Prim.Native.Nat.{ℕ, ◌+◌, ◌-◌, ◌*◌, ◌≤◌}
use lib.ListN.{length}
use lib.Seq.{slice}
use Rattle.studio_rules.specs.Rules.{Parent}
use Rattle.studio_rules.specs.Walk.{walk}
use Rattle.studio_walk.specs.declared.Ran.{Ran}
use Rattle.studio_marks.specs.Marks.{RuleIs}
use Rattle.studio_head.specs.Contexts.{Context}
use Rattle.studio_walk.specs.Runs.{SomeContext, RunIs}
use Rattle.std.specs.Prelude.{Result}
use Rattle.shared_words.specs.declared.Refusal.{Refusal}

-- the children seen so far, and what the rest of the run tells of the whole
pub record Later (s : List ℕ) (row word at end : ℕ) (ms₀ ms : List ℕ) (p records skips : ℕ) (q : Parent) (seen : List ℕ) : Type 0 where
  pub seen' : List ℕ
  pub context : Context q seen' row word ms
  pub tells : (r : Result Ran Refusal) (ms' : List ℕ) → RunIs end records skips p ms (walk q seen' p (slice p end s)) r ms' → RunIs end 0 0 at ms₀ (walk q seen at (slice at end s)) r ms'

-- before the chunk at p: so many records and skipped bytes, and marks ms
pub record Sofar (s : List ℕ) (row word : ℕ) (as_many : Bool) (at end : ℕ) (ms₀ ms : List ℕ) (p records skips : ℕ) : Type 0 where
  pub past : at ≤ p
  pub before : p ≤ end
  pub six : length ms ≡ 6
  pub within : 6 * records + skips ≤ p - at
  pub somewhere : SomeContext row word as_many ms
  pub later : (q : Parent) (seen : List ℕ) → RuleIs q as_many → Context q seen row word ms₀ → Later s row word at end ms₀ ms p records skips q seen
