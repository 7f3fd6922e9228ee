-- Unlisted chunks one after another.
use Rattle.std.specs.Prelude.{◌≡◌, List, ℕ, ◌+◌, ◌<◌, length}
use Rattle.std.proofs.Math.Seq.{slice}
use Rattle.studio_rules.specs.Rules.{Parent}
use Rattle.studio_rules.specs.Walk.{pass, step}

-- in the run of p that ends at `end` in the file s, after the children `seen`: from `at` on the walk skips chunk after chunk
pub data Passes (p : Parent) (seen s : List ℕ) (at end : ℕ) : ℕ → Type 0 where
  none_yet : Passes p seen s at end at
  one_more : (o id : ℕ) (body rest : List ℕ) → Passes p seen s at end o → o < end →
      step p seen o (slice o end s) ≡ pass id body rest → Passes p seen s at end (o + (6 + length body))
