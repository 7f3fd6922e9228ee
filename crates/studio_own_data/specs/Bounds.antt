-- The bound for what stands in a chunk: the number that the walk hands down.
use Rattle.std.specs.Prelude.{◌≡◌, cond, ℕ, ◌<◌, ◌^◌, min, eqb}
use Rattle.studio_rules.specs.OwnData.{count, root}
use Rattle.studio_rules.specs.Rules.{Parent}

-- Of a B002 it is its order, told up to `root`: no father is beyond. Of any other chunk it is the count word of its own
-- data: 4120's f.
abbrev pub bound_of : Parent → ℕ
bound_of p = cond (eqb p.id 0xB002) (min p.order root) (count p.own)

pub record BoundIs (p : Parent) (n : ℕ) : Type 0 where
  pub is : n ≡ bound_of p
  pub small : n < 2 ^ 16
