-- A float that is neither infinite nor not a number has bits to put.
use mathlib.Core.Path.{◌≡◌}
use mathlib.Core.Bool.{true, not, false≢true}
use lib.Dec.{T}
use lib.Ieee.{Float, nan, inf, fin, is_nan}
use Rattle.studio_write_judge.specs.Judged.{finite_float}

pub not-nan : (x : Float) → finite_float x ≡ true → T (not (is_nan x))
unfolding is_nan
not-nan nan h = absurd (false≢true h)
not-nan (inf s) h = absurd (false≢true h)
not-nan (fin s m e) h = tt
