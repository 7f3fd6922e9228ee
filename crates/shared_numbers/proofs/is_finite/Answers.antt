-- The code reads the exponent as the definition does.
use mathlib.Core.Path.{refl}
use Rattle.shared_words.specs.Floats.{finite}
use Rattle.shared_numbers.proofs.is_finite.Goals as goal

pub returns : goal.returns
unfolding finite
returns c = refl
