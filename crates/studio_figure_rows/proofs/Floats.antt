-- The floats of a row are values of an f32, as their type says.
use mathlib.Core.Path.{◌≡◌, refl}
use Prim.Native.Nat.{ℕ, suc}
use mathlib.Core.Bool.{Bool, true, false}
use mathlib.Core.List.{List, [], ◌∷◌}
use lib.Dec.{T}
use lib.Ieee.{Float, nan, binary32, fits}
use lib.ListN.{get_or}
use Rattle.shared_words.specs.Lists.{every}
use Rattle.shared_words.proofs.Bools.{both}
use Rattle.studio_write.specs.ReadsBack.{Floats32}

is_true : (b : Bool) → T b → b ≡ true
is_true true t = refl
is_true false t = absurd t

-- each float of a lent row has 32 bits
pub floats-known : (xs : List Float) → ((i : ℕ) → T (fits binary32 (get_or xs i nan))) → Floats32 xs
unfolding every
floats-known [] h = refl
floats-known (x ∷ xs) h = both (fits binary32 x) (every (fits binary32) xs) (is_true _ (h 0)) (floats-known xs (λ i. h (suc i)))
