-- Eight bytes as one number, and the bits that mark those at fault.
use Rattle.std.specs.Prelude.{◌≡◌, Bool, cond, not, List, [], ◌∷◌, ℕ, eqb, length}
use Rattle.shared_words.specs.Bytes.{value, Bytes}

-- a byte that does not end a name
abbrev pub nonzero : ℕ → Bool
nonzero b = not (eqb b 0)

-- the number of eight bytes
pub record Eight (bs : List ℕ) (w : ℕ) : Type 0 where
  pub bytes : Bytes bs
  pub eight : length bs ≡ 8
  pub is : w ≡ value bs

-- the highest bit of each byte that does not pass a test
abbrev pub marks : (ℕ → Bool) → List ℕ → List ℕ
marks good [] = []
marks good (b ∷ bs) = cond (good b) 0 128 ∷ marks good bs
