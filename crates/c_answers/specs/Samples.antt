-- Worked numbers: the triangle's counts, name and box, as C gets them in lent bytes.
use Rattle.studio_rules.specs.declared.Counts.{Counts}
use Rattle.shared_words.specs.declared.Refusal.{Refusal}
use Rattle.std.specs.Prelude.{◌≡◌, List, [], ◌∷◌, ◌++◌, ℕ, replicate, Result, Ok, Err}
use Rattle.shared_words.specs.declared.Refusal.TheVariants.{NoSuchMesh}
use Rattle.shared_words.specs.Floats.{float}
use Rattle.shared_words.specs.Effects.{leaving}
use Rattle.studio_rules.specs.declared.Boxed.{Boxed}
use Rattle.studio_rules.specs.declared.Corner.{Corner}
use Rattle.c_answers.specs.Given.{counts_given, name_given, box_given}
use Rattle.studio_rules.specs.Calls.{box_answer}

abbrev pub triangle : Result Counts Refusal
triangle = Ok record { records = 6; headers = 36; own = 50; skipped = 0 }

-- a point in the plane, by the bits of its coordinates
abbrev pub point : ℕ → ℕ → Corner
point x y = record { x = float x; y = float y; z = float 0 }

abbrev pub box : Result Boxed Refusal
box = box_answer record { low = point 0 0; high = point 0x3F80_0000 0x3F80_0000 } (point 0x3F00_0000 0x3F00_0000)

-- 1, one half and 0, least byte first
abbrev pub one : List ℕ
one = 0 ∷ 0 ∷ 0x80 ∷ 0x3F ∷ []

abbrev pub half : List ℕ
half = 0 ∷ 0 ∷ 0 ∷ 0x3F ∷ []

abbrev pub none : List ℕ
none = replicate 4 0

pub record Worked : Type 0 where
  -- three numbers into thirteen bytes, of which the last stays
  pub counts : counts_given (replicate 13 7) triangle ≡ leaving 3 (36 ∷ 0 ∷ 0 ∷ 0 ∷ 50 ∷ 0 ∷ 0 ∷ 0 ∷ 0 ∷ 0 ∷ 0 ∷ 0 ∷ 7 ∷ [])
  -- eleven bytes are room for two numbers: 15, and the place is in numbers
  pub no_room : counts_given (replicate 11 7) triangle ≡ leaving 0xF_0000_0003 (replicate 11 7)
  pub name : name_given (replicate 8 7) (Ok record { offset = 18; size = 1 }) ≡ leaving 2 (18 ∷ 0 ∷ 0 ∷ 0 ∷ 1 ∷ 0 ∷ 0 ∷ 0 ∷ [])
  -- a refusal comes before the room
  pub no-mesh : name_given [] (Err (NoSuchMesh 1)) ≡ leaving 0x10_0000_0001 []
  pub around : box_given (replicate 36 7) box ≡ leaving 9 (replicate 12 0 ++ one ++ one ++ none ++ half ++ half ++ none)
