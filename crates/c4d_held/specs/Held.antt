-- What code holds of the object that is open, and what its functions promise.
use Rattle.std.specs.Prelude.{◌≡◌, ℕ, zero, suc, ◌+◌, ◌<◌, Bool, false, not, ◌||◌, cond, Result, Ok, Err, List, eqb, length}
use Rattle.std.proofs.Math.Option.{Option, none, some}
use Rattle.shared_words.specs.declared.Refusal.{Refusal}
use Rattle.shared_words.specs.Bytes.{be_at, minus_one}
use Rattle.shared_words.specs.Conditions.{broken}
use Rattle.c4d_rules.specs.Blocks.{Block}
use Rattle.c4d_rules.specs.Kinds.{t_end, t_texture}
use Rattle.c4d_rules.specs.Combinations.{is_in, combination, once_each}
use Rattle.c4d_rules.specs.Rules.{Open, object_id, material, up_to}
use Rattle.c4d_rules.specs.Walk.{object_conditions}
use Rattle.c4d_parts.specs.Bits.{bits}
use Rattle.c4d_held.specs.declared.Held.{Held}

-- of an object with sub-chunks of these identifiers
abbrev pub held_with : List ℕ → Held
held_with ids = record { repeated = not (once_each ids); present = bits ids }

-- the number of its combination, 0 where it has none or repeats what it may not
abbrev pub number_of : List ℕ → ℕ
number_of ids = cond (once_each ids) (combination (is_in ids)) 0

-- the last material, where all there are are below a number
abbrev pub last_of : ℕ → Option ℕ
last_of zero = none
last_of (suc last) = some last

-- the rule of materials, of a number
abbrev pub is_material : Option ℕ → ℕ → Bool
is_material last n = eqb n minus_one || up_to last n

-- what the rules' conditions answer to the block b at an offset
abbrev pub fault : Option ℕ → Open → ℕ → Block → Option Refusal
fault last o at b = broken (object_conditions last o at b)

-- b has this identifier and this size, and its material stands in the file, if it is a texture
pub record Is (s : List ℕ) (at id len : ℕ) (b : Block) : Type 0 where
  pub id-is : object_id b ≡ id
  pub len_is : length b.body ≡ len
  pub material-is : len ≡ 64 → material b ≡ be_at (at + 64) 4 s

-- ---- a texture in an object, whatever stands before it there

abbrev pub TextureIs : Option ℕ → List Block → ℕ → Block → Result ℕ Refusal → Type 0
TextureIs last bs at b (Err r) = fault last (some bs) at b ≡ some r
TextureIs last bs at b (Ok m) = (fault last (some bs) at b ≡ none) × (length b.body ≡ 64) × (m ≡ material b) × (m < 4294967296)

abbrev pub JudgesTexture : List ℕ → ℕ → ℕ → ℕ → Result ℕ Refusal → Type 0
JudgesTexture s at len below r = (b : Block) (bs : List Block) → Is s at t_texture len b → TextureIs (last_of below) bs at b r

-- ---- a sub-chunk between two objects, whatever it is

abbrev pub OutsideIs : Option ℕ → ℕ → Block → Result Unit Refusal → Type 0
OutsideIs last at b (Err r) = fault last none at b ≡ some r
OutsideIs last at b (Ok u) = (fault last none at b ≡ none) × (eqb (object_id b) t_end ≡ false)

abbrev pub JudgesOutside : ℕ → ℕ → ℕ → Result Unit Refusal → Type 0
JudgesOutside at id len r = (b : Block) (last : Option ℕ) → object_id b ≡ id → length b.body ≡ len → OutsideIs last at b r
