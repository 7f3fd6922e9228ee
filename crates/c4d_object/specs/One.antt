-- What the reading of one object promises.
use Rattle.std.specs.Prelude.{◌≡◌, ℕ, ◌+◌, ◌*◌, ◌≤◌, Result, Ok, Err, List, [], ◌∷◌, length}
use Rattle.std.proofs.Math.Option.{Option, none, some}
use Rattle.shared_words.specs.Conditions.{refused}
use Rattle.shared_numbers.specs.Put.{Put}
use Rattle.c4d_rules.specs.Blocks.{Block}
use Rattle.c4d_rules.specs.Combinations.{is_in, combination}
use Rattle.c4d_rules.specs.Rules.{identifiers}
use Rattle.c4d_rules.specs.Gives.{materials_of, object_at}
use Rattle.shared_words.specs.declared.Refusal.{Refusal}
use Rattle.c4d_object.specs.declared.One.{One}
use Rattle.c4d_object.specs.Ahead.{ahead, behind}

-- eight bytes of the file to a note are room enough: no object is shorter
abbrev pub Roomy : List ℕ → List ℕ → Type 0
Roomy s notes = length s ≤ 8 * length notes

-- the sub-chunks from `from` to `end` are those of one object, wherever it has begun
pub record Whole (s : List ℕ) (last : Option ℕ) (chunk from to row : ℕ) (notes notes' : List ℕ) (end number textures : ℕ) : Type 0 where
  pub blocks : List Block
  pub goes : (begun : ℕ) → ahead s last chunk to begun (some []) from ≡ behind (object_at begun blocks ∷ []) (ahead s last chunk to begun none end)
  pub number_is : number ≡ combination (is_in (identifiers blocks))
  pub number_small : number ≤ 9
  pub textures_are : textures ≡ length (materials_of blocks)
  pub noted : Roomy s notes → Put notes (row + 2) (materials_of blocks) notes' (row + 2 + textures)
  pub long : from + 68 * textures + 4 ≤ end
  pub within : end ≤ to

abbrev pub OneIs : List ℕ → Option ℕ → ℕ → ℕ → ℕ → ℕ → List ℕ → List ℕ → Result One Refusal → Type 0
OneIs s last chunk from to row notes notes' (Err r) = (begun : ℕ) → ahead s last chunk to begun (some []) from ≡ refused r
OneIs s last chunk from to row notes notes' (Ok o) = Whole s last chunk from to row notes notes' o.end o.number o.textures
