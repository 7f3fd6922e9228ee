-- What a reader gets of a Cinema 4D file: its objects.
use Rattle.std.specs.Prelude.{ℕ, ◌+◌, cond, List, [], ◌∷◌, ◌++◌, eqb, length}
use Rattle.std.proofs.Math.Option.{none}
use Rattle.shared_flat.specs.Flat.{Format, records}
use Rattle.c4d_rules.specs.Blocks.{Block, size}
use Rattle.c4d_rules.specs.Kinds.{Kind, Platform, Materials, Objects, Other, t_end, t_object, t_texture}
use Rattle.c4d_rules.specs.Combinations.{is_in, combination}
use Rattle.c4d_rules.specs.Layout.{Inside, Chunk, Layout, kind, sub_chunks, chunk_size}
use Rattle.c4d_rules.specs.Rules.{Open, so_far, object_id, identifiers, after_object, material, Before, start, after}

-- "per object its offset, combination (1 to 9, the first that holds) and its textures' materials, in order"
pub record Object : Type 0 where
  -- that of its T_OBJECT
  pub offset : ℕ
  pub combination : ℕ
  -- each as its 32 bits
  pub materials : List ℕ

abbrev pub materials_of : List Block → List ℕ
materials_of [] = []
materials_of (b ∷ bs) = cond (eqb (object_id b) t_texture) (material b ∷ materials_of bs) (materials_of bs)

-- the object of some sub-chunks, at its T_END
abbrev pub object_at : ℕ → List Block → Object
object_at o bs = record { offset = o; combination = combination (is_in (identifiers bs)); materials = materials_of bs }

-- the objects that end in some sub-chunks, which begin at o; `begun` is the offset of the last T_OBJECT before them
abbrev pub objects_from : ℕ → Open → ℕ → List Block → List Object
objects_from begun held o [] = []
objects_from begun held o (b ∷ bs) =
    cond (eqb (object_id b) t_end) (object_at begun (so_far held) ∷ []) [] ++
    objects_from (cond (eqb (object_id b) t_object) o begun) (after_object held b) (o + size b) bs

-- of a chunk of a kind, whose inside begins at o
abbrev pub objects_inside : ℕ → Kind → Inside → List Object
objects_inside o Platform i = []
objects_inside o Materials i = []
objects_inside o Objects i = objects_from o none o (sub_chunks i)
objects_inside o Other i = []

abbrev pub cinema : Format Before Chunk Object
cinema = record { size = chunk_size; after = after; gives = λ p o c. objects_inside (o + length c.head) (kind c) c.inside }

-- the objects of a file, whose chunks begin behind its header
abbrev pub objects : Layout → List Object
objects l = records cinema start 12 l
