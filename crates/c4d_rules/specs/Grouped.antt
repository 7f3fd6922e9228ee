-- MAT4 and OBJ5 as Q-12 tells them: sub-chunks that end with MAT_END; objects, each from its T_OBJECT to its T_END, and unknown
-- sub-chunks between them. (Rules goes from sub-chunk to sub-chunk instead, as the walk does; Theorems says that it is the same.)
use Rattle.std.specs.Prelude.{◌≡◌, ℕ, ◌+◌, true, false, List, [], ◌∷◌, ◌++◌, eqb}
use Rattle.std.proofs.Math.Option.{Option}
use Rattle.shared_flat.specs.Flat.{total}
use Rattle.c4d_rules.specs.Blocks.{Block, material_header, object_header, size, Framed}
use Rattle.c4d_rules.specs.Kinds.{mat_end, t_end, t_object, listed}
use Rattle.c4d_rules.specs.Combinations.{combined}
use Rattle.c4d_rules.specs.Rules.{material_id, object_id, identifiers, texture_whole, material_there}
use Rattle.c4d_rules.specs.Gives.{Object, object_at}
use Rattle.shared_words.specs.Lists.{All}

-- ---- MAT4

-- a sub-chunk before MAT_END
pub record Earlier (b : Block) : Type 0 where
  pub framed : Framed material_header b
  pub not_end : eqb (material_id b) mat_end ≡ false

pub record EndsOnce (bs : List Block) : Type 0 where
  pub earlier : List Block
  pub end : Block
  pub are : earlier ++ (end ∷ []) ≡ bs
  pub each : All Earlier earlier
  pub end_framed : Framed material_header end
  pub ends : material_id end ≡ mat_end

-- ---- OBJ5

pub data Item : Type 0 where
  -- an unknown sub-chunk
  skipped : Block → Item
  -- an object: its T_OBJECT, its other sub-chunks, its T_END
  object : Block → List Block → Block → Item

abbrev pub item_blocks : Item → List Block
item_blocks (skipped b) = b ∷ []
item_blocks (object b bs e) = b ∷ (bs ++ (e ∷ []))

abbrev pub all_blocks : List Item → List Block
all_blocks [] = []
all_blocks (i ∷ items) = item_blocks i ++ all_blocks items

pub record SkippedRules (b : Block) : Type 0 where
  pub framed : Framed object_header b
  pub unknown : listed (object_id b) ≡ false

-- a sub-chunk in an object, listed or unknown
pub record InnerRules (last : Option ℕ) (b : Block) : Type 0 where
  pub framed : Framed object_header b
  pub not-object : eqb (object_id b) t_object ≡ false
  pub not_end : eqb (object_id b) t_end ≡ false
  pub texture-whole : texture_whole b ≡ true
  pub material-there : material_there last b ≡ true

pub record WholeObject (last : Option ℕ) (b : Block) (bs : List Block) (e : Block) : Type 0 where
  pub object_framed : Framed object_header b
  pub starts : object_id b ≡ t_object
  pub inner : All (InnerRules last) bs
  pub end_framed : Framed object_header e
  pub ends : object_id e ≡ t_end
  pub combination-holds : combined (identifiers bs) ≡ true

abbrev pub ItemRules : Option ℕ → Item → Type 0
ItemRules last (skipped b) = SkippedRules b
ItemRules last (object b bs e) = WholeObject last b bs e

pub record Grouped (last : Option ℕ) (bs : List Block) : Type 0 where
  pub items : List Item
  pub are : all_blocks items ≡ bs
  pub obey : All (ItemRules last) items

-- the objects of items that begin at o
abbrev pub item_objects : ℕ → List Item → List Object
item_objects o [] = []
item_objects o (skipped b ∷ items) = item_objects (o + size b) items
item_objects o (object b bs e ∷ items) = object_at o bs ∷ item_objects (o + (size b + total size bs + size e)) items
