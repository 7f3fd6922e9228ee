-- The rules of Q-12, each under its own name; and what it is for a file to meet them.
use Rattle.std.specs.Prelude.{◌≡◌, ℕ, suc, ◌≤◌, Bool, true, false, not, ◌&&◌, ◌||◌, cond, List, [], ◌∷◌, ◌++◌, eqb, leb, length, drop}
use Rattle.std.proofs.Math.Option.{Option, none, some}
use Rattle.shared_words.specs.Refusals.{limit}
use Rattle.shared_flat.specs.Flat.{Obeys, after_all}
use Rattle.shared_words.specs.Bytes.{value_be, minus_one, negative}
use Rattle.c4d_rules.specs.Blocks.{Block, chunk_header, material_header, object_header, identifier, Framed}
use Rattle.c4d_rules.specs.Kinds.{Kind, Platform, Materials, Objects, Other, mat_end, mat_next, t_end, t_object, t_texture, listed}
use Rattle.c4d_rules.specs.Combinations.{combined}
use Rattle.c4d_rules.specs.Layout.{Inside, plain, subs, Chunk, Layout, kind, sub_chunks, block, bytes}

-- ---- MAT4

-- "MAT4 sub-chunks end with MAT_END." What is known before a sub-chunk: whether it follows MAT_END.
abbrev pub material_id : Block → ℕ
material_id b = identifier material_header b.head

abbrev pub after_material : Bool → Block → Bool
after_material ended b = eqb (material_id b) mat_end

pub record MaterialRules (ended : Bool) (b : Block) : Type 0 where
  pub framed : Framed material_header b
  pub nothing-after-end : not ended ≡ true

pub record MaterialsObey (bs : List Block) : Type 0 where
  pub each : Obeys after_material MaterialRules false bs
  pub end-there : after_all after_material false bs ≡ true

-- the number of MAT_NEXTs
abbrev pub nexts : List Block → ℕ
nexts [] = 0
nexts (b ∷ bs) = cond (eqb (material_id b) mat_next) (suc (nexts bs)) (nexts bs)

-- ---- OBJ5

-- What is known before a sub-chunk: none between two objects; in an object, its sub-chunks so far behind T_OBJECT.
abbrev pub Open : Type 0
Open = Option (List Block)

abbrev pub is_open : Open → Bool
is_open none = false
is_open (some bs) = true

abbrev pub so_far : Open → List Block
so_far none = []
so_far (some bs) = bs

abbrev pub object_id : Block → ℕ
object_id b = identifier object_header b.head

abbrev pub identifiers : List Block → List ℕ
identifiers [] = []
identifiers (b ∷ bs) = object_id b ∷ identifiers bs

-- between two objects only unknown sub-chunks stand, which are skipped
abbrev pub with_one : Open → Block → Open
with_one none b = none
with_one (some bs) b = some (bs ++ (b ∷ []))

abbrev pub after_object : Open → Block → Open
after_object held b = cond (eqb (object_id b) t_object) (some []) (cond (eqb (object_id b) t_end) none (with_one held b))

-- a rule that speaks of textures only, and one that speaks of T_END only
abbrev pub of_texture : Block → Bool → Bool
of_texture b rule = cond (eqb (object_id b) t_texture) rule true

abbrev pub of_end : Block → Bool → Bool
of_end b rule = cond (eqb (object_id b) t_end) rule true

-- section 4.3.11: 64 bytes, of which the last four are the material
abbrev pub texture_whole : Block → Bool
texture_whole b = of_texture b (eqb (length b.body) 64)

-- "each object starts with T_OBJECT and ends with T_END": T_OBJECT stands between two objects, and any other listed one in an object
abbrev pub is_in_place : Open → Block → Bool
is_in_place held b = cond (listed (object_id b)) (cond (eqb (object_id b) t_object) (not (is_open held)) (is_open held)) true

-- The material is signed, and answered as its 32 bits.
abbrev pub material : Block → ℕ
material b = value_be (drop 60 b.body)

-- "with a MAT4 before it from 0 to the number of its MAT_NEXTs": the last material, where there is a MAT4
abbrev pub up_to : Option ℕ → ℕ → Bool
up_to none n = false
up_to (some last) n = not (negative 4 n) && leb n last

abbrev pub material_there : Option ℕ → Block → Bool
material_there last b = of_texture b (eqb (material b) minus_one || up_to last (material b))

-- at its T_END an object uses one of the nine combinations, and repeats only textures
abbrev pub combination_holds : Open → Block → Bool
combination_holds held b = of_end b (combined (identifiers (so_far held)))

pub record ObjectRules (last : Option ℕ) (held : Open) (b : Block) : Type 0 where
  pub framed : Framed object_header b
  pub texture-whole : texture_whole b ≡ true
  pub in_place : is_in_place held b ≡ true
  pub material-there : material_there last b ≡ true
  pub combination-holds : combination_holds held b ≡ true

pub record ObjectsObey (last : Option ℕ) (bs : List Block) : Type 0 where
  pub each : Obeys after_object (ObjectRules last) none bs
  pub end-there : not (is_open (after_all after_object none bs)) ≡ true

-- ---- chunks

-- What is known before a chunk: whether there is any other; the number of the last material, which is that of the MAT_NEXTs, where
-- there is a MAT4; and whether there is an OBJ5.
pub record Before : Type 0 where
  pub any : Bool
  pub last : Option ℕ
  pub objects : Bool

abbrev pub start : Before
start = record { any = false; last = none; objects = false }

abbrev pub is_none : Option ℕ → Bool
is_none none = true
is_none (some n) = false

abbrev pub after_kind : Before → Kind → Inside → Before
after_kind p Platform i = record { any = true; last = p.last; objects = p.objects }
after_kind p Materials i = record { any = true; last = some (nexts (sub_chunks i)); objects = p.objects }
after_kind p Objects i = record { any = true; last = p.last; objects = true }
after_kind p Other i = record { any = true; last = p.last; objects = p.objects }

abbrev pub after : Before → Chunk → Before
after p c = after_kind p (kind c) c.inside

-- "PLTF first if present, MAT4 before OBJ5, each at most once, others skipped"
abbrev pub is_in_order : Before → Kind → Bool
is_in_order p Platform = not p.any
is_in_order p Materials = is_none p.last && not p.objects
is_in_order p Objects = not p.objects
is_in_order p Other = true

-- MAT4 and OBJ5 are their sub-chunks, and no other chunk is looked into
abbrev pub InsideObeys : Option ℕ → Kind → Inside → Type 0
InsideObeys last Platform (plain rest) = Unit
InsideObeys last Platform (subs bs) = ⊥
InsideObeys last Materials (plain rest) = ⊥
InsideObeys last Materials (subs bs) = MaterialsObey bs
InsideObeys last Objects (plain rest) = ⊥
InsideObeys last Objects (subs bs) = ObjectsObey last bs
InsideObeys last Other (plain rest) = Unit
InsideObeys last Other (subs bs) = ⊥

pub record ChunkRules (p : Before) (c : Chunk) : Type 0 where
  pub framed : Framed chunk_header (block c)
  pub in_order : is_in_order p (kind c) ≡ true
  pub inside-obeys : InsideObeys p.last (kind c) c.inside

-- THE FILE s MEETS THE RULES, with the layout l
pub record Meets (s : List ℕ) (l : Layout) : Type 0 where
  pub is : bytes l ≡ s
  pub within-limit : length s ≤ limit
  pub chunks : Obeys after ChunkRules start l
