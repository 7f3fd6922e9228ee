-- Q-11: two neighbouring children of 3D3D in an accepted file change places, and so any reordering of them.
-- A reader gets the same: the file is accepted, the counts and the parts are the same, and each mesh has the same tables,
-- mapping, name and box under the number that it moves to. (Of a name only the offset changes.)
use Rattle.std.specs.Prelude.{◌≡◌, ℕ, ◌+◌, ◌-◌, cond, List, ◌++◌, ltb, length}
use Rattle.shared_words.specs.Bytes.{Bytes}
use Rattle.studio_rules.specs.Layout.{Run, bytes, ◌then◌}
use Rattle.studio_rules.specs.Walk.{verdict}
use Rattle.shared_words.specs.Conditions.{accepted}
use Rattle.studio_rules.specs.Gives.{meshes_of, Part}
use Rattle.shared_words.specs.Encodings.{Encoding}
use Rattle.studio_rules.specs.Calls.{check_call, Rows, Tables, tables_call, box_call, parts_call}
use Rattle.studio_scene.specs.Scene.{holding, file_of}
use Rattle.claim_swapped.specs.Names.{name_in}

-- Two neighbouring stretches of a run change places: two children, where each is a run of one. They may be listed or not.
pub record Swapped (t u : Run) : Type 0 where
  pub first : Run
  pub left : Run
  pub right : Run
  pub last : Run
  pub was : t ≡ first then left then right then last
  pub is : u ≡ first then right then left then last

-- any reordering: swaps, one after another
pub data Reordered : Run → Run → Type 0 where
  same : (t : Run) → Reordered t t
  swap : {t u v : Run} → Reordered t u → Swapped u v → Reordered t v

-- ---- how mesh numbers move

abbrev pub mesh_count : Run → ℕ
mesh_count t = length (meshes_of 0 0 0 t)

-- Behind the first `a` meshes stand l, and then r: those l go behind those r.
abbrev pub exchanged : ℕ → ℕ → ℕ → ℕ → ℕ
exchanged a l r m = cond (ltb m a) m (cond (ltb m (a + l)) (m + r) (cond (ltb m (a + l + r)) (m - l) m))

abbrev pub by_swap : Run → {t u : Run} → Swapped t u → ℕ → ℕ
by_swap before w = exchanged (mesh_count before + mesh_count w.first) (mesh_count w.left) (mesh_count w.right)

abbrev pub by_swaps : Run → {t u : Run} → Reordered t u → ℕ → ℕ
by_swaps before (same t) m = m
by_swaps before (swap r w) m = by_swap before w (by_swaps before r m)

-- ---- the theorems

-- mesh m of the file s is mesh `to m` of the file s': the tables, the mapping among them, the box and its centre bit for bit, and a number
-- that is too high stays too high
pub record Renumbered (to : ℕ → ℕ) (s s' : List ℕ) : Type 1 where
  pub tables-same : {A B C : Type 0} (t : Tables A B C) (m : ℕ) (rows : Rows A B C) → tables_call t s' (to m) rows ≡ tables_call t s m rows
  -- the name by its bytes: only where it stands may change
  pub name-same : (m : ℕ) → name_in s' (to m) ≡ name_in s m
  pub box-same : (m : ℕ) → box_call s' (to m) ≡ box_call s m

-- the file s' is accepted with the layout kids', and a reader gets the same of it as of s
pub record SameFigure (to : ℕ → ℕ) (s s' : List ℕ) (kids' : Run) : Type 1 where
  pub accepted_too : verdict s' ≡ accepted kids'
  pub length-same : length s' ≡ length s
  pub counts_same : check_call s' ≡ check_call s
  pub meshes-same : Renumbered to s s'
  -- who hangs on whom stands outside 3D3D
  pub parts_same : {A : Type 0} (e : Encoding Part A) (row : List A) → parts_call e s' row ≡ parts_call e s row

-- two stretches x and y of bytes that stand one after the other in s stand the other way round in s'
pub record BytesSwapped (x y s s' : List ℕ) : Type 0 where
  pub front : List ℕ
  pub back : List ℕ
  pub was : s ≡ front ++ (x ++ (y ++ back))
  pub is : s' ≡ front ++ (y ++ (x ++ back))

-- A SWAP
abbrev pub SwapSame : Type 1
SwapSame = (s : List ℕ) (before t u after : Run) (w : Swapped t u) → Bytes s → verdict s ≡ accepted (holding before t after) →
    SameFigure (by_swap before w) s (file_of before u after) (holding before u after)

-- in the file nothing but those bytes changes places
abbrev pub SwapBytes : Type 0
SwapBytes = (s : List ℕ) (before t u after : Run) (w : Swapped t u) → Bytes s → verdict s ≡ accepted (holding before t after) →
    BytesSwapped (bytes w.left) (bytes w.right) s (file_of before u after)

-- ANY REORDERING
abbrev pub ReorderedSame : Type 1
ReorderedSame = (s : List ℕ) (before t u after : Run) (r : Reordered t u) → Bytes s → verdict s ≡ accepted (holding before t after) →
    SameFigure (by_swaps before r) s (file_of before u after) (holding before u after)

-- no two meshes move to one number: the swap back moves them back
abbrev pub ExchangedBack : Type 0
ExchangedBack = (a l r m : ℕ) → exchanged a r l (exchanged a l r m) ≡ m
