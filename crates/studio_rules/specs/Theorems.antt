-- What is proved of the walk's verdict and of what the rules give. (The demands themselves, said of the calls, rest on this
-- and stand in crate claim_demands.)
use Rattle.std.specs.Prelude.{◌≡◌, ◌↔◌, ◌⊎◌, ℕ, suc, ◌+◌, ◌*◌, ◌≤◌, ◌<◌, true, List, [], length, drop}
use Rattle.std.proofs.Math.Option.{some}
use Rattle.std.proofs.Math.ListN.{get_elem?}
use Rattle.shared_words.specs.Bytes.{Bytes}
use Rattle.shared_words.specs.Refusals.{limit}
use Rattle.studio_rules.specs.declared.Record.{Record}
use Rattle.shared_words.specs.Lists.{All, Pairwise}
use Rattle.studio_rules.specs.Layout.{Run, figure, bytes, identifiers}
use Rattle.studio_rules.specs.OwnData.{root}
use Rattle.studio_rules.specs.Rules.{Parent, few, Obeys, version, Meets}
use Rattle.shared_words.specs.Conditions.{accepted}
use Rattle.studio_rules.specs.Walk.{version_in, verdict}
use Rattle.studio_rules.specs.Gives.{list, headers, owned, skipped, Mesh, meshes, Part, parts}
use Rattle.studio_rules.specs.Gaps.{Marked, figure_of, without, with, InGaps, Piece, pieces, bytes_put, Moved, SameMesh}

-- A file is accepted, with a layout, exactly when it meets the rules with that layout.
abbrev pub AcceptedExactly : Type 0
AcceptedExactly = (s : List ℕ) → Bytes s → (kids : Run) → (verdict s ≡ accepted kids) ↔ Meets s kids

-- A file has one layout.
abbrev pub OneLayout : Type 0
OneLayout = (s : List ℕ) (kids kids' : Run) → Meets s kids → Meets s kids' → kids ≡ kids'

-- The version that the bytes of a file tell is that of its layout.
abbrev pub VersionAgrees : Type 0
VersionAgrees = (s : List ℕ) (kids : Run) → Meets s kids → version_in (drop 6 s) ≡ version kids

-- A mesh has a pair for each vertex, or none, and two numbers for each pair: under either rule, though an old file has
-- fewer of them.
pub record Whole (m : Mesh) : Type 0 where
  pub all_or_none : (m.pair_count ≡ m.vertex_count) ⊎ (m.pair_count ≡ 0)
  pub two-each : length m.mapping ≡ 2 * m.pair_count

abbrev pub MappingWhole : Type 0
MappingWhole = (s : List ℕ) (kids : Run) → Meets s kids → All Whole (meshes kids)

-- "At most one" is a rule of each child with those before it; so of all children of a chunk q at most one is of a group.
abbrev pub AtMostOne : Type 0
AtMostOne = (q : Parent) (kids : Run) → Obeys q [] kids → few q.id (identifiers kids) ≡ true

-- The byte counts add to the file's length.
abbrev pub CountsAdd : Type 0
CountsAdd = (s : List ℕ) (kids : Run) → Meets s kids → headers (figure kids) + owned (figure kids) + skipped (figure kids) ≡ length s

-- Stepping over a branch: of each record, of number i, the seventh number lies above i and not above that of its parent,
-- which is in the list. (4D4D is its own parent.)
abbrev pub StepsOver : Type 0
StepsOver = (kids : Run) (i : ℕ) (r : Record) → get_elem? (list kids) i ≡ some r →
    (i < r.next) × ((q : Record) × (get_elem? (list kids) r.parent ≡ some q) × (r.next ≤ q.next))

-- And the branches nest: what is numbered between a record and its seventh number is inside it, with its own branch and by
-- its parent.
abbrev pub BranchesNest : Type 0
BranchesNest = (kids : Run) (i j : ℕ) (r q : Record) → get_elem? (list kids) i ≡ some r → get_elem? (list kids) j ≡ some q → i < j → j < r.next →
    (q.next ≤ r.next) × (i ≤ q.parent)

-- So the branches of two siblings are apart. (Number 0 is 4D4D, which has none.)
abbrev pub SiblingsApart : Type 0
SiblingsApart =
    (kids : Run) (i j : ℕ) (r q : Record) →
    get_elem? (list kids) i ≡ some r → get_elem? (list kids) j ≡ some q → 0 < i → i < j → q.parent ≡ r.parent → r.next ≤ j

-- record j is inside record i, at any depth: i is its parent, or its parent is inside i
pub data Inside (rs : List Record) (i : ℕ) : ℕ → Type 0 where
  child : {j : ℕ} {q : Record} → get_elem? rs j ≡ some q → 0 < j → q.parent ≡ i → Inside rs i j
  deeper : {j : ℕ} {q : Record} → get_elem? rs j ≡ some q → 0 < j → Inside rs i q.parent → Inside rs i j

-- A step goes over just the branch: what is inside record i is what is numbered above i and below its seventh number.
abbrev pub BranchExactly : Type 0
BranchExactly = (kids : Run) (i : ℕ) (r : Record) → get_elem? (list kids) i ≡ some r → (j : ℕ) → ((i < j) × (j < r.next)) ↔ Inside (list kids) i j

-- Part number i is a root at depth 0, or its father is an earlier part and it is one deeper.
abbrev pub Hangs : List Part → ℕ → Part → Type 0
Hangs ps i r =
    ((r.father ≡ root) × (r.depth ≡ 0)) ⊎
    (¬ (r.father ≡ root) × (r.father < i) × ((q : Part) × (get_elem? ps r.father ≡ some q) × (r.depth ≡ suc q.depth)))

abbrev pub PartsHang : Type 0
PartsHang = (s : List ℕ) (kids : Run) → Meets s kids → (i : ℕ) (r : Part) → get_elem? (parts kids) i ≡ some r → Hangs (parts kids) i r

-- from part i it is so many steps to a root: none where it is one, else one more than from its father
pub data StepsToRoot (ps : List Part) : ℕ → ℕ → Type 0 where
  is-root : {i : ℕ} {r : Part} → get_elem? ps i ≡ some r → r.father ≡ root → StepsToRoot ps i 0
  by-father : {i n : ℕ} {r : Part} → get_elem? ps i ≡ some r → ¬ (r.father ≡ root) → StepsToRoot ps r.father n → StepsToRoot ps i (suc n)

-- The depth of a part is the number of steps from it to a root.
abbrev pub DepthIsSteps : Type 0
DepthIsSteps = (s : List ℕ) (kids : Run) → Meets s kids → (i : ℕ) (r : Part) → get_elem? (parts kids) i ≡ some r → StepsToRoot (parts kids) i r.depth

-- the ancestors of part i: its father, and the ancestors of its father
pub data Ancestor (ps : List Part) : ℕ → ℕ → Type 0 where
  its_father : {i : ℕ} {r : Part} → get_elem? ps i ≡ some r → ¬ (r.father ≡ root) → Ancestor ps i r.father
  further : {i j : ℕ} {r : Part} → get_elem? ps i ≡ some r → ¬ (r.father ≡ root) → Ancestor ps r.father j → Ancestor ps i j

-- No part is its own ancestor.
abbrev pub NoOwnAncestor : Type 0
NoOwnAncestor = (s : List ℕ) (kids : Run) → Meets s kids → (i : ℕ) → ¬ Ancestor (parts kids) i i

-- the chunks that m marks, as they stand in the file that has them
abbrev pub put_in : Marked → List Piece
put_in m = pieces 0 (figure_of m)

-- all their bytes: every one begins within the file
abbrev pub all_put : Marked → ℕ
all_put m = bytes_put 0 (length (bytes (figure (with m)))) (put_in m)

-- Of the children m of a file's 4D4D, some of them marked: in one piece, for all marked chunks together and
-- both ways.
pub record PutInOrTakenOut (m : Marked) : Type 0 where
  -- an accepted file, with chunks put in, is accepted within the length limit
  pub put_in_lem : (s : List ℕ) → Bytes s → verdict s ≡ accepted (without m) → InGaps 0x4D4D m → length (bytes (figure (with m))) ≤ limit →
      verdict (bytes (figure (with m))) ≡ accepted (with m)
  -- an accepted file, with chunks taken out, is accepted
  pub taken_out : (s : List ℕ) → Bytes s → verdict s ≡ accepted (with m) → verdict (bytes (figure (without m))) ≡ accepted (without m)
  -- the list has the same known chunks in the same order, each moved
  pub list-moved : Pairwise (Moved (put_in m)) (list (without m)) (list (with m))
  -- of the byte counts only the skipped one changes
  pub headers-same : headers (figure (with m)) ≡ headers (figure (without m))
  pub owned-same : owned (figure (with m)) ≡ owned (figure (without m))
  pub skipped-grows : skipped (figure (with m)) ≡ skipped (figure (without m)) + all_put m
  -- the same parts hang on the same ones
  pub parts_same : parts (with m) ≡ parts (without m)
  -- every mesh has the same tables
  pub meshes-same : Pairwise (SameMesh (put_in m)) (meshes (without m)) (meshes (with m))
