-- A set of names as a digital search tree in a row of four numbers a node: where its name begins in a slice, how long that is, and the two
-- links. The names are those of the first `count` nodes.
use Rattle.std.specs.Prelude.{◌≡◌, Bool, true, false, not, ◌||◌, cond, List, [], ◌∷◌, ℕ, zero, suc, ◌+◌, ◌*◌, ◌/◌, ◌%◌, ◌<◌, ◌≤◌, get_or, length, take, drop, eqb, ltb, Option, Some, None}
use Rattle.shared_words.specs.Lists.{same}
use Rattle.shared_tree.specs.Tree.{Way, Tree, Searchable}
use Rattle.shared_name_tree.specs.declared.Turn.{Turn}

-- the name of node k
abbrev pub name_of : List ℕ → List ℕ → ℕ → List ℕ
name_of names nodes k = take (get_or nodes (4 * k + 1) 0) (drop (get_or nodes (4 * k) 0) names)

-- x is one of the first n names
unfoldable pub held : (ℕ → List ℕ) → ℕ → List ℕ → Bool
held name zero x = false
held name (suc n) x = same (name n) x || held name n x

-- ---- the sides that the search for a name takes: 32 by a number mixed from all its bytes, then eight by each byte, lowest bit first

unfoldable pub mixed : ℕ → List ℕ → ℕ
mixed m [] = m
mixed m (b ∷ bs) = mixed ((16777619 * m + b) % 4294967296) bs

-- the bits that are left, a 1 above them, and how many bytes were taken
abbrev pub turn : ℕ → ℕ → Turn
turn rest taken = record { rest = rest; taken = taken }

abbrev pub next_of : List ℕ → Turn → Turn
next_of name t =
    cond (eqb (t.rest / 2) 1)
    (cond (ltb t.taken (length name)) (turn (256 + get_or name t.taken 0) (t.taken + 1)) (turn 1 t.taken))
    (turn (t.rest / 2) t.taken)

abbrev pub way : Way (List ℕ) Turn
way = record { start = λ name. turn (4294967296 + mixed 0 name) 0; side = λ t. t.rest % 2; next = next_of }

-- ---- the row

abbrev pub tree_in : List ℕ → List ℕ → Tree (List ℕ)
tree_in names nodes = record { key = name_of names nodes; link = λ k side. get_or nodes (4 * k + 2 + side) 0 }

pub record Holds (names nodes : List ℕ) (count : ℕ) : Type 0 where
  pub tree : Searchable way (tree_in names nodes) count
  pub room : 4 * count ≤ length nodes
  pub inside : (k : ℕ) → k < count → get_or nodes (4 * k) 0 + get_or nodes (4 * k + 1) 0 ≤ length names

-- there is room for one name more, of `len` bytes at a position, and numbers of the row hold both
pub record Ready (names nodes : List ℕ) (count at len : ℕ) : Type 0 where
  pub holds : Holds names nodes count
  pub node : 4 * count + 4 ≤ length nodes
  pub small : count < 4294967296
  pub begins : at < 4294967296
  pub spans : len < 4294967296
  pub whole : at + len ≤ length names

-- the row with x as one node more, whose number is put at a place
pub record Put (names nodes : List ℕ) (count : ℕ) (x : List ℕ) (place : ℕ) (nodes' : List ℕ) : Type 0 where
  pub name : name_of names nodes' count ≡ x
  pub linked : get_or nodes' place 0 ≡ count
  pub others : (i : ℕ) → (i ≡ place → ⊥) → (i ≡ 4 * count → ⊥) → (i ≡ 4 * count + 1 → ⊥) → get_or nodes' i 0 ≡ get_or nodes i 0

-- x is not there, and a link is free where it belongs
pub record Open (names nodes : List ℕ) (count : ℕ) (x : List ℕ) (place : ℕ) : Type 0 where
  pub absent : held (name_of names nodes) count x ≡ false
  pub within : place < 4 * count + 4
  pub a_link : (k : ℕ) → (place ≡ 4 * k → ⊥) × (place ≡ 4 * k + 1 → ⊥)
  pub grows : (nodes' : List ℕ) → Put names nodes count x place nodes' → Searchable way (tree_in names nodes') (count + 1)

-- where the search for x ended: at x, or at a free link
abbrev pub Landed : List ℕ → List ℕ → ℕ → List ℕ → Option ℕ → Type 0
Landed names nodes count x None = held (name_of names nodes) count x ≡ true
Landed names nodes count x (Some place) = Open names nodes count x place

-- x is added to the names unless it is there
pub record Grown (names nodes : List ℕ) (count : ℕ) (x : List ℕ) (added : Bool) (nodes' : List ℕ) : Type 0 where
  pub answer : added ≡ not (held (name_of names nodes) count x)
  pub size : length nodes' ≡ length nodes
  pub new : added ≡ true → Holds names nodes' (count + 1)
  pub those : added ≡ true → (y : List ℕ) → held (name_of names nodes') (count + 1) y ≡ (same x y || held (name_of names nodes) count y)
  pub old : added ≡ false → nodes' ≡ nodes
