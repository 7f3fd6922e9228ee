-- A digital search tree in two rows, and the list of identifiers that it represents: the first `count` of `ids`.
use Rattle.std.specs.Prelude.{◌≡◌, Option, Some, None, Bool, true, false, cond, not, ◌&&◌, List, ℕ, zero, suc, ◌+◌, ◌*◌, ◌/◌, ◌%◌, ◌<◌, ◌≤◌, get_or, set, length, eqb}
use Rattle.std.specs.Option.{is_some}
use Rattle.shared_tree.specs.Tree.{Way, Tree, Searchable}

-- the number of x in a list of identifiers
unfoldable pub number_in : List ℕ → ℕ → ℕ → Option ℕ
number_in ids zero x = None
number_in ids (suc n) x = cond (eqb (get_or ids n 0) x) (Some n) (number_in ids n x)

-- a search takes the bits of x from the lowest up
abbrev pub bits : Way ℕ ℕ
bits = record { start = λ x. x; side = λ rest. rest % 2; next = λ x rest. rest / 2 }

abbrev pub tree_in : List ℕ → List ℕ → Tree ℕ
tree_in ids links = record { key = λ k. get_or ids k 0; link = λ k side. get_or links (2 * k + side) 0 }

pub record Represents (ids links : List ℕ) (count : ℕ) : Type 0 where
  pub tree : Searchable bits (tree_in ids links) count
  pub some : 0 < count
  pub room : count ≤ length ids
  pub links_room : 2 * count ≤ length links

-- there is room for one identifier more, and a link holds its number
pub record Ready (ids links : List ℕ) (count : ℕ) : Type 0 where
  pub tree : Represents ids links count
  pub small : count < 4294967296
  pub node : count < length ids
  pub sides : 2 * count + 2 ≤ length links

-- x is added to the list unless it is there
pub record Grown (ids links : List ℕ) (count x : ℕ) (added : Bool) (ids' links' : List ℕ) : Type 0 where
  pub answer : added ≡ not (is_some (number_in ids count x))
  pub new : added ≡ true → (ids' ≡ set ids count x) × Represents ids' links' (count + 1)
  pub old : added ≡ false → (ids' ≡ ids) × (links' ≡ links)

-- x is added where its parent is in the list and it is not
pub record Admitted (ids : List ℕ) (count x parent : ℕ) (added : Bool) (ids' links' : List ℕ) : Type 0 where
  pub answer : added ≡ (is_some (number_in ids count parent) && not (is_some (number_in ids count x)))
  pub new : added ≡ true → (ids' ≡ set ids count x) × Represents ids' links' (count + 1)
