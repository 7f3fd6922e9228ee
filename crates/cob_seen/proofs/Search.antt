-- The search in the rows: what its end says of the list, and one identifier more.
use mathlib.Core.Path.{◌≡◌}
use mathlib.Core.List.{List}
use Prim.Native.Nat.{ℕ, ◌+◌, ◌*◌, ◌%◌, ◌<◌, ◌≤◌}
use native.Mathlib.Nat.{mod-lt}
use native.Mathlib.Omega.{arith}
use lib.ListN.{get_or, set, length, length-set, replicate, length-replicate}
use lib.Seq.{get_or-set_same, get_or-set_other}
use Rattle.shared_tree.specs.Tree.{Added, Ended}
use Rattle.shared_tree.proofs.Search as search-tree
use Rattle.std.specs.Prelude.{Some, None}
use Rattle.cob_seen.specs.Tree.{number_in, bits, tree_in, Represents}
use Rattle.cob_seen.proofs.Numbers.{number_none, number_is}

pub bit : (n : ℕ) → n % 2 < 2
bit n = mod-lt n (omega arith)

pub fits_in : (n : ℕ) {k : ℕ} → k ≤ n → k ≤ length {A = ℕ} (replicate n 0)
fits_in n l = omega (arith, length-replicate {A = ℕ} n 0)

-- two rows of zeros represent the list of one 0
pub starts : (m n : ℕ) → 1 ≤ m → 2 ≤ n → Represents (replicate m 0) (replicate n 0) 1
starts m n a b = record {
  tree = search-tree.single {w = bits} {t = tree_in (replicate m 0) (replicate n 0)} (λ k rest. search-tree.zeros n (2 * k + rest % 2));
  some = omega arith;
  room = omega (arith, length-replicate {A = ℕ} m 0);
  links_room = omega (arith, length-replicate {A = ℕ} n 0);
}

module _ (ids links : List ℕ) {count x at rest : ℕ} (e : Ended bits (tree_in ids links) count x at rest) where
  -- what the end of a search says of the list
  pub there : get_or ids at 0 ≡ x → number_in ids count x ≡ Some at
  there h = number_is ids count x at e.comes.node h (search-tree.there e h)

  module _ (n : get_or ids at 0 ≡ x → ⊥) where
    pub nowhere : number_in ids count x ≡ None
    nowhere = number_none ids count x (search-tree.nowhere e n)

    module _ (r : Represents ids links count) (room : count < length ids) (links_room : 2 * count + 1 < length links) where
      added : Added bits (tree_in ids links) count x at rest (tree_in (set ids count x) (set links (2 * at + rest % 2) count))
      added = record {
        nodes = λ k l. get_or-set_other ids count k x 0 (λ q. omega arith);
        new = get_or-set_same ids count x 0 room;
        linked = get_or-set_same links (2 * at + rest % 2) count 0 (omega (arith, bit rest, e.comes.node));
        others = λ k s h. get_or-set_other links (2 * at + rest % 2) (2 * k + s % 2) count 0
            (λ q. h (omega (arith, bit s, bit rest)) (omega (arith, bit s, bit rest)));
      }

      pub grows : Represents (set ids count x) (set links (2 * at + rest % 2) count) (count + 1)
      grows = record {
        tree = search-tree.grows r.tree e n added;
        some = omega arith;
        room = rw (length-set ids count x) (omega arith);
        links_room = rw (length-set links (2 * at + rest % 2) count) (omega arith);
      }

-- no identifier is there twice
pub unique : {ids links : List ℕ} {count : ℕ} → Represents ids links count → (i j : ℕ) → i < count → j < count → get_or ids i 0 ≡ get_or ids j 0 → i ≡ j
unique r = search-tree.unique r.tree
