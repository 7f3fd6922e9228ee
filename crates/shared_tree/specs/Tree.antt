-- A digital search tree, whatever its keys are: node k holds a key and has a link on each side, the number of a later node or 0. Which side
-- a search takes is told by its key and by how far it has come. Nothing here depends on how: a good way only makes searches short.
use Rattle.std.specs.Prelude.{◌≡◌, ℕ, ◌<◌, ◌≤◌}

-- the way of a search: where a key starts, the side that it takes, and what comes after that
pub record Way (A S : Type 0) : Type 0 where
  pub start : A → S
  pub side : S → ℕ
  pub next : A → S → S

pub record Tree (A : Type 0) : Type 0 where
  pub key : ℕ → A
  pub link : ℕ → ℕ → ℕ

module _ {A S : Type 0} (w : Way A S) (t : Tree A) where
  -- the link of node k on the side of s
  abbrev pub link_of : ℕ → S → ℕ
  link_of k s = t.link k (w.side s)

  -- a search for x from node k, with s left, ends at node j, which holds x
  pub data Leads (x : A) : S → ℕ → ℕ → Type 0 where
    here : {s : S} {k j : ℕ} → t.key k ≡ x → k ≡ j → Leads x s k j
    on : {s : S} {k j : ℕ} → (t.key k ≡ x → ⊥) → 0 < link_of k s → Leads x (w.next x s) (link_of k s) j → Leads x s k j

  -- links rise, so a search ends; nothing is linked from where no node is; and every key is found, so none is there twice
  pub record Searchable (count : ℕ) : Type 0 where
    pub rises : (k : ℕ) (s : S) → k < count → 0 < link_of k s → (k < link_of k s) × (link_of k s < count)
    pub free : (k : ℕ) (s : S) → count ≤ k → link_of k s ≡ 0
    pub found : (j : ℕ) → j < count → Leads (t.key j) (w.start (t.key j)) 0 j

  -- a tree that keeps the nodes and the links of this one, and may have more
  pub record Keeps (count : ℕ) (t' : Tree A) : Type 0 where
    pub nodes : (k : ℕ) → k < count → t'.key k ≡ t.key k
    pub linked : (k : ℕ) (s : S) → k < count → 0 < link_of k s → t'.link k (w.side s) ≡ link_of k s

  -- the tree with x as one node more, linked from node `at` on the side of s
  pub record Added (count : ℕ) (x : A) (at : ℕ) (s : S) (t' : Tree A) : Type 0 where
    pub nodes : (k : ℕ) → k < count → t'.key k ≡ t.key k
    pub new : t'.key count ≡ x
    pub linked : t'.link at (w.side s) ≡ count
    pub others : (k : ℕ) (r : S) → (k ≡ at → w.side r ≡ w.side s → ⊥) → t'.link k (w.side r) ≡ link_of k r

module _ {A S : Type 0} (w : Way A S) (t : Tree A) where
  -- the search for x has come to node `at`: x, if it is there, is found from here, and what is put here is found from the start
  pub record Comes (count : ℕ) (x : A) (at : ℕ) (s : S) : Type 0 where
    pub node : at < count
    pub ahead : (j : ℕ) → j < count → t.key j ≡ x → Leads w t x s at j
    pub back : (t' : Tree A) → Keeps w t count t' → (j : ℕ) → Leads w t' x s at j → Leads w t' x (w.start x) 0 j

  -- and it ends there
  pub record Ended (count : ℕ) (x : A) (at : ℕ) (s : S) : Type 0 where
    pub comes : Comes count x at s
    pub ends : (t.key at ≡ x → ⊥) → link_of w t at s ≡ 0
