-- The row: where a search in it ended, and one node more.
use mathlib.Core.Path.{◌≡◌, refl, ap, ◌∙◌}
use mathlib.Core.Bool.{Bool, true, false, true≢false, false≢true, ◌||◌}
use mathlib.Core.List.{List}
use Prim.Native.Nat.{ℕ, ◌+◌, ◌*◌, ◌%◌, ◌<◌, ◌≤◌}
use native.Mathlib.Numerals.{add-one}
use native.Mathlib.Omega.{arith}
use lib.Dec.{eqb}
use lib.ListN.{get_or, set, length, length-set, replicate, take, drop}
use lib.Seq.{get_or-set_same, get_or-set_other}
use borrow.Author.Tests.{eqb-true, eqb-false}
use Rattle.shared_words.specs.Lists.{same}
use Rattle.shared_words.proofs.Lists.{same_true}
use Rattle.shared_tree.specs.Tree.{Searchable, Comes, Ended, Added}
use Rattle.shared_tree.proofs.Search.{zeros, empty, single, nowhere, grows}
use Rattle.shared_name_tree.specs.declared.Turn.{Turn}
use Rattle.shared_name_tree.specs.Names.{name_of, held, way, tree_in, Holds, Put, Open, Grown}
use Rattle.shared_name_tree.proofs.Way.{bit}
use Rattle.shared_name_tree.proofs.Held.{held_none, held_at, held_same}

module _ (names nodes : List ℕ) (x : List ℕ) where
  -- ---- where a search ended

  pub landed_there : {count k : ℕ} {t : Turn} → Comes way (tree_in names nodes) count x k t → same (name_of names nodes k) x ≡ true → held (name_of names nodes) count x ≡ true
  landed_there {count} {k} c e = held_at (name_of names nodes) x count k c.node (same_true (name_of names nodes k) x e)

  pub landed_none : (count : ℕ) → count ≡ 0 → Searchable way (tree_in names nodes) count → Open names nodes count x 2
  unfolding held
  landed_none count z r = record {
    absent = rw z;
    within = omega arith;
    a_link = λ k. (λ e. omega arith, λ e. omega arith);
    grows = λ nodes' p. rw z (single {w = way} {t = tree_in names nodes'} (unlinked nodes' p));
  }
    where
      unlinked : (nodes' : List ℕ) → Put names nodes count x 2 nodes' → (k : ℕ) (s : Turn) → get_or nodes' (4 * k + 2 + s.rest % 2) 0 ≡ 0
      unlinked nodes' p k s = go (eqb (4 * k + 2 + s.rest % 2) 2) refl
        where
          go : (b : Bool) → eqb (4 * k + 2 + s.rest % 2) 2 ≡ b → get_or nodes' (4 * k + 2 + s.rest % 2) 0 ≡ 0
          go true q = ap (λ (i : ℕ). get_or nodes' i 0) (eqb-true (4 * k + 2 + s.rest % 2) 2 q) ∙ p.linked ∙ z
          go false q = p.others (4 * k + 2 + s.rest % 2) (eqb-false (4 * k + 2 + s.rest % 2) 2 q) (λ u. omega arith) (λ u. omega arith) ∙ r.free k s (omega arith)

  module _ {count k : ℕ} {t : Turn} (r : Searchable way (tree_in names nodes) count) (e : Ended way (tree_in names nodes) count x k t) (n : name_of names nodes k ≡ x → ⊥) where
    added : (nodes' : List ℕ) → Put names nodes count x (4 * k + 2 + t.rest % 2) nodes' → Added way (tree_in names nodes) count x k t (tree_in names nodes')
    added nodes' p = record {
      nodes = λ j l. rw (
        p.others (4 * j) (λ q. omega (arith, bit t.rest)) (λ q. omega arith) (λ q. omega arith),
        p.others (4 * j + 1) (λ q. omega (arith, bit t.rest)) (λ q. omega arith) (λ q. omega arith),
      );
      new = p.name;
      linked = p.linked;
      others = λ j s h. p.others (4 * j + 2 + s.rest % 2)
          (λ q. h (omega (arith, bit s.rest, bit t.rest)) (omega (arith, bit s.rest, bit t.rest))) (λ q. omega (arith, bit s.rest)) (λ q. omega (arith, bit s.rest));
    }

    pub landed_open : Open names nodes count x (4 * k + 2 + t.rest % 2)
    landed_open = record {
      absent = held_none (name_of names nodes) x count (nowhere e n);
      within = omega (arith, bit t.rest, e.comes.node);
      a_link = λ j. (λ q. omega (arith, bit t.rest), λ q. omega (arith, bit t.rest));
      grows = λ nodes' p. grows r e n (added nodes' p);
    }

-- a row of zeros has no node
pub holds-none : (names : List ℕ) (m : ℕ) → Holds names (replicate m 0) 0
holds-none names m = record {
  tree = empty {w = way} {t = tree_in names (replicate m 0)} (λ k s. zeros m (4 * k + 2 + s.rest % 2));
  room = omega arith;
  inside = λ k l. absurd (omega arith);
}

-- ---- one node more

module _ (names nodes : List ℕ) (count place at len : ℕ) (room : 4 * count + 4 ≤ length nodes) where
  abbrev with-node : List ℕ
  with-node = set (set (set nodes place count) (4 * count) at) (4 * count + 1) len

  module _ (o : Open names nodes count (take len (drop at names)) place) where
    begins : get_or with-node (4 * count) 0 ≡ at
    begins =
        get_or-set_other (set (set nodes place count) (4 * count) at) (4 * count + 1) (4 * count) len 0 (λ q. omega arith) ∙
        get_or-set_same (set nodes place count) (4 * count) at 0 (rw (length-set nodes place count) (omega arith))

    spans : get_or with-node (4 * count + 1) 0 ≡ len
    spans = get_or-set_same (set (set nodes place count) (4 * count) at) (4 * count + 1) len 0
        (rw (length-set (set nodes place count) (4 * count) at, length-set nodes place count) (omega arith))

    size : length with-node ≡ length nodes
    size = length-set (set (set nodes place count) (4 * count) at) (4 * count + 1) len ∙ length-set (set nodes place count) (4 * count) at ∙ length-set nodes place count

    put : Put names nodes count (take len (drop at names)) place with-node
    put = record {
      name = rw (begins, spans);
      linked =
          get_or-set_other (set (set nodes place count) (4 * count) at) (4 * count + 1) place len 0 (λ q. (o.a_link count).1 (omega arith)) ∙
          get_or-set_other (set nodes place count) (4 * count) place at 0 (λ q. (o.a_link count).0 (omega arith)) ∙
          get_or-set_same nodes place count 0 (omega (arith, o.within));
      others = λ i a b c.
          get_or-set_other (set (set nodes place count) (4 * count) at) (4 * count + 1) i len 0 (λ q. c (omega arith)) ∙
          get_or-set_other (set nodes place count) (4 * count) i at 0 (λ q. b (omega arith)) ∙ get_or-set_other nodes place i count 0 (λ q. a (omega arith));
    }

    begins_as : (k : ℕ) → k < count → get_or with-node (4 * k) 0 ≡ get_or nodes (4 * k) 0
    begins_as k l = put.others (4 * k) (λ q. (o.a_link k).0 (omega arith)) (λ q. omega arith) (λ q. omega arith)

    spans_as : (k : ℕ) → k < count → get_or with-node (4 * k + 1) 0 ≡ get_or nodes (4 * k + 1) 0
    spans_as k l = put.others (4 * k + 1) (λ q. (o.a_link k).1 (omega arith)) (λ q. omega arith) (λ q. omega arith)

    module _ (h : Holds names nodes count) (fits : at + len ≤ length names) where
      inside : (k : ℕ) → k < count + 1 → get_or with-node (4 * k) 0 + get_or with-node (4 * k + 1) 0 ≤ length names
      inside k l = go (eqb k count) refl
        where
          go : (b : Bool) → eqb k count ≡ b → get_or with-node (4 * k) 0 + get_or with-node (4 * k + 1) 0 ≤ length names
          go true q = let e : k ≡ count = eqb-true k count q in rw (e, begins, spans) fits
          go false q =
              let d = eqb-false k count q in
              let before : k < count = omega arith in
              rw (begins_as k before, spans_as k before) (h.inside k before)

      those : (y : List ℕ) → held (name_of names with-node) (count + 1) y ≡ (same (take len (drop at names)) y || held (name_of names nodes) count y)
      unfolding held
      those y =
          let kept = held_same (name_of names with-node) (name_of names nodes) y count (λ j l. rw (begins_as j l, spans_as j l)) in
          rw (add-one count) (rw (put.name, kept))

      pub grown : Grown names nodes count (take len (drop at names)) true with-node
      grown = record {
        answer = rw o.absent;
        size = size;
        new = λ e. record { tree = o.grows with-node put; room = rw size (omega arith); inside = inside };
        those = λ e. those;
        old = λ e. absurd (true≢false e);
      }

-- what is there is not added
pub not-grown : (names nodes : List ℕ) (count : ℕ) (x : List ℕ) → held (name_of names nodes) count x ≡ true → Grown names nodes count x false nodes
not-grown names nodes count x h = record {
  answer = rw h;
  size = refl;
  new = λ e. absurd (false≢true e);
  those = λ e. absurd (false≢true e);
  old = λ e. refl;
}
