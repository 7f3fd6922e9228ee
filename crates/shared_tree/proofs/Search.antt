-- The search: how it starts, goes on and ends, and that one more link where a search ended changes no search that found something.
use mathlib.Core.Path.{◌≡◌, refl, sym, ap, subst, ◌∙◌}
use mathlib.Core.Bool.{Bool, true, false}
use Prim.Native.Nat.{ℕ, ◌+◌, ◌<◌, ◌≤◌}
use native.Mathlib.Nat.{lt_of_not-le}
use native.Mathlib.Omega.{arith}
use lib.Dec.{eqb, ltb}
use lib.ListN.{get_or, replicate, length-replicate, get_or-replicate, get_or-eq_default}
use borrow.Author.Tests.{eqb-true, eqb-false, ltb-true, ltb-false}
use Rattle.shared_tree.specs.Tree.{Way, Tree, link_of, Leads, here, on, Searchable, Keeps, Added, Comes, Ended}

-- a row of zeros
pub zeros : (n i : ℕ) → get_or {A = ℕ} (replicate n 0) i 0 ≡ 0
zeros n i = go (ltb i n) refl
  where
    go : (t : Bool) → ltb i n ≡ t → get_or {A = ℕ} (replicate n 0) i 0 ≡ 0
    go true t = get_or-replicate n i 0 0 (ltb-true i n t)
    go false t = get_or-eq_default (replicate n 0) 0 (omega (arith, length-replicate {A = ℕ} n 0, ltb-false i n t))

module _ {A S : Type 0} {w : Way A S} {t : Tree A} where
  -- a tree without links has no node, or one
  pub empty : ((k : ℕ) (s : S) → link_of w t k s ≡ 0) → Searchable w t 0
  empty z = record { rises = λ k s l p. absurd (omega arith); free = λ k s l. z k s; found = λ j l. absurd (omega arith) }

  pub single : ((k : ℕ) (s : S) → link_of w t k s ≡ 0) → Searchable w t 1
  single z = record {
    rises = λ k s l p. absurd (omega (arith, z k s));
    free = λ k s l. z k s;
    found = λ j l. let q : 0 ≡ j = omega arith in here (ap t.key q) q;
  }

  -- ---- the search

  pub comes_start : {count : ℕ} → Searchable w t count → 0 < count → (x : A) → Comes w t count x 0 (w.start x)
  comes_start r some x = record {
    node = some;
    ahead = λ j h e. subst (λ (y : A). Leads w t y (w.start y) 0 j) e (r.found j h);
    back = λ t' k j l. l;
  }

  -- past a node that does not hold x
  past : {x : A} {s : S} {k j : ℕ} → Leads w t x s k j → (t.key k ≡ x → ⊥) → (0 < link_of w t k s) × Leads w t x (w.next x s) (link_of w t k s) j
  past (here e q) n = absurd (n e)
  past (on a b l) n = (b, l)

  -- a search goes no further than x
  stops : {x : A} {s : S} {k j : ℕ} → Leads w t x s k j → t.key k ≡ x → k ≡ j
  stops (here e q) h = q
  stops (on a b l) h = absurd (a h)

  pub comes_on : {count : ℕ} {x : A} {at : ℕ} {s : S} → Searchable w t count → Comes w t count x at s →
      (t.key at ≡ x → ⊥) → 0 < link_of w t at s → Comes w t count x (link_of w t at s) (w.next x s)
  comes_on {count} {x} {at} {s} r c n l = record {
    node = (r.rises at s c.node l).1;
    ahead = λ j h e. (past (c.ahead j h e) n).1;
    back = λ t' k j p.
        let q = k.linked at s c.node l in
        c.back t' k j
        (on (λ e. n (sym (k.nodes at c.node) ∙ e)) (omega arith) (subst (λ (y : ℕ). Leads w t' x (w.next x s) y j) (sym q) p));
  }

  -- what the end of a search says of the keys
  pub there : {count : ℕ} {x : A} {at : ℕ} {s : S} → Ended w t count x at s → t.key at ≡ x → (j : ℕ) → j < count → t.key j ≡ x → j ≡ at
  there e h j l q = sym (stops (e.comes.ahead j l q) h)

  pub nowhere : {count : ℕ} {x : A} {at : ℕ} {s : S} → Ended w t count x at s → (t.key at ≡ x → ⊥) → (j : ℕ) → j < count → t.key j ≡ x → ⊥
  nowhere e n j l q = let p = past (e.comes.ahead j l q) n in omega (arith, e.ends n)

  -- ---- one node more

  -- every search that found something finds it in a tree that keeps the nodes and the links
  stays : {t' : Tree A} {count : ℕ} {x : A} {s : S} {k j : ℕ} → Searchable w t count → Keeps w t count t' → k < count → Leads w t x s k j → Leads w t' x s k j
  stays r p l (here e q) = here (p.nodes _ l ∙ e) q
  stays {t'} {count} {x} {s} {k} {j} r p l (on a b m) =
      let q = p.linked k s l b in
      on {s = s} (λ e. a (sym (p.nodes k l) ∙ e)) (rw q b)
      (subst (λ (y : ℕ). Leads w t' x (w.next x s) y j) (sym q) (stays r p (r.rises k s l b).1 m))

  module _ {t' : Tree A} {count : ℕ} {x : A} {at : ℕ} {s : S} (r : Searchable w t count) (e : Ended w t count x at s) (n : t.key at ≡ x → ⊥)
      (a : Added w t count x at s t') where
    -- a link of the new tree is the new one or an old one
    data Linked (k : ℕ) (q : S) : Type 0 where
      new : k ≡ at → w.side q ≡ w.side s → Linked k q
      old : link_of w t' k q ≡ link_of w t k q → Linked k q

    new_is : (u : Tree A) (k : ℕ) (q : S) → k ≡ at → w.side q ≡ w.side s → link_of w u k q ≡ link_of w u at s
    new_is u k q f g = ap (λ (i : ℕ). u.link i (w.side q)) f ∙ ap (u.link at) g

    linked : (k : ℕ) (q : S) → Linked k q
    linked k q = go (eqb k at) refl (eqb (w.side q) (w.side s)) refl
      where
        go : (b : Bool) → eqb k at ≡ b → (d : Bool) → eqb (w.side q) (w.side s) ≡ d → Linked k q
        go true f true g = new (eqb-true k at f) (eqb-true (w.side q) (w.side s) g)
        go true f false g = old (a.others k q (λ u v. eqb-false (w.side q) (w.side s) g v))
        go false f d g = old (a.others k q (λ u v. eqb-false k at f u))

    keeps : Keeps w t count t'
    keeps = record { nodes = a.nodes; linked = λ k q l p. go k q p (linked k q) }
      where
        go : (k : ℕ) (q : S) → 0 < link_of w t k q → Linked k q → link_of w t' k q ≡ link_of w t k q
        go k q p (old h) = h
        go k q p (new f g) = absurd (omega (arith, new_is t k q f g, e.ends n))

    rises : (k : ℕ) (q : S) → k < count + 1 → 0 < link_of w t' k q → (k < link_of w t' k q) × (link_of w t' k q < count + 1)
    rises k q l p = go (linked k q)
      where
        go : Linked k q → (k < link_of w t' k q) × (link_of w t' k q < count + 1)
        go (new f g) = let v = new_is t' k q f g ∙ a.linked in (omega (arith, e.comes.node), omega arith)
        go (old h) =
            let before : k < count = lt_of_not-le (λ c. omega (arith, r.free k q c)) in
            let o = r.rises k q before (omega arith) in
            (omega arith, omega arith)

    free : (k : ℕ) (q : S) → count + 1 ≤ k → link_of w t' k q ≡ 0
    free k q l = a.others k q (λ u v. omega (arith, e.comes.node)) ∙ r.free k q (omega arith)

    -- the search for x comes to the node where it ended, and from there to the new one
    found-new : Leads w t' x (w.start x) 0 count
    found-new =
        let here-not : t'.key at ≡ x → ⊥ = λ h. n (sym (a.nodes at e.comes.node) ∙ h) in
        let last : Leads w t' x s at count =
        on {s = s} here-not (omega (arith, a.linked, e.comes.node)) (subst (λ (k : ℕ). Leads w t' x (w.next x s) k count) (sym a.linked) (here a.new refl)) in
        e.comes.back t' keeps count last

    found : (j : ℕ) → j < count + 1 → Leads w t' (t'.key j) (w.start (t'.key j)) 0 j
    found j l = go (eqb j count) refl
      where
        go : (b : Bool) → eqb j count ≡ b → Leads w t' (t'.key j) (w.start (t'.key j)) 0 j
        go true f = let q : j ≡ count = eqb-true j count f in rw (q, a.new) found-new
        go false f =
            let d = eqb-false j count f in
            let o : j < count = omega arith in
            rw (a.nodes j o) (stays r keeps (omega arith) (r.found j o))

    pub grows : Searchable w t' (count + 1)
    grows = record { rises = rises; free = free; found = found }

  -- ---- no key is there twice

  one_end : {x : A} {s : S} {k i j : ℕ} → Leads w t x s k i → Leads w t x s k j → i ≡ j
  one_end (here e p) (here f q) = sym p ∙ q
  one_end (here e p) (on a b l) = absurd (a e)
  one_end (on a b l) (here f q) = absurd (a f)
  one_end (on a b l) (on c d m) = one_end l m

  pub unique : {count : ℕ} → Searchable w t count → (i j : ℕ) → i < count → j < count → t.key i ≡ t.key j → i ≡ j
  unique r i j a b e = one_end (r.found i a) (subst (λ (x : A). Leads w t x (w.start x) 0 j) (sym e) (r.found j b))
