-- The rules of sub-chunks, one after another, say what Q-12 says of them together: a MAT4 ends with its one MAT_END, and an OBJ5 is
-- objects and unknown sub-chunks between them.
use mathlib.Core.Path.{◌≡◌, refl, sym, ap, ◌∙◌, subst}
use Prim.Native.Nat.{ℕ, ◌+◌}
use native.Mathlib.Omega.{arith}
use mathlib.Core.Bool.{Bool, true, false, not, cond, true≢false, false≢true}
use mathlib.Core.List.{List, [], ◌∷◌, ◌++◌, append_assoc, append-nil}
use mathlib.Core.Option.{Option, none, some}
use lib.Dec.{eqb}
use borrow.Author.Tests.{eqb-true}
use Rattle.shared_flat.specs.Flat.{Obeys, after_all, total}
use Rattle.c4d_rules.specs.Blocks.{Block, material_header, object_header, size, Framed}
use Rattle.c4d_rules.specs.Kinds.{mat_end, t_end, t_object, t_texture, listed}
use Rattle.c4d_rules.specs.Combinations.{combined}
use Rattle.c4d_rules.specs.Rules.{material_id, after_material, MaterialRules, Open, is_open, object_id, identifiers, with_one, after_object, ObjectRules}
use Rattle.c4d_rules.specs.Gives.{object_at, objects_from}
use Rattle.shared_words.specs.Lists.{All}
use Rattle.c4d_rules.specs.Grouped.{Earlier, EndsOnce, Item, skipped, object, all_blocks, SkippedRules, InnerRules, ItemRules, Grouped, item_objects}
use Rattle.c4d_rules.specs.Theorems.{EndsExactly, GroupedExactly, ObjectsGrouped}

-- ---- MAT4

nothing-more : (bs : List Block) → Obeys after_material MaterialRules true bs → bs ≡ []
nothing-more [] h = refl
nothing-more (b ∷ bs) h = absurd (false≢true h.0.nothing-after-end)

ends-once : (bs : List Block) → Obeys after_material MaterialRules false bs → after_all after_material false bs ≡ true → EndsOnce bs
ends-once [] h c = absurd (false≢true c)
ends-once (b ∷ bs) h c = go (eqb (material_id b) mat_end) refl (ends-once bs)
  where
    go : (q : Bool) → eqb (material_id b) mat_end ≡ q → (Obeys after_material MaterialRules false bs → after_all after_material false bs ≡ true → EndsOnce bs) → EndsOnce (b ∷ bs)
    go true e r = record {
      earlier = [];
      end = b;
      are = ap (λ (x : List Block). b ∷ x) (sym (nothing-more bs (rw e at h.1)));
      each = tt;
      end_framed = h.0.framed;
      ends = eqb-true (material_id b) mat_end e;
    }
    go false e r =
        let x = r (rw e at h.1) (rw e at c) in
        record {
          earlier = b ∷ x.earlier;
          end = x.end;
          are = ap (λ (y : List Block). b ∷ y) x.are;
          each = (record { framed = h.0.framed; not_end = e }, x.each);
          end_framed = x.end_framed;
          ends = x.ends;
        }

MaterialsIn : Bool → List Block → Type 0
MaterialsIn ended bs = Obeys after_material MaterialRules ended bs × (after_all after_material ended bs ≡ true)

earlier_obey : (bs : List Block) (e : Block) → All Earlier bs → Framed material_header e → material_id e ≡ mat_end → MaterialsIn false (bs ++ (e ∷ []))
unfolding MaterialsIn
earlier_obey [] e h f i = ((record { framed = f; nothing-after-end = refl }, tt), rw i)
earlier_obey (b ∷ bs) e h f i =
    let x : MaterialsIn (after_material false b) (bs ++ (e ∷ [])) = subst (λ (q : Bool). MaterialsIn q (bs ++ (e ∷ []))) (sym h.0.not_end) (earlier_obey bs e h.1 f i) in
    ((record { framed = h.0.framed; nothing-after-end = refl }, x.0), x.1)

pub ends_exactly : EndsExactly
unfolding MaterialsIn
ends_exactly bs = (
  λ h. ends-once bs h.each h.end-there,
  λ g.
      let o : MaterialsIn false bs = subst (MaterialsIn false) g.are (earlier_obey g.earlier g.end g.each g.end_framed g.ends) in
      record { each = o.0; end-there = o.1 },
)

-- ---- OBJ5: from the sub-chunks to the objects

-- what follows in an object after the sub-chunks `past`: the others, its T_END, and more items
record Tail (last : Option ℕ) (past bs : List Block) : Type 0 where
  inner : List Block
  end : Block
  items : List Item
  are : inner ++ (end ∷ all_blocks items) ≡ bs
  inner_obey : All (InnerRules last) inner
  end_framed : Framed object_header end
  ends : object_id end ≡ t_end
  combination-holds : combined (identifiers (past ++ inner)) ≡ true
  obey : All (ItemRules last) items

-- what is unknown is none of the listed
not_this : (id x : ℕ) → listed id ≡ false → listed x ≡ true → eqb id x ≡ false
not_this id x u l = go (eqb id x) refl
  where
    go : (q : Bool) → eqb id x ≡ q → q ≡ false
    go true e = absurd (true≢false (sym l ∙ (ap listed (sym (eqb-true id x e)) ∙ u)))
    go false e = refl

module _ (last : Option ℕ) where
  abbrev Rest : Open → List Block → Type 0
  Rest none bs = Grouped last bs
  Rest (some past) bs = Tail last past bs

  starts : (held : Open) (b : Block) (bs : List Block) → ObjectRules last held b → eqb (object_id b) t_object ≡ true → Tail last [] bs → Rest held (b ∷ bs)
  unfolding listed
  starts none b bs r e t = record {
    items = object b t.inner t.end ∷ t.items;
    are = ap (λ (x : List Block). b ∷ x) (append_assoc t.inner (t.end ∷ []) (all_blocks t.items) ∙ t.are);
    obey = (
      record {
        object_framed = r.framed;
        starts = eqb-true (object_id b) t_object e;
        inner = t.inner_obey;
        end_framed = t.end_framed;
        ends = t.ends;
        combination-holds = t.combination-holds;
      },
      t.obey,
    );
  }
  starts (some past) b bs r e t =
      let l : listed (object_id b) ≡ true = ap listed (eqb-true (object_id b) t_object e) in
      absurd (false≢true (rw (l, e) at r.in_place))

  ends : (held : Open) (b : Block) (bs : List Block) → ObjectRules last held b → eqb (object_id b) t_object ≡ false → eqb (object_id b) t_end ≡ true →
      Grouped last bs → Rest held (b ∷ bs)
  unfolding listed
  ends none b bs r e f g =
      let l : listed (object_id b) ≡ true = ap listed (eqb-true (object_id b) t_end f) in
      absurd (false≢true (rw (l, e) at r.in_place))
  ends (some past) b bs r e f g = record {
    inner = [];
    end = b;
    items = g.items;
    are = ap (λ (x : List Block). b ∷ x) g.are;
    inner_obey = tt;
    end_framed = r.framed;
    ends = eqb-true (object_id b) t_end f;
    combination-holds = rw append-nil (rw f at r.combination-holds);
    obey = g.obey;
  }

  unknown : (q : Bool) → cond q false true ≡ true → q ≡ false
  unknown true h = absurd (false≢true h)
  unknown false h = refl

  goes_on : (held : Open) (b : Block) (bs : List Block) → ObjectRules last held b → eqb (object_id b) t_object ≡ false → eqb (object_id b) t_end ≡ false →
      Rest (with_one held b) bs → Rest held (b ∷ bs)
  goes_on none b bs r e f g = record {
    items = skipped b ∷ g.items;
    are = ap (λ (x : List Block). b ∷ x) g.are;
    obey = (record { framed = r.framed; unknown = unknown (listed (object_id b)) (rw e at r.in_place) }, g.obey);
  }
  goes_on (some past) b bs r e f t = record {
    inner = b ∷ t.inner;
    end = t.end;
    items = t.items;
    are = ap (λ (x : List Block). b ∷ x) t.are;
    inner_obey = (record { framed = r.framed; not-object = e; not_end = f; texture-whole = r.texture-whole; material-there = r.material-there }, t.inner_obey);
    end_framed = t.end_framed;
    ends = t.ends;
    combination-holds = rw append_assoc at t.combination-holds;
    obey = t.obey;
  }

  one_more : (held : Open) (b : Block) (bs : List Block) → ObjectRules last held b → Rest (after_object held b) bs → Rest held (b ∷ bs)
  one_more held b bs r x = go (eqb (object_id b) t_object) refl (eqb (object_id b) t_end) refl
    where
      go : (p : Bool) → eqb (object_id b) t_object ≡ p → (q : Bool) → eqb (object_id b) t_end ≡ q → Rest held (b ∷ bs)
      go true e q f = starts held b bs r e (rw e at x)
      go false e true f = ends held b bs r e f (rw (e, f) at x)
      go false e false f = goes_on held b bs r e f (rw (e, f) at x)

  group : (bs : List Block) (held : Open) → Obeys after_object (ObjectRules last) held bs → not (is_open (after_all after_object held bs)) ≡ true → Rest held bs
  group [] none h c = record { items = []; are = refl; obey = tt }
  group [] (some past) h c = absurd (false≢true c)
  group (b ∷ bs) held h c = one_more held b bs h.0 (group bs (after_object held b) h.1 c)

  -- ---- and back

  abbrev Obey : Open → List Block → Type 0
  Obey held bs = Obeys after_object (ObjectRules last) held bs × (not (is_open (after_all after_object held bs)) ≡ true)

  obey_cons : (held held' : Open) (b : Block) (bs : List Block) → ObjectRules last held b → after_object held b ≡ held' → Obey held' bs → Obey held (b ∷ bs)
  obey_cons held held' b bs r a o =
      let x : Obey (after_object held b) bs = subst (λ (h : Open). Obey h bs) (sym a) o in
      ((r, x.0), x.1)

  always : (q : Bool) → cond q true true ≡ true
  always true = refl
  always false = refl

  inner-obeys : (inner past bs : List Block) → All (InnerRules last) inner → Obey (some (past ++ inner)) bs → Obey (some past) (inner ++ bs)
  inner-obeys [] past bs h o = rw append-nil at o
  inner-obeys (b ∷ inner) past bs h o =
      let r = h.0 in
      obey_cons (some past) (some (past ++ (b ∷ []))) b (inner ++ bs)
      record {
        framed = r.framed;
        texture-whole = r.texture-whole;
        in_place = rw r.not-object (always (listed (object_id b)));
        material-there = r.material-there;
        combination-holds = rw r.not_end;
      }
      (rw (r.not-object, r.not_end)) (inner-obeys inner (past ++ (b ∷ [])) bs h.1 (rw append_assoc o))

  end-obeys : (e : Block) (past bs : List Block) → Framed object_header e → object_id e ≡ t_end → combined (identifiers past) ≡ true → Obey none bs → Obey (some past) (e ∷ bs)
  unfolding listed
  end-obeys e past bs f i h o =
      obey_cons (some past) none e bs
      record { framed = f; texture-whole = rw i; in_place = rw i; material-there = rw i; combination-holds = rw i h }
      (rw i) o

  start-obeys : (b : Block) (bs : List Block) → Framed object_header b → object_id b ≡ t_object → Obey (some []) bs → Obey none (b ∷ bs)
  unfolding listed
  start-obeys b bs f i o =
      obey_cons none (some []) b bs
      record { framed = f; texture-whole = rw i; in_place = rw i; material-there = rw i; combination-holds = rw i }
      (rw i) o

  skipped-obeys : (b : Block) (bs : List Block) → SkippedRules b → Obey none bs → Obey none (b ∷ bs)
  unfolding listed
  skipped-obeys b bs r o =
      let u = r.unknown in
      let x = not_this (object_id b) t_object u refl in
      let y = not_this (object_id b) t_end u refl in
      let z = not_this (object_id b) t_texture u refl in
      obey_cons none none b bs
      record { framed = r.framed; texture-whole = rw z; in_place = rw u; material-there = rw z; combination-holds = rw y }
      (rw (x, y)) o

  items_obey : (items : List Item) → All (ItemRules last) items → Obey none (all_blocks items)
  items_obey [] h = (tt, refl)
  items_obey (skipped b ∷ items) h = skipped-obeys b (all_blocks items) h.0 (items_obey items h.1)
  items_obey (object b bs e ∷ items) h =
      let w = h.0 in
      start-obeys b (bs ++ (e ∷ []) ++ all_blocks items) w.object_framed w.starts
      (rw append_assoc
      (inner-obeys bs [] (e ∷ all_blocks items) w.inner (end-obeys e bs (all_blocks items) w.end_framed w.ends w.combination-holds (items_obey items h.1))))

pub grouped_exactly : GroupedExactly
grouped_exactly last bs = (
  λ h. group last bs none h.each h.end-there,
  λ g.
      let o : Obey last none bs = subst (Obey last none) g.are (items_obey last g.items g.obey) in
      record { each = o.0; end-there = o.1 },
)

-- ---- the objects

-- through the other sub-chunks of an object that began at x
inner-objects : (last : Option ℕ) (inner past bs : List Block) → All (InnerRules last) inner → (x o : ℕ) →
    objects_from x (some past) o (inner ++ bs) ≡ objects_from x (some (past ++ inner)) (o + total size inner) bs
inner-objects last [] past bs h x o =
    let n : o + 0 ≡ o = omega arith in
    rw (append-nil, n)
inner-objects last (b ∷ inner) past bs h x o =
    let r = h.0 in
    let n : o + size b + total size inner ≡ o + (size b + total size inner) = omega arith in
    let ih = inner-objects last inner (past ++ (b ∷ [])) bs h.1 x (o + size b) in
    rw (r.not-object, r.not_end) (rw (append_assoc, n) at ih)

-- whatever object began before
objects-from : (last : Option ℕ) (items : List Item) → All (ItemRules last) items → (x o : ℕ) → objects_from x none o (all_blocks items) ≡ item_objects o items
unfolding listed
objects-from last [] h x o = refl
objects-from last (skipped b ∷ items) h x o =
    let u = h.0.unknown in
    rw (not_this (object_id b) t_object u refl, not_this (object_id b) t_end u refl) (objects-from last items h.1 x (o + size b))
objects-from last (object b bs e ∷ items) h x o =
    let w = h.0 in
    let left = all_blocks items in
    let begins : objects_from x none o (b ∷ ((bs ++ (e ∷ [])) ++ left)) ≡ objects_from o (some []) (o + size b) ((bs ++ (e ∷ [])) ++ left) = rw w.starts in
    let ends : objects_from o (some bs) (o + size b + total size bs) (e ∷ left) ≡ object_at o bs ∷ objects_from o none (o + size b + total size bs + size e) left = rw w.ends in
    let n : o + size b + total size bs + size e ≡ o + (size b + total size bs + size e) = omega arith in
    begins ∙ ap (objects_from o (some []) (o + size b)) (append_assoc bs (e ∷ []) left) ∙ inner-objects last bs [] (e ∷ left) w.inner o (o + size b) ∙ ends ∙
    rw (n, objects-from last items h.1 o (o + (size b + total size bs + size e)))

pub objects_grouped : ObjectsGrouped
objects_grouped last items h o = objects-from last items h o o
