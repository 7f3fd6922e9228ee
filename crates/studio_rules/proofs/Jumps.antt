-- The seventh number of a record, over the numbers of the records: those inside a chunk follow it without a gap, so that
-- each of them ends where the chunk ends or before.
use mathlib.Core.Path.{◌≡◌, refl, sym, ◌∙◌, subst}
use mathlib.Core.Logic.{◌⊎◌, inl, inr}
use mathlib.Core.Bool.{Bool, true, false}
use Prim.Native.Nat.{ℕ, zero, suc, ◌+◌, ◌≤◌, ◌<◌}
use native.Mathlib.Omega.{arith}
use mathlib.Core.List.{List, [], ◌∷◌, ◌++◌}
use mathlib.Core.Option.{some, some-ne-none, some-injective}
use lib.Dec.{leb}
use lib.ListN.{length, length-append, get_elem?}
use borrow.Author.Tests.{leb-true, leb-false}
use Rattle.studio_rules.specs.declared.Record.{Record}
use Rattle.studio_rules.specs.Layout.{Run, end, skip, known, figure, size}
use Rattle.studio_rules.specs.Gives.{record_count, record_of, records_of, list}
use Rattle.studio_rules.specs.Theorems.{StepsOver, BranchesNest, SiblingsApart, Inside, child, deeper, BranchExactly}
use Rattle.studio_rules.proofs.At.{there, in_range, at_front, at_back, Which, which}

pub length-records : (o depth parent next : ℕ) (t : Run) → length (records_of o depth parent next t) ≡ record_count t
length-records o depth parent next end = refl
length-records o depth parent next (skip id body rest) = length-records (o + (6 + length body)) depth parent next rest
length-records o depth parent next (known id own kids rest) =
    let a = records_of (o + (6 + length own)) (suc depth) next (suc next) kids in
    let b = records_of (o + (6 + length own + size kids)) depth parent (suc (next + record_count kids)) rest in
    omega (
      arith,
      length-append a b,
      length-records (o + (6 + length own)) (suc depth) next (suc next) kids,
      length-records (o + (6 + length own + size kids)) depth parent (suc (next + record_count kids)) rest,
    )

-- ---- the records of a run

-- Number i of the records rs of a run in the chunk of record `parent`, where the first has number `next`: its parent is
-- that chunk, or an earlier one of rs, number j, with whose branch it ends or before.
abbrev Up : ℕ → ℕ → List Record → ℕ → Record → Type 0
Up parent next rs i r = (r.parent ≡ parent) ⊎ ((j : ℕ) × (q : Record) × (r.parent ≡ next + j) × (get_elem? rs j ≡ some q) × (r.next ≤ q.next) × (j < i))

pub record Nested (parent next : ℕ) (rs : List Record) (i : ℕ) (r : Record) : Type 0 where
  pub above : next + i < r.next
  pub within : r.next ≤ next + length rs
  pub up : Up parent next rs i r

-- behind a chunk q, the records ks of what it holds and those ts of what follows it
module _ (parent next : ℕ) (q : Record) (ks ts : List Record) (ends : q.next ≡ suc (next + length ks)) where
  length_both : length (ks ++ ts) ≡ length ks + length ts
  length_both = length-append ks ts

  nested_first : q.parent ≡ parent → Nested parent next (q ∷ (ks ++ ts)) 0 q
  nested_first e = record { above = omega arith; within = omega (arith, length_both); up = inl e }

  nested_kid : (i : ℕ) (r : Record) → Nested next (suc next) ks i r → Nested parent next (q ∷ (ks ++ ts)) (suc i) r
  nested_kid i r n = record { above = omega (arith, n.above); within = omega (arith, n.within, length_both); up = go n.up }
    where
      go : Up next (suc next) ks i r → Up parent next (q ∷ (ks ++ ts)) (suc i) r
      go (inl e) = inr (0, q, omega arith, refl, omega (arith, n.within), omega arith)
      go (inr u) = inr (suc u.0, u.1, omega (arith, u.2), at_front ks ts u.0 u.1 u.3, u.4, omega (arith, u.5))

  nested_later : (j : ℕ) (r : Record) → Nested parent (suc (next + length ks)) ts j r → Nested parent next (q ∷ (ks ++ ts)) (suc (length ks + j)) r
  nested_later j r n = record { above = omega (arith, n.above); within = omega (arith, n.within, length_both); up = go n.up }
    where
      go : Up parent (suc (next + length ks)) ts j r → Up parent next (q ∷ (ks ++ ts)) (suc (length ks + j)) r
      go (inl e) = inl e
      go (inr u) = inr (suc (length ks + u.0), u.1, omega (arith, u.2), at_back ks ts (length ks + u.0) u.0 refl ∙ u.3, u.4, omega (arith, u.5))

  nested_either : ((i : ℕ) (r : Record) → get_elem? ks i ≡ some r → Nested next (suc next) ks i r) →
      ((j : ℕ) (r : Record) → get_elem? ts j ≡ some r → Nested parent (suc (next + length ks)) ts j r) →
      (i : ℕ) (r : Record) → get_elem? (ks ++ ts) i ≡ some r → Nested parent next (q ∷ (ks ++ ts)) (suc i) r
  nested_either in-kids in_rest i r h = go (which ks ts i r h)
    where
      go : Which ks ts i r → Nested parent next (q ∷ (ks ++ ts)) (suc i) r
      go (inl k) = nested_kid i r (in-kids i r k)
      go (inr k) = rw k.1 (nested_later k.0 r (in_rest k.0 r k.2))

nested : (o depth parent next : ℕ) (t : Run) (i : ℕ) (r : Record) → get_elem? (records_of o depth parent next t) i ≡ some r → Nested parent next (records_of o depth parent next t) i r
nested o depth parent next end i r h = absurd (some-ne-none r (sym h))
nested o depth parent next (skip id body t) i r h = nested (o + (6 + length body)) depth parent next t i r h
nested o depth parent next (known id own kids t) zero r h =
    let n = length-records (o + (6 + length own)) (suc depth) next (suc next) kids in
    subst (Nested parent next (records_of o depth parent next (known id own kids t)) 0) (some-injective _ r h)
    (nested_first parent next (record_of o depth parent next id own kids) (records_of (o + (6 + length own)) (suc depth) next (suc next) kids) (records_of (o + (6 + length own + size kids)) depth parent (suc (next + record_count kids)) t) (omega arith) refl)
nested o depth parent next (known id own kids t) (suc i) r h =
    let n = length-records (o + (6 + length own)) (suc depth) next (suc next) kids in
    nested_either parent next (record_of o depth parent next id own kids) (records_of (o + (6 + length own)) (suc depth) next (suc next) kids) (records_of (o + (6 + length own + size kids)) depth parent (suc (next + record_count kids)) t) (omega arith)
    (nested (o + (6 + length own)) (suc depth) next (suc next) kids)
    (λ j r k. rw n (nested (o + (6 + length own + size kids)) depth parent (suc (next + record_count kids)) t j r k)) i r h

pub steps_over : StepsOver
steps_over kids i r h = let n = nested 0 0 0 0 (figure kids) i r h in (omega (arith, n.above), go n.within n.up)
  where
    go : r.next ≤ 0 + length (list kids) → Up 0 0 (list kids) i r →
        (q : Record) × (get_elem? (list kids) r.parent ≡ some q) × (r.next ≤ q.next)
    go w (inl e) = (record_of 0 0 0 0 0x4D4D [] kids, rw e refl, omega (arith, length-records 0 0 0 0 (figure kids)))
    go w (inr u) = let e : r.parent ≡ u.0 = omega (arith, u.2) in (u.1, rw e u.3, u.4)

-- ---- the branches

-- what is numbered between a record and its seventh number is inside it
abbrev Nests : ℕ → List Record → Type 0
Nests next rs = (i j : ℕ) (r q : Record) → get_elem? rs i ≡ some r → get_elem? rs j ≡ some q → i < j → next + j < r.next → (q.next ≤ r.next) × (next + i ≤ q.parent)

module _ (parent next : ℕ) (c : Record) (ks ts : List Record) (ends : c.next ≡ suc (next + length ks))
    (in-kids : (i : ℕ) (r : Record) → get_elem? ks i ≡ some r → Nested next (suc next) ks i r) (kids-nest : Nests (suc next) ks) (rest-nest : Nests (suc (next + length ks)) ts) where
  first_nests : (j : ℕ) (q : Record) → Which ks ts j q → next + suc j < c.next → (q.next ≤ c.next) × (next ≤ q.parent)
  first_nests j q (inr k) l = absurd (omega (arith, k.1))
  first_nests j q (inl k) l = (omega (arith, (in-kids j q k).within), up (in-kids j q k).up)
    where
      up : Up next (suc next) ks j q → next ≤ q.parent
      up (inl e) = omega arith
      up (inr u) = omega (arith, u.2)

  later_nest : (i j : ℕ) (r q : Record) → Which ks ts i r → Which ks ts j q → i < j → next + suc j < r.next → (q.next ≤ r.next) × (next + suc i ≤ q.parent)
  later_nest i j r q (inl g) (inl k) m l = let h = kids-nest i j r q g k m (omega arith) in (h.0, omega (arith, h.1))
  later_nest i j r q (inl g) (inr k) m l = absurd (omega (arith, (in-kids i r g).within, k.1))
  later_nest i j r q (inr g) (inl k) m l = absurd (omega (arith, g.1, in_range ks j q k))
  later_nest i j r q (inr g) (inr k) m l = let h = rest-nest g.0 k.0 r q g.2 k.2 (omega (arith, g.1, k.1)) (omega (arith, k.1)) in (h.0, omega (arith, h.1, g.1))

  all_nest : Nests next (c ∷ (ks ++ ts))
  all_nest zero zero r q g k m l = absurd (omega arith)
  all_nest (suc i) zero r q g k m l = absurd (omega arith)
  all_nest zero (suc j) r q g k m l =
      let e : c ≡ r = some-injective c r g in
      let h = first_nests j q (which ks ts j q k) (rw e l) in
      (rw e at h.0, omega (arith, h.1))
  all_nest (suc i) (suc j) r q g k m l = later_nest i j r q (which ks ts i r g) (which ks ts j q k) (omega arith) l

nests : (o depth parent next : ℕ) (t : Run) → Nests next (records_of o depth parent next t)
nests o depth parent next end = λ i j r q g k m l. absurd (some-ne-none r (sym g))
nests o depth parent next (skip id body t) = nests (o + (6 + length body)) depth parent next t
nests o depth parent next (known id own kids t) =
    let n = length-records (o + (6 + length own)) (suc depth) next (suc next) kids in
    all_nest parent next (record_of o depth parent next id own kids) (records_of (o + (6 + length own)) (suc depth) next (suc next) kids) (records_of (o + (6 + length own + size kids)) depth parent (suc (next + record_count kids)) t) (omega arith)
    (nested (o + (6 + length own)) (suc depth) next (suc next) kids) (nests (o + (6 + length own)) (suc depth) next (suc next) kids)
    (rw n (nests (o + (6 + length own + size kids)) depth parent (suc (next + record_count kids)) t))

pub branches_nest : BranchesNest
branches_nest kids i j r q g k m l = let h = nests 0 0 0 0 (figure kids) i j r q g k m (omega arith) in (h.0, omega (arith, h.1))

parent_earlier_lem : (kids : Run) (i : ℕ) (r : Record) → get_elem? (list kids) i ≡ some r → 0 < i → r.parent < i
parent_earlier_lem kids i r h z = go (nested 0 0 0 0 (figure kids) i r h).up
  where
    go : Up 0 0 (list kids) i r → r.parent < i
    go (inl e) = omega arith
    go (inr u) = omega (arith, u.2, u.5)

pub siblings_apart : SiblingsApart
siblings_apart kids i j r q g k z m e = go (leb r.next j) refl
  where
    go : (t : Bool) → leb r.next j ≡ t → r.next ≤ j
    go true h = leb-true r.next j h
    go false h = absurd (omega (arith, (branches_nest kids i j r q g k m (leb-false r.next j h)).1, parent_earlier_lem kids i r g z))

-- ---- what is inside a record

module _ (kids : Run) (i : ℕ) (r : Record) (h : get_elem? (list kids) i ≡ some r) where
  -- of those below n
  inside-below : (n j : ℕ) → j < n → i < j → j < r.next → Inside (list kids) i j
  inside-below zero j m g k = absurd (omega arith)
  inside-below (suc n) j m g k =
      let q = there (list kids) j (omega (arith, (nested 0 0 0 0 (figure kids) i r h).within)) in
      let z : 0 < j = omega arith in
      let b = (branches_nest kids i j r q.0 h q.1 g k).1 in
      let e = parent_earlier_lem kids j q.0 q.1 z in
      go (inside-below n) q z b e (leb q.0.parent i) refl
    where
      go : ((p : ℕ) → p < n → i < p → p < r.next → Inside (list kids) i p) → (q : (x : Record) × (get_elem? (list kids) j ≡ some x)) → 0 < j →
          i ≤ q.0.parent → q.0.parent < j → (t : Bool) → leb q.0.parent i ≡ t → Inside (list kids) i j
      go below q z b e true u = child q.1 z (omega (arith, leb-true q.0.parent i u))
      go below q z b e false u = deeper q.1 z (below q.0.parent (omega arith) (leb-false q.0.parent i u) (omega arith))

  inside-within : (j : ℕ) → Inside (list kids) i j → (i < j) × (j < r.next)
  inside-within j (child {q = q} k z e) =
      let s = steps_over kids j q k in
      let p = parent_earlier_lem kids j q k z in
      let same : s.1.0 ≡ r = some-injective s.1.0 r (sym s.1.1 ∙ rw e h) in
      (omega arith, omega (arith, s.0, s.1.2, rw same at s.1.2))
  inside-within j (deeper {q = q} k z u) =
      let s = steps_over kids j q k in
      let p = parent_earlier_lem kids j q k z in
      let w = inside-within q.parent u in
      let b = (branches_nest kids i q.parent r s.1.0 h s.1.1 w.0 w.1).0 in
      (omega (arith, w.0), omega (arith, s.0, s.1.2))

pub branch_exactly : BranchExactly
branch_exactly kids i r h j = (λ b. inside-below kids i r h (suc j) j (omega arith) b.0 b.1, inside-within kids i r h j)
