-- Six identifiers in a row fix the layout: each next one may stand under one only of the chunks that are open, the last.
use mathlib.Core.Path.{◌≡◌, refl, sym, ap, ◌∙◌}
use mathlib.Core.Logic.{◌⊎◌, inl, inr}
use Prim.Native.Nat.{ℕ, suc, ◌+◌}
use native.Mathlib.Omega.{arith}
use mathlib.Core.Bool.{Bool, true, not, true≢false, false≢true}
use mathlib.Core.List.{List, [], ◌∷◌, ◌++◌, map, append_assoc, map-append}
use lib.ListN.{length}
use borrow.Author.Tests.{eqb-true, not-true}
use Rattle.studio_rules.specs.declared.Record.{Record}
use Rattle.shared_words.specs.Lists.{every}
use Rattle.studio_rules.specs.Table.{fixed, rows, under, shape, plus}
use Rattle.studio_rules.specs.OwnData.{own_size}
use Rattle.studio_rules.specs.Layout.{Run, end, skip, known, size, figure}
use Rattle.studio_rules.specs.Rules.{Parent, inside, no_child, Own, Children, Obeys, version}
use Rattle.studio_rules.specs.Walk.{top}
use Rattle.studio_rules.specs.Gives.{record_count, records_of, skipped}
use Rattle.shared_words.proofs.Bools.{and_parts}
use Rattle.studio_rules.proofs.Verdict.{accepted_exactly}
use Rattle.studio_write_bytes.specs.Bare.{six_chunks}
use Rattle.studio_write.specs.WritesAgain.{JustSix}
use Rattle.studio_write.proofs.Repacked.{none}

-- the identifiers of a run, at any depth, in file order
abbrev ids : Run → List ℕ
ids end = []
ids (skip id body rest) = ids rest
ids (known id own kids rest) = id ∷ (ids kids ++ ids rest)

ids-listed : (o depth parent next : ℕ) (t : Run) → map (λ (r : Record). r.identifier) (records_of o depth parent next t) ≡ ids t
ids-listed o depth parent next end = refl
ids-listed o depth parent next (skip id body rest) = ids-listed (o + (6 + length body)) depth parent next rest
ids-listed o depth parent next (known id own kids rest) =
    ap (λ (l : List ℕ). id ∷ l)
    (map-append (λ (r : Record). r.identifier) (records_of (o + (6 + length own)) (suc depth) next (suc next) kids) (records_of (o + (6 + length own + size kids)) depth parent (suc (next + record_count kids)) rest) ∙
    rw (ids-listed (o + (6 + length own)) (suc depth) next (suc next) kids, ids-listed (o + (6 + length own + size kids)) depth parent (suc (next + record_count kids)) rest))

-- ---- runs that are still to come, in the chunks around them and behind the children `seen`

pub record Open : Type 0 where
  pub parent : Parent
  pub seen : List ℕ
  pub run : Run
  pub obeys : Obeys parent seen run
  pub unskipped : skipped run ≡ 0

abbrev all : List Open → List ℕ
all [] = []
all (o ∷ os) = ids o.run ++ all os

-- a run begins with a chunk
pub record Begins (o : Open) (os : List Open) (x : ℕ) (xs : List ℕ) : Type 0 where
  pub own : List ℕ
  pub kids : Run
  pub rest : Run
  pub is : o.run ≡ known x own kids rest
  pub lawful : Own o.parent o.seen x own
  pub children : Children (inside o.parent o.seen x own) kids
  pub inner : Obeys (inside o.parent o.seen x own) [] kids
  pub outer : Obeys o.parent (x ∷ o.seen) rest
  pub kids_unskipped : skipped kids ≡ 0
  pub rest_unskipped : skipped rest ≡ 0
  pub left : ids kids ++ (ids rest ++ all os) ≡ xs

first : (o : Open) (os : List Open) (x : ℕ) (xs : List ℕ) → all (o ∷ os) ≡ x ∷ xs → (all os ≡ x ∷ xs) ⊎ Begins o os x xs
first o os x xs e = go o.run refl o.obeys o.unskipped e
  where
    go : (t : Run) → o.run ≡ t → Obeys o.parent o.seen t → skipped t ≡ 0 → ids t ++ all os ≡ x ∷ xs → (all os ≡ x ∷ xs) ⊎ Begins o os x xs
    go end q b s e = inl e
    go (skip id body rest) q b s e = absurd (omega arith)
    go (known id own kids rest) q b s e =
        let i : id ≡ x = cc in
        let t : (ids kids ++ ids rest) ++ all os ≡ xs = cc in
        inr record {
          own = own;
          kids = kids;
          rest = rest;
          is = rw i at q;
          lawful = rw i at b.0;
          children = rw i at b.1;
          inner = rw i at b.2;
          outer = rw i at b.3;
          kids_unskipped = omega arith;
          rest_unskipped = omega arith;
          left = sym (append_assoc (ids kids) (ids rest) (all os)) ∙ t;
        }

-- none of the chunks around may hold x
abbrev closed : ℕ → List Open → Bool
closed x = every (λ o. not (under o.parent.id x))

closed_none : (os : List Open) (x : ℕ) (xs : List ℕ) → closed x os ≡ true → all os ≡ x ∷ xs → ⊥
unfolding every
closed_none [] x xs c e = let z : ◌≡◌ {A = ℕ} 0 1 = cc in omega arith
closed_none (o ∷ os) x xs c e = go (first o os x xs e) (closed_none os x xs p.1)
  where
    p : (not (under o.parent.id x) ≡ true) × (closed x os ≡ true)
    p = and_parts (not (under o.parent.id x)) (closed x os) c

    go : (all os ≡ x ∷ xs) ⊎ Begins o os x xs → (all os ≡ x ∷ xs → ⊥) → ⊥
    go (inl e) ih = ih e
    go (inr b) ih = true≢false (sym b.lawful.in_place ∙ not-true _ p.0)

begins : (o : Open) (os : List Open) (x : ℕ) (xs : List ℕ) → closed x os ≡ true → all (o ∷ os) ≡ x ∷ xs → Begins o os x xs
begins o os x xs c e = go (first o os x xs e)
  where
    go : (all os ≡ x ∷ xs) ⊎ Begins o os x xs → Begins o os x xs
    go (inl e) = absurd (closed_none os x xs c e)
    go (inr b) = b

module _ {o : Open} {os : List Open} {x : ℕ} {xs : List ℕ} (b : Begins o os x xs) where
  abbrev inner-run : Open
  inner-run = record { parent = inside o.parent o.seen x b.own; seen = []; run = b.kids; obeys = b.inner; unskipped = b.kids_unskipped }

  abbrev outer_run : Open
  outer_run = record { parent = o.parent; seen = x ∷ o.seen; run = b.rest; obeys = b.outer; unskipped = b.rest_unskipped }

-- ---- runs that hold nothing

empty : (t : Run) → skipped t ≡ 0 → ids t ≡ [] → t ≡ end
empty end s e = refl
empty (skip id body rest) s e = absurd (omega arith)
empty (known id own kids rest) s e = let z : ◌≡◌ {A = ℕ} 0 1 = cc in absurd (omega arith)

childless : (t : Run) → no_child t ≡ true → t ≡ end
childless end h = refl
childless (skip id body rest) h = absurd (false≢true h)
childless (known id own kids rest) h = absurd (false≢true h)

nil_parts : (xs ys : List ℕ) → xs ++ ys ≡ [] → (xs ≡ []) × (ys ≡ [])
nil_parts [] ys e = (refl, e)
nil_parts (x ∷ xs) ys e = let z : ◌≡◌ {A = ℕ} 0 1 = cc in absurd (omega arith)

abbrev Ended : List Open → Type 0
Ended [] = Unit
Ended (o ∷ os) = (o.run ≡ end) × Ended os

all-ended : (os : List Open) → all os ≡ [] → Ended os
all-ended [] e = tt
all-ended (o ∷ os) e = let p = nil_parts (ids o.run) (all os) e in (empty o.run o.unskipped p.0, all-ended os p.1)

-- a chunk whose row gives it no own data has none
no_data : {o : Open} {os : List Open} {x : ℕ} {xs : List ℕ} (b : Begins o os x xs) → shape x ≡ fixed 0 → b.own ≡ []
no_data {o} {os} {x} b e =
    let h = eqb-true (own_size (shape x) o.parent.own b.own) (length b.own) b.lawful.own_data_exact_lem in
    none b.own (sym (rw e at h))

-- ---- the six, one in the other

module _ (version : ℕ) (kids : Run) (obeys : Obeys (top version) [] kids) (unskipped : skipped kids ≡ 0) where
  abbrev Shaped : Type 0
  Shaped = (name : List ℕ) × (vertices : List ℕ) × (faces : List ℕ) × (kids ≡ six_chunks name vertices faces)

  abbrev whole : Open
  whole = record { parent = top version; seen = []; run = kids; obeys = obeys; unskipped = unskipped }

  module _ (scene : Begins whole [] 0x3D3D (0x4000 ∷ 0x4100 ∷ 0x4110 ∷ 0x4120 ∷ [])) where
    module _ (object : Begins (inner-run scene) (outer_run scene ∷ []) 0x4000 (0x4100 ∷ 0x4110 ∷ 0x4120 ∷ [])) where
      module _ (mesh : Begins (inner-run object) (outer_run object ∷ outer_run scene ∷ []) 0x4100 (0x4110 ∷ 0x4120 ∷ [])) where
        module _ (vertices : Begins (inner-run mesh) (outer_run mesh ∷ outer_run object ∷ outer_run scene ∷ []) 0x4110 (0x4120 ∷ [])) where
          no_kids : vertices.kids ≡ end
          unfolding plus rows
          no_kids = childless vertices.kids vertices.children.in_plus

          shaped_5 : Begins (outer_run vertices) (outer_run mesh ∷ outer_run object ∷ outer_run scene ∷ []) 0x4120 [] → Shaped
          unfolding shape rows
          shaped_5 faces =
              let q = all-ended (inner-run faces ∷ outer_run faces ∷ outer_run mesh ∷ outer_run object ∷ outer_run scene ∷ []) faces.left in
              let a = no_data scene refl in
              let b = no_data mesh refl in
              let n = no_kids in
              (object.own, vertices.own, faces.own, cc)

          shaped_4 : Shaped
          unfolding every rows under
          shaped_4 = shaped_5 (begins (outer_run vertices) (outer_run mesh ∷ outer_run object ∷ outer_run scene ∷ []) 0x4120 [] refl (rw no_kids at vertices.left))

        shaped_3 : Shaped
        unfolding every rows under
        shaped_3 = shaped_4 (begins (inner-run mesh) (outer_run mesh ∷ outer_run object ∷ outer_run scene ∷ []) 0x4110 (0x4120 ∷ []) refl mesh.left)

      shaped_2 : Shaped
      unfolding every rows under
      shaped_2 = shaped_3 (begins (inner-run object) (outer_run object ∷ outer_run scene ∷ []) 0x4100 (0x4110 ∷ 0x4120 ∷ []) refl object.left)

    shaped_1 : Shaped
    unfolding every rows under
    shaped_1 = shaped_2 (begins (inner-run scene) (outer_run scene ∷ []) 0x4000 (0x4100 ∷ 0x4110 ∷ 0x4120 ∷ []) refl scene.left)

  shaped : ids kids ++ [] ≡ 0x3D3D ∷ 0x4000 ∷ 0x4100 ∷ 0x4110 ∷ 0x4120 ∷ [] → Shaped
  unfolding every
  shaped e = shaped_1 (begins whole [] 0x3D3D (0x4000 ∷ 0x4100 ∷ 0x4110 ∷ 0x4120 ∷ []) refl e)

pub just_six : JustSix
just_six s b kids e order unskipped =
    let t : 0x4D4D ∷ (ids kids ++ []) ≡ 0x4D4D ∷ 0x3D3D ∷ 0x4000 ∷ 0x4100 ∷ 0x4110 ∷ 0x4120 ∷ [] = sym (ids-listed 0 0 0 0 (figure kids)) ∙ order in
    shaped (version kids) kids ((accepted_exactly s b kids).0 e).chunks.2 (omega arith) (cc)
