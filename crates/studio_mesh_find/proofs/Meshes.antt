-- The meshes of a figure, object by object: how many stand before a position, and what follows there.
use mathlib.Core.Path.{◌≡◌, refl, sym, ap, ◌∙◌, subst}
use mathlib.Core.List.{List, [], ◌∷◌, ◌++◌, map, append_assoc, append-nil}
use mathlib.Core.Logic.{◌⊎◌, inl, inr}
use mathlib.Core.Option.{none, some}
use Prim.Native.Nat.{ℕ, zero, suc, ◌+◌, ◌-◌, ◌≤◌, ◌<◌}
use native.Mathlib.Omega.{arith}
use lib.ListN.{length, get_elem?}
use Rattle.studio_rules.specs.Layout.{Run, end, known, size, identifiers, offset_of}
use Rattle.studio_rules.specs.Rules.{Parent, inside, version, Meets}
use Rattle.studio_rules.specs.Parses.{within}
use Rattle.studio_rules.specs.Walk.{top}
use Rattle.studio_rules.proofs.Once.{at_most_one, one-scene}
use Rattle.studio_rules.proofs.Parses.{parses}
use Rattle.studio_meshes_rules.specs.Standing.{Standing, mesh_in, standing_of, standing}
use Rattle.studio_child.specs.Runs.{Spans, onward}
use Rattle.shared_numbers.specs.Numbers.{long_at}
use Rattle.studio_child.proofs.Runs.{around, span-size, header-here, kids_here, kids_at, after-known, First, onward-is, onward_spans, first-there, first-nowhere, first_some}
use Rattle.studio_child.proofs.Figure.{figure_kids}
use Rattle.studio_mesh_find.specs.Runs.{ObjectsAt}
use Rattle.studio_mesh_find.proofs.Parts.{objects_own}
use Rattle.studio_mesh_find.proofs.Ways.{no-meshes, meshes-onward, no-more-meshes, to_objects, to_object, to_mesh, one_4100, some_3D3D}

-- ---- an object: the mesh in it, or none

module _ (p : Parent) (own : List ℕ) (kids rest : Run) (s : List ℕ) (at stop : ℕ) (h : Spans p (known 0x4000 own kids rest) s at stop) where
  abbrev q : Parent
  q = inside p h.seen 0x4000 own

  abbrev from : ℕ
  from = at + (6 + length own)

  abbrev past : ℕ
  past = at + (6 + length own + size kids)

  abbrev in_it : Spans (inside p h.seen 0x4000 own) kids s (at + (6 + length own)) (at + (6 + length own + size kids))
  in_it = kids_here p s at stop 0x4000 own kids rest h

  onto-mesh : (a n : ℕ) → standing_of (at + (6 + length own)) a n kids ≡ standing_of (offset_of 0x4100 (at + (6 + length own)) kids) a n (onward 0x4100 kids)
  onto-mesh a n = meshes-onward 0x4100 (around q) to_mesh kids from a n (parses q [] kids h.obeys.2)

  pub no-mesh : at + (6 + length own + size kids) ≤ offset_of 0x4100 (at + (6 + length own)) kids → (a n : ℕ) → standing_of (at + (6 + length own)) a n kids ≡ []
  no-mesh l a n = onto-mesh a n ∙ ap (standing_of (offset_of 0x4100 from kids) a n) (first-nowhere 0x4100 q kids s from past in_it l)

  module _ (l : offset_of 0x4100 (at + (6 + length own)) kids < at + (6 + length own + size kids)) where
    pub mesh-here : First 0x4100 (inside p h.seen 0x4000 own) kids s (at + (6 + length own)) (at + (6 + length own + size kids)) (kids_here p s at stop 0x4000 own kids rest h)
    mesh-here = first-there 0x4100 q kids s from past in_it l

    -- where it stands
    abbrev pub stands : List ℕ → Run → ℕ → ℕ → Standing
    stands its_own its-kids a n = record { name_at = a; name_length = n; at = offset_of 0x4100 (at + (6 + length own)) kids + (6 + length its_own); kids = its-kids }

    -- nothing in a mesh is a mesh, and none follows it
    pub one-mesh : (a n : ℕ) → standing_of (at + (6 + length own)) a n kids ≡ stands mesh-here.own mesh-here.kids a n ∷ []
    one-mesh a n =
        let f = mesh-here in
        let o : ℕ = offset_of 0x4100 from kids in
        let ob = parses q f.spans.seen (known 0x4100 f.own f.kids f.rest) f.spans.obeys in
        onto-mesh a n ∙ ap (standing_of o a n) f.is ∙
        rw (
          no-meshes (within 0x4100 f.own) f.kids (o + (6 + length f.own)) (o + 6) (length f.own - 1) refl ob.1,
          no-more-meshes 0x4100 kids (one_4100 (identifiers kids) (at_most_one q kids h.obeys.2)) f.own f.kids f.rest f.is (around q) to_mesh ob.2 (o + (6 + length f.own + size f.kids)) a n,
        )

-- ---- object by object

-- of the meshes of a run t of 3D3D, these stand before `at`, where the next object stands, or the end
pub record MeshesBefore (p : Parent) (t : Run) (s : List ℕ) (from stop a n : ℕ) (done : List Standing) (at : ℕ) : Type 0 where
  pub tail : Run
  pub spans : Spans p (onward 0x4000 tail) s at stop
  pub split : standing_of from a n t ≡ done ++ standing_of at a n (onward 0x4000 tail)

module _ (p : Parent) (i : p.id ≡ 0x3D3D) (t : Run) (s : List ℕ) (from stop a n : ℕ) where
  onto-object : (t : Run) (o : ℕ) → Spans p t s o stop → standing_of o a n t ≡ standing_of (offset_of 0x4000 o t) a n (onward 0x4000 t)
  onto-object t o h = meshes-onward 0x4000 (around p) (rw i to_object) t o a n (parses p h.seen t h.obeys)

  pub none_before : Spans p t s from stop → MeshesBefore p t s from stop a n [] (offset_of 0x4000 from t)
  none_before h = record { tail = t; spans = onward_spans 0x4000 p t s from stop h; split = onto-object t from h }

  module _ (done : List Standing) (at : ℕ) (w : MeshesBefore p t s from stop a n done at) where
    pub all-before : stop ≤ at → standing_of from a n t ≡ done
    all-before l = w.split ∙ go (onward-is 0x4000 w.tail) w.spans
      where
        go : (onward 0x4000 w.tail ≡ end) ⊎ ((own : List ℕ) × (kids : Run) × (rest : Run) × (onward 0x4000 w.tail ≡ known 0x4000 own kids rest)) →
            Spans p (onward 0x4000 w.tail) s at stop → done ++ standing_of at a n (onward 0x4000 w.tail) ≡ done
        go (inl e) h = rw (e, append-nil done)
        go (inr (own, kids, rest, e)) h = absurd (omega (arith, l, (header-here p s at stop 0x4000 own kids rest (subst (λ (r : Run). Spans p r s at stop) e h)).six))

    -- the object at `at`
    pub record Here : Type 0 where
      pub own : List ℕ
      pub kids : Run
      pub rest : Run
      pub spans : Spans p (known 0x4000 own kids rest) s at stop
      pub split : standing_of from a n t ≡ done ++ (standing_of (at + (6 + length own)) (at + 6) (length own - 1) kids ++ standing_of (at + (6 + length own + size kids)) a n rest)

    pub here : at < stop → Here
    here l = go (onward-is 0x4000 w.tail) w.spans
      where
        go : (onward 0x4000 w.tail ≡ end) ⊎ ((own : List ℕ) × (kids : Run) × (rest : Run) × (onward 0x4000 w.tail ≡ known 0x4000 own kids rest)) →
            Spans p (onward 0x4000 w.tail) s at stop → Here
        go (inl e) h = absurd (omega (arith, l, span-size p s at stop end (subst (λ (r : Run). Spans p r s at stop) e h)))
        go (inr (own, kids, rest, e)) h = record {
          own = own;
          kids = kids;
          rest = rest;
          spans = subst (λ (r : Run). Spans p r s at stop) e h;
          split = w.split ∙ ap (λ (r : Run). done ++ standing_of at a n r) e;
        }

    -- one object on
    module _ (e : Here) (ms : List Standing) (m : standing_of (at + (6 + length e.own)) (at + 6) (length e.own - 1) e.kids ≡ ms) where
      one_on : standing_of from a n t ≡ (done ++ ms) ++ standing_of (at + (6 + length e.own + size e.kids)) a n e.rest
      one_on = e.split ∙ rw (m, append_assoc done ms (standing_of (at + (6 + length e.own + size e.kids)) a n e.rest))

      pub object-on : MeshesBefore p t s from stop a n (done ++ ms) (offset_of 0x4000 (at + (6 + length e.own + size e.kids)) e.rest)
      object-on =
          let past : ℕ = at + (6 + length e.own + size e.kids) in
          let h = after-known p s at stop 0x4000 e.own e.kids e.rest e.spans in record {
            tail = e.rest;
            spans = onward_spans 0x4000 p e.rest s past stop h;
            split = one_on ∙ ap (λ (l : List Standing). (done ++ ms) ++ l) (onto-object e.rest past h);
          }

-- ---- the mesh of a number

pub nth_there : (done more : List Standing) (m : Standing) (k : ℕ) → length done ≡ k → get_elem? (map mesh_in (done ++ (m ∷ more))) k ≡ some (mesh_in m)
nth_there [] more m k e = rw (← e)
nth_there (d ∷ done) more m k e = rw (← e) (nth_there done more m (length done) refl)

pub nth_beyond : (ms : List Standing) (k : ℕ) → length ms ≤ k → get_elem? (map mesh_in ms) k ≡ none
nth_beyond [] k l = refl
nth_beyond (m ∷ ms) zero l = absurd (omega arith)
nth_beyond (m ∷ ms) (suc k) l = nth_beyond ms k (omega arith)

-- ---- the one 3D3D of a figure

module _ (s : List ℕ) (kids : Run) (m : Meets s kids) where
  pub objects-there : offset_of 0x3D3D 6 kids < length s
  objects-there = first_some 0x3D3D (top (version kids)) kids s 6 (length s) (figure_kids s kids m) (some_3D3D (identifiers kids) m.chunks.1.none-missing)

  pub objects : First 0x3D3D (top (version kids)) kids s 6 (length s) (figure_kids s kids m)
  objects = first-there 0x3D3D (top (version kids)) kids s 6 (length s) (figure_kids s kids m) objects-there

  -- it stands at o
  module _ (o : ℕ) (e : o ≡ offset_of 0x3D3D 6 kids) where
    pub objects-header : o + 6 ≤ length s
    objects-header = omega (arith, e, (header-here (top (version kids)) s (offset_of 0x3D3D 6 kids) (length s) 0x3D3D objects.own objects.kids objects.rest objects.spans).six)

    pub here_too : Spans (top (version kids)) (known 0x3D3D objects.own objects.kids objects.rest) s o (length s)
    here_too = subst (λ (y : ℕ). Spans (top (version kids)) (known 0x3D3D objects.own objects.kids objects.rest) s y (length s)) (sym e) objects.spans

    none_own : length objects.own ≡ 0
    none_own = objects_own (top (version kids)) objects.own objects.kids objects.rest s o (length s) here_too

    pub objects_spans : (n : ℕ) → n ≡ long_at s (o + 2) → Spans (inside (top (version kids)) here_too.seen 0x3D3D objects.own) objects.kids s (o + 6) (o + n)
    objects_spans n f = kids_at (top (version kids)) s o (length s) 0x3D3D objects.own objects.kids objects.rest here_too (o + 6) n (omega (arith, none_own)) f

    -- the meshes of the file are those in it
    pub meshes_are : standing kids ≡ standing_of (o + 6) (offset_of 0x3D3D 6 kids + 6) (length objects.own - 1) objects.kids
    meshes_are =
        let at : ℕ = offset_of 0x3D3D 6 kids in
        let f = objects in
        let z : at + (6 + length f.own) ≡ o + 6 = omega (arith, e, none_own) in
        let one = one-scene (identifiers kids) (at_most_one (top (version kids)) kids m.chunks.2) in
        let behind = (parses (top (version kids)) f.spans.seen (known 0x3D3D f.own f.kids f.rest) f.spans.obeys).2 in
        append-nil (standing_of 6 6 0 kids) ∙ meshes-onward 0x3D3D (around (top (version kids))) to_objects kids 6 6 0 (parses (top (version kids)) [] kids m.chunks.2) ∙ ap (standing_of at 6 0) f.is ∙
        rw (
          no-more-meshes 0x3D3D kids one f.own f.kids f.rest f.is (around (top (version kids))) to_objects behind (at + (6 + length f.own + size f.kids)) 6 0,
          append-nil (standing_of (at + (6 + length f.own)) (at + 6) (length f.own - 1) f.kids),
          z,
        )

    -- and all of them stand from the first object on
    pub objects-from : (n : ℕ) → n ≡ long_at s (o + 2) → (from : ℕ) → from ≡ offset_of 0x4000 (o + 6) objects.kids → ObjectsAt s kids from (o + n)
    objects-from n g from f =
        let p : Parent = inside (top (version kids)) here_too.seen 0x3D3D objects.own in
        let name_at : ℕ = offset_of 0x3D3D 6 kids + 6 in
        let name_length : ℕ = length objects.own - 1 in
        let before = none_before p refl objects.kids s (o + 6) (o + n) name_at name_length (objects_spans n g) in
        record {
          p = p;
          t = onward 0x4000 before.tail;
          id = refl;
          spans = rw f before.spans;
          name_at = name_at;
          name_length = name_length;
          meshes_in = rw f (meshes_are ∙ before.split);
        }
