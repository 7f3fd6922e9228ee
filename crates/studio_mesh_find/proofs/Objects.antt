-- One turn of the search: the object at a position as the code has it, its mesh if it has one, and the next object.
use mathlib.Core.Path.{◌≡◌, sym, ap, ◌∙◌, subst}
use mathlib.Core.List.{List, [], ◌∷◌, ◌++◌, map, append-nil}
use Prim.Native.Nat.{ℕ, ◌+◌, ◌-◌, ◌≤◌, ◌<◌}
use native.Mathlib.Omega.{arith}
use lib.ListN.{length}
use Rattle.std.specs.Prelude.{Ok}
use Rattle.studio_rules.specs.Layout.{Run, known, size, offset_of}
use Rattle.studio_rules.specs.Rules.{Parent, inside}
use Rattle.studio_rules.specs.Gives.{mesh_of}
use Rattle.studio_meshes_rules.specs.Standing.{Standing, mesh_in, standing_of, mesh_numbers}
use Rattle.studio_mesh_find.specs.declared.Object.{Object}
use Rattle.studio_mesh_find.specs.declared.Place.{Place}
use Rattle.studio_child.specs.Runs.{Spans, Begins}
use Rattle.studio_mesh_find.specs.Places.{ObjectIs, PlaceIs, place_numbers, FoundIs}
use Rattle.studio_child.proofs.Runs.{kids_here, after-known, First, offset_after}
use Rattle.studio_mesh_find.proofs.Meshes.{no-mesh, mesh-here, one-mesh, MeshesBefore, Here, here, object-on, nth_there}

-- ---- an object as the code has it: the mesh in it, or none

module _ (p : Parent) (own : List ℕ) (kids rest : Run) (s : List ℕ) (at stop : ℕ) (h : Spans p (known 0x4000 own kids rest) s at stop) (o : Object) (is : ObjectIs at own kids o) where
  pub none_in : o.stop ≤ o.mesh → standing_of (at + (6 + length own)) (at + 6) (length own - 1) kids ≡ []
  none_in m = no-mesh p own kids rest s at stop h (omega (arith, m, is.mesh-at, is.ends_at)) (at + 6) (length own - 1)

  module _ (m : o.mesh < o.stop) where
    pub within : offset_of 0x4100 (at + (6 + length own)) kids < at + (6 + length own + size kids)
    within = omega (arith, m, is.mesh-at, is.ends_at)

    abbrev mesh : First 0x4100 (inside p h.seen 0x4000 own) kids s (at + (6 + length own)) (at + (6 + length own + size kids)) (kids_here p s at stop 0x4000 own kids rest h)
    mesh = mesh-here p own kids rest s at stop h within

    -- where it stands
    abbrev pub stood : Standing
    stood = record { name_at = at + 6; name_length = length own - 1; at = offset_of 0x4100 (at + (6 + length own)) kids + (6 + length mesh.own); kids = mesh.kids }

    pub one_in : standing_of (at + (6 + length own)) (at + 6) (length own - 1) kids ≡ stood ∷ []
    one_in = one-mesh p own kids rest s at stop h within (at + 6) (length own - 1)

    mesh_spans : Spans (inside p h.seen 0x4000 own) (known 0x4100 mesh.own mesh.kids mesh.rest) s o.mesh (at + (6 + length own + size kids))
    mesh_spans =
        subst (λ (y : ℕ). Spans (inside p h.seen 0x4000 own) (known 0x4100 mesh.own mesh.kids mesh.rest) s y (at + (6 + length own + size kids))) (sym is.mesh-at) mesh.spans

    pub mesh-begins : Begins 0x4100 s o.mesh
    mesh-begins = (_, _, _, _, _, mesh_spans)

    -- its place
    module _ (r : Place) where
      pub mesh-place : ((p : Parent) (own : List ℕ) (kids rest : Run) (stop : ℕ) → Spans p (known 0x4100 own kids rest) s o.mesh stop → PlaceIs s (mesh_of (at + 6) o.size kids) r) → PlaceIs s (mesh_in stood) r
      mesh-place placed = subst (λ (z : ℕ). PlaceIs s (mesh_of (at + 6) z mesh.kids) r) is.name-size (placed _ _ _ _ _ mesh_spans)

      pub mesh-numbers : ((p : Parent) (own : List ℕ) (kids rest : Run) (stop : ℕ) → Spans p (known 0x4100 own kids rest) s o.mesh stop →
          place_numbers r ≡ mesh_numbers record { name_at = at + 6; name_length = o.size; at = o.mesh + (6 + length own); kids = kids }) → place_numbers r ≡ mesh_numbers stood
      mesh-numbers numbered =
          numbered _ _ _ _ _ mesh_spans ∙
          ap (λ (k : ℕ). mesh_numbers record { name_at = at + 6; name_length = k; at = o.mesh + (6 + length mesh.own); kids = mesh.kids }) is.name-size ∙
          ap (λ (k : ℕ). mesh_numbers record { name_at = at + 6; name_length = length own - 1; at = k + (6 + length mesh.own); kids = mesh.kids }) is.mesh-at

-- ---- one turn

module _ (p : Parent) (i : p.id ≡ 0x3D3D) (t : Run) (s : List ℕ) (from stop a n : ℕ) (done : List Standing) (at : ℕ) (w : MeshesBefore p t s from stop a n done at) (l : at < stop) where
  abbrev pub e : Here p i t s from stop a n done at w
  e = here p i t s from stop a n done at w l

  pub object-begins : Begins 0x4000 s at
  object-begins = (p, e.own, e.kids, e.rest, stop, e.spans)

  module _ (o : Object) (is : (p : Parent) (own : List ℕ) (kids rest : Run) (stop : ℕ) → Spans p (known 0x4000 own kids rest) s at stop → ObjectIs at own kids o) where
    pub found : ObjectIs at e.own e.kids o
    found = is p e.own e.kids e.rest stop e.spans

    pub rest-here : Spans p e.rest s o.stop stop
    rest-here = rw found.ends_at (after-known p s at stop 0x4000 e.own e.kids e.rest e.spans)

    -- what stands in it, behind the others
    module _ (next : ℕ) (f : next ≡ offset_of 0x4000 o.stop e.rest) where
      pub next-on : at < next
      next-on = omega (arith, found.ends_at, f, offset_after 0x4000 o.stop e.rest)

      pub one_on : (ms : List Standing) → standing_of (at + (6 + length e.own)) (at + 6) (length e.own - 1) e.kids ≡ ms → MeshesBefore p t s from stop a n (done ++ ms) next
      one_on ms m =
          subst (λ (k : ℕ). MeshesBefore p t s from stop a n (done ++ ms) k) (sym (f ∙ ap (λ (k : ℕ). offset_of 0x4000 k e.rest) found.ends_at))
          (object-on p i t s from stop a n done at w e ms m)

      pub without-mesh : o.stop ≤ o.mesh → MeshesBefore p t s from stop a n done next
      without-mesh m =
          subst (λ (ms : List Standing). MeshesBefore p t s from stop a n ms next) (append-nil done)
          (one_on [] (none_in p e.own e.kids e.rest s at stop e.spans o found m))

      pub with-mesh : (m : o.mesh < o.stop) → MeshesBefore p t s from stop a n (done ++ (stood p e.own e.kids e.rest s at stop e.spans o found m ∷ [])) next
      with-mesh m = one_on _ (one_in p e.own e.kids e.rest s at stop e.spans o found m)

    -- the mesh asked for
    module _ (m : o.mesh < o.stop) where
      pub begins-here : Begins 0x4100 s o.mesh
      begins-here = mesh-begins p e.own e.kids e.rest s at stop e.spans o found m

      pub mesh-found : (r : Place) → ((p : Parent) (own : List ℕ) (kids rest : Run) (stop : ℕ) → Spans p (known 0x4100 own kids rest) s o.mesh stop → PlaceIs s (mesh_of (at + 6) o.size kids) r) →
          (k : ℕ) → length done ≡ k → FoundIs s (map mesh_in (standing_of from a n t)) k (Ok r)
      mesh-found r placed k b =
          let x : Standing = stood p e.own e.kids e.rest s at stop e.spans o found m in (
            mesh_in x,
            rw (e.split, one_in p e.own e.kids e.rest s at stop e.spans o found m) (nth_there done _ x k b),
            mesh-place p e.own e.kids e.rest s at stop e.spans o found m r placed,
          )
