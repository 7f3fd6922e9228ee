-- The meshes where they stand are the meshes; what they are as numbers.
use mathlib.Core.Path.{◌≡◌, refl, sym, ap, ◌∙◌}
use mathlib.Core.Bool.{Bool, true, false, cond}
use mathlib.Core.List.{List, [], ◌∷◌, ◌++◌, map}
use Prim.Native.Nat.{ℕ, suc, ◌+◌, ◌*◌}
use native.Mathlib.Omega.{arith}
use lib.ListN.{length}
use Rattle.cob_rules.specs.Kinds.{is_mesh, listed}
use Rattle.cob_rules.specs.Layout.{Chunk, kind, size, Layout}
use Rattle.cob_rules.specs.Gives.{one_if, mesh_in, meshes_of, meshes}
use Rattle.cob_meshes_rules.specs.Standing.{Standing, mesh_of, standing_from, standing, flat_meshes}
use Rattle.cob_meshes_rules.specs.Theorems.{SameMeshes}

same_from : (o n : ℕ) (cs : List Chunk) → meshes_of cs ≡ map mesh_of (standing_from o n cs)
same_from o n [] = refl
same_from o n (c ∷ cs) = go (is_mesh (kind c)) (same_from (o + size c) (n + cond (listed (kind c)) 1 0) cs)
  where
    go : (b : Bool) → meshes_of cs ≡ map mesh_of (standing_from (o + size c) (n + cond (listed (kind c)) 1 0) cs) →
        one_if b (mesh_in c.body) ++ meshes_of cs ≡
        map mesh_of (one_if b record { at = o; number = n; body = c.body } ++ standing_from (o + size c) (n + cond (listed (kind c)) 1 0) cs)
    go true e = rw e
    go false e = e

pub same-meshes : SameMeshes
same-meshes l = same_from 32 0 l.chunks

map-long : (ms : List Standing) → length (map mesh_of ms) ≡ length ms
map-long [] = refl
map-long (m ∷ ms) = ap suc (map-long ms)

pub as_many : (l : Layout) → length (standing l) ≡ length (meshes l)
as_many l = sym (ap length (same-meshes l) ∙ map-long (standing l))

-- ---- as numbers

pub flat-length : (ms : List Standing) → length (flat_meshes ms) ≡ 8 * length ms
flat-length [] = refl
flat-length (m ∷ ms) = omega (arith, flat-length ms)

pub flat_append : (ms ns : List Standing) → flat_meshes (ms ++ ns) ≡ flat_meshes ms ++ flat_meshes ns
flat_append [] ns = refl
flat_append (m ∷ ms) ns = rw (flat_append ms ns)
