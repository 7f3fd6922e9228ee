-- One run behind another: its bytes and its meshes are those of the first, and then those of the second, which begins where the
-- first ends.
use mathlib.Core.Path.{◌≡◌, refl}
use Prim.Native.Nat.{ℕ, ◌+◌, ◌-◌}
use native.Mathlib.Omega.{arith}
use mathlib.Core.List.{◌++◌, append_assoc}
use lib.Dec.{eqb}
use lib.ListN.{length}
use Rattle.studio_rules.specs.Layout.{Run, end, skip, known, ◌then◌, size, bytes}
use Rattle.studio_rules.specs.Gives.{meshes_of, one_mesh, mesh_of}

pub then_assoc : (a b c : Run) → (a then b) then c ≡ a then (b then c)
then_assoc end b c = refl
then_assoc (skip id body a) b c = rw (then_assoc a b c)
then_assoc (known id own kids a) b c = rw (then_assoc a b c)

pub then_end : (t : Run) → t then end ≡ t
then_end end = refl
then_end (skip id body t) = rw (then_end t)
then_end (known id own kids t) = rw (then_end t)

pub size_then : (a t : Run) → size (a then t) ≡ size a + size t
size_then end t = omega arith
size_then (skip id body a) t = omega (arith, size_then a t)
size_then (known id own kids a) t = omega (arith, size_then a t)

pub bytes_then : (a t : Run) → bytes (a then t) ≡ bytes a ++ bytes t
bytes_then end t = refl
bytes_then (skip id body a) t = rw (bytes_then a t, append_assoc body (bytes a) (bytes t))
bytes_then (known id own kids a) t = rw (bytes_then a t, append_assoc own (bytes kids ++ bytes a) (bytes t), append_assoc (bytes kids) (bytes a) (bytes t))

-- the second run begins at o'
pub meshes_then : (o o' at l : ℕ) (a t : Run) → o' ≡ o + size a → meshes_of o at l (a then t) ≡ meshes_of o at l a ++ meshes_of o' at l t
meshes_then o o' at l end t e = let e₀ : o ≡ o' = omega arith in rw e₀
meshes_then o o' at l (skip id body a) t e = meshes_then (o + (6 + length body)) o' at l a t (omega arith)
meshes_then o o' at l (known id own kids a) t e =
    let ih = meshes_then (o + (6 + length own + size kids)) o' at l a t (omega arith) in
    rw (ih, append_assoc (one_mesh (eqb id 0x4100) (mesh_of at l kids)), append_assoc (meshes_of (o + (6 + length own)) (o + 6) (length own - 1) kids))
