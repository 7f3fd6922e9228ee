-- The faces in a table have three corners each.
use mathlib.Core.Path.{◌≡◌, refl}
use Prim.Native.Nat.{◌*◌}
use native.Mathlib.Omega.{arith}
use mathlib.Core.Bool.{Bool, true, false, not, ◌&&◌, cond}
use mathlib.Core.List.{List, [], ◌∷◌, ◌++◌}
use lib.Dec.{eqb}
use lib.ListN.{length, length-append}
use borrow.Author.Tests.{eqb-true}
use Rattle.shared_words.proofs.Bools.{and_parts}
use Rattle.cob_rules.specs.Mesh.{Face, face_first, triangle, triangles, corners_of}

pub three-each : (fs : List Face) → length (corners_of (triangles fs)) ≡ 3 * length (triangles fs)
three-each [] = refl
three-each (f ∷ fs) = go (triangle f && face_first fs) refl (three-each fs)
  where
    go : (b : Bool) → (triangle f && face_first fs) ≡ b → length (corners_of (triangles fs)) ≡ 3 * length (triangles fs) →
        length (corners_of (cond b (f ∷ []) [] ++ triangles fs)) ≡ 3 * length (cond b (f ∷ []) [] ++ triangles fs)
    go true e ih =
        let t = (and_parts (triangle f) (face_first fs) e).0 in
        let n = eqb-true (length f.corners) 3 (and_parts (not f.is_hole) (eqb (length f.corners) 3) t).1 in
        omega (arith, length-append f.corners (corners_of (triangles fs)))
    go false e ih = ih
