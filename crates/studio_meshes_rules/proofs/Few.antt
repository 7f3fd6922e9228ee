-- The meshes of a run are not more than its bytes.
use mathlib.Core.Path.{◌≡◌, refl, sym, ap, ◌∙◌}
use mathlib.Core.Bool.{Bool, true, false}
use mathlib.Core.List.{List, [], ◌∷◌, ◌++◌, map, append_assoc}
use Prim.Native.Nat.{ℕ, suc, ◌+◌, ◌-◌, ◌*◌, ◌≤◌}
use native.Mathlib.Nat.{mul-zero, mul-suc}
use native.Mathlib.Omega.{arith}
use lib.Dec.{eqb}
use lib.ListN.{length, length-append}
use Rattle.studio_rules.specs.Layout.{Run, end, skip, known, size}
use Rattle.studio_meshes_rules.specs.Standing.{Standing, mesh_in, one_standing, standing_of, flattened}

one-few : (b : Bool) (m : Standing) → length (one_standing b m) ≤ 1
one-few true m = omega arith
one-few false m = omega arith

pub standing-few : (o a n : ℕ) (t : Run) → length (standing_of o a n t) ≤ size t
standing-few o a n end = omega arith
standing-few o a n (skip id body rest) = omega (arith, standing-few (o + (6 + length body)) a n rest)
standing-few o a n (known id own kids rest) =
    let one : Standing = record { name_at = a; name_length = n; at = o + (6 + length own); kids = kids } in
    let below : List Standing = standing_of (o + (6 + length own)) (o + 6) (length own - 1) kids in
    let behind : List Standing = standing_of (o + (6 + length own + size kids)) a n rest in
    omega (
      arith,
      length-append (one_standing (eqb id 0x4100) one) (below ++ behind),
      length-append below behind,
      one-few (eqb id 0x4100) one,
      standing-few (o + (6 + length own)) (o + 6) (length own - 1) kids,
      standing-few (o + (6 + length own + size kids)) a n rest,
    )

pub as_many : (ms : List Standing) → length (map mesh_in ms) ≡ length ms
as_many [] = refl
as_many (m ∷ ms) = ap suc (as_many ms)

-- ---- as numbers

module _ {X : Type 0} (f : X → List ℕ) where
  pub flat-length : (k : ℕ) → ((x : X) → length (f x) ≡ k) → (xs : List X) → length (flattened f xs) ≡ k * length xs
  flat-length k each [] = sym (mul-zero k)
  flat-length k each (x ∷ xs) = length-append (f x) (flattened f xs) ∙ omega (arith, each x, flat-length k each xs, mul-suc k (length xs))

  pub flat_append : (xs ys : List X) → flattened f (xs ++ ys) ≡ flattened f xs ++ flattened f ys
  flat_append [] ys = refl
  flat_append (x ∷ xs) ys = rw (flat_append xs ys, append_assoc (f x) (flattened f xs) (flattened f ys))
