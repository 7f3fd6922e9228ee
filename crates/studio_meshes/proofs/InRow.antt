-- What is wanted of meshes, one behind another, and how long it is.
use mathlib.Core.Path.{◌≡◌, refl, sym, ap, ◌∙◌}
use mathlib.Core.Logic.{inl, inr}
use mathlib.Core.List.{List, [], ◌∷◌, map, append-nil}
use Prim.Native.Nat.{ℕ, ◌*◌, ◌/◌, ◌≤◌}
use native.Mathlib.Nat.{div-mul-le_self}
use native.Mathlib.Omega.{arith}
use lib.ListN.{length}
use Rattle.shared_words.specs.Bytes.{packed}
use Rattle.shared_words.specs.Effects.{filled}
use Rattle.shared_words.specs.declared.Refusal.{Refusal}
use Rattle.shared_words.specs.declared.Refusal.TheVariants.{NoRoom}
use Rattle.shared_words.proofs.Bytes.{length-packed}
use Rattle.shared_numbers.specs.Put.{Put}
use Rattle.studio_rules.specs.Layout.{Run}
use Rattle.studio_rules.specs.Gives.{Mesh, meshes}
use Rattle.studio_counted.specs.All.{RefusedWith}
use Rattle.studio_meshes_rules.specs.Standing.{Standing, mesh_in, standing, flattened, mesh_numbers}
use Rattle.studio_meshes_rules.specs.Boxes.{mesh_box, box_bytes}
use Rattle.studio_meshes_rules.proofs.Same.{same-meshes}
use Rattle.studio_meshes_rules.proofs.Few.{as_many, flat-length}
use Rattle.studio_meshes_rules.proofs.Boxes.{nine-each}
use Rattle.studio_meshes.specs.Wanted.{numbers_of, boxes_of}

-- ---- lengths

pub numbers-long : (ms : List Standing) → length (numbers_of ms) ≡ 32 * length ms
numbers-long ms = omega (arith, length-packed 4 (flattened mesh_numbers ms), flat-length mesh_numbers 8 (λ m. refl) ms)

pub boxes_long : (ms : List Standing) → length (boxes_of ms) ≡ 36 * length ms
boxes_long ms = omega (arith, length-packed 4 (flattened mesh_box (map mesh_in ms)), flat-length mesh_box 9 nine-each (map mesh_in ms), as_many ms)

pub numbers_fit : (ms : List Standing) (n : ℕ) → length ms ≤ n / 32 → length (numbers_of ms) ≤ n
numbers_fit ms n l = omega (arith, numbers-long ms, div-mul-le_self n 32)

pub boxes_fit : (ms : List Standing) (n : ℕ) → length ms ≤ n / 36 → length (boxes_of ms) ≤ n
boxes_fit ms n l = omega (arith, boxes_long ms, div-mul-le_self n 36)

-- ---- one mesh

module _ (m : Standing) {at : ℕ} {row row' : List ℕ} {next : ℕ} where
  pub put_boxed : Put row at (packed 4 (mesh_box (mesh_in m))) row' next → Put row at (boxes_of (m ∷ [])) row' next
  put_boxed p = rw (append-nil (mesh_box (mesh_in m))) p

-- ---- all meshes, as the call about their boxes has them

pub as_many-meshes : (kids : Run) → length (meshes kids) ≡ length (standing kids)
as_many-meshes kids = ap length (same-meshes kids) ∙ as_many (standing kids)

pub boxes_refused : (s : List ℕ) (room : ℕ) (x : Refusal) → RefusedWith standing s room x → RefusedWith meshes s room x
boxes_refused s room x (inl v) = inl v
boxes_refused s room x (inr (kids, v, l, e)) = inr (kids, v, omega (arith, as_many-meshes kids), e ∙ ap NoRoom (sym (as_many-meshes kids)))

pub boxes_filled : (kids : Run) (row row' : List ℕ) → row' ≡ filled (boxes_of (standing kids)) row → row' ≡ filled (box_bytes.encode (meshes kids)) row
boxes_filled kids row row' e = e ∙ ap (λ (ms : List Mesh). filled (box_bytes.encode ms) row) (sym (same-meshes kids))
