-- The numbers of a box that is there, and of one that is not.
use mathlib.Core.Path.{◌≡◌, refl, ◌∙◌, subst}
use mathlib.Core.Bool.{true}
use mathlib.Core.List.{List}
use Prim.Native.Nat.{ℕ}
use lib.Ieee.{of_bits, to_bits, is_nan}
use lib.ListN.{replicate}
use borrow.Author.Tests.{eq-eqb, ne_eqb}
use Rattle.shared_words.specs.Bytes.{packed}
use Rattle.shared_words.specs.Lists.{every}
use Rattle.shared_words.specs.Floats.{finite, float}
use Rattle.shared_numbers.specs.Put.{Put}
use Rattle.studio_rules.specs.declared.Corner.{Corner}
use Rattle.studio_rules.specs.declared.BoundingBox.{BoundingBox}
use Rattle.studio_rules.specs.Box.{bounding_box_of, centre_of}
use Rattle.studio_rules.specs.Within.{Number, Numbers, BoxNumbers}
use Rattle.studio_rules.specs.Gives.{Mesh}
use Rattle.studio_mesh_box.proofs.FiniteBox.{box-is-finite}
use Rattle.studio_meshes_rules.specs.Boxes.{nine, mesh_box}
use Rattle.studio_rules.specs.Calls.{box_answer}

-- ---- no box

abbrev pub zero : Corner
zero = record { x = float 0; y = float 0; z = float 0 }

abbrev pub none : BoundingBox
none = record { low = zero; high = zero }

zero_number : Number (float 0)
unfolding finite of_bits to_bits is_nan
zero_number = record { not-nan = tt; finite-bits = refl; read_back = refl }

pub zero-numbers : BoxNumbers (box_answer none zero)
zero-numbers = let c : Numbers zero = record { x = zero_number; y = zero_number; z = zero_number } in (c, c, c)

zeros : nine none zero ≡ replicate 9 0
unfolding of_bits to_bits
zeros = refl

pub none-there : (m : Mesh) → m.vertex_count ≡ 0 → nine none zero ≡ mesh_box m
none-there m e = zeros ∙ rw (eq-eqb m.vertex_count 0 e)

-- ---- a box

module _ (n : ℕ) (vertices : List ℕ) (b : BoundingBox) (c : Corner) (e : b ≡ bounding_box_of n vertices) (f : c ≡ centre_of b) where
  pub box-numbers : every finite vertices ≡ true → BoxNumbers (box_answer b c)
  box-numbers h = let q = box-is-finite n vertices h in rw (f, e) (q.low, q.high, q.centre)

  pub box-there : (m : Mesh) → n ≡ m.vertex_count → m.vertices ≡ vertices → (n ≡ 0 → ⊥) → nine b c ≡ mesh_box m
  box-there m k v z = rw (f, e, ne_eqb m.vertex_count 0 (λ q. z (k ∙ q)), v, k)

-- ---- put

pub put_as : {xs ys row row' : List ℕ} {at next : ℕ} → xs ≡ ys → Put row at (packed 4 xs) row' next → Put row at (packed 4 ys) row' next
put_as {row = row} {row' = row'} {at = at} {next = next} e p = subst (λ (l : List ℕ). Put row at (packed 4 l) row' next) e p
