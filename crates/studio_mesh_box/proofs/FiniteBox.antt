-- A box and its centre are finite: a property that each coordinate has, the lowest and the highest have, and the middle
-- of two finite floats is finite (Middle).
use mathlib.Core.Path.{◌≡◌, refl}
use mathlib.Core.Bool.{Bool, true, false, not, cond}
use mathlib.Core.List.{List, [], ◌∷◌}
use Prim.Native.Nat.{ℕ, zero, suc, ◌+◌, ◌-◌, ◌*◌, ◌/◌, ◌%◌}
use native.Mathlib.Omega.{arith}
use lib.ListN.{get_or}
use lib.Dec.{T, eqb, leb}
use lib.Ieee.{Float, nan, inf, fin, binary32, lt, mul, fits, is_nan, of_fields, of_bits, to_bits}
use lib.Ieee.Fits.{add-fits}
use lib.Ieee.Bits.{of_bits-to_bits, of_bits-fits}
use borrow.Author.Tests.{eqb-true}
use Rattle.shared_words.specs.Lists.{every}
use Rattle.shared_words.specs.Floats.{finite}
use Rattle.shared_words.specs.Floats.{float}
use Rattle.studio_rules.specs.Box.{coordinate, lesser, greater, lowest, highest, half, middle}
use Rattle.shared_words.proofs.Bools.{and_parts}
use Rattle.studio_rules.specs.Within.{Number}
use Rattle.studio_mesh_box.specs.FiniteBox.{BoxIsFinite}
use Rattle.studio_mesh_box.proofs.Order.{Finite}
use Rattle.studio_mesh_box.proofs.Finite.{float-finite}
use Rattle.studio_mesh_box.proofs.Middle.{Within, fits-within, middle-within}

-- ---- a finite float has finite bits

-- eight ones in the exponent are no finite float's
all_ones : (s : Bool) (t : ℕ) → Finite (of_fields binary32 s 255 t) → ⊥
unfolding of_fields
all_ones s t = go (eqb t 0)
  where
    go : (z : Bool) → Finite (cond z (inf s) nan) → ⊥
    go true h = h
    go false h = h

pattern_finite : (b : ℕ) → Finite (float b) → finite b ≡ true
unfolding finite of_bits
pattern_finite b h = go (eqb (b / 8388608 % 256) 255) refl
  where
    go : (t : Bool) → eqb (b / 8388608 % 256) 255 ≡ t → not t ≡ true
    go true e =
        let p : b / 8388608 % 256 ≡ 255 = eqb-true _ _ e in
        let q : b % 2147483648 / 8388608 ≡ 255 = omega arith in
        absurd (all_ones (leb 2147483648 b) (b % 8388608) (rw q at h))
    go false e = refl

-- a finite float of 32 bits
abbrev pub Float32 : Float → Type 0
Float32 x = Finite x × T (fits binary32 x)

pub number : (x : Float) → Float32 x → Number x
unfolding is_nan
number x (f, k) =
    let e = of_bits-to_bits binary32 x k in
    record { not-nan = no_nan x f; finite-bits = pattern_finite (to_bits binary32 x) (rw e f); read_back = e }
  where
    no_nan : (x : Float) → Finite x → T (not (is_nan x))
    no_nan nan f = elim f [ ]
    no_nan (inf _) f = elim f [ ]
    no_nan (fin s m e) f = tt

-- ---- the middle

pub middle_32 : (x y : Float) → Float32 x → Float32 y → Float32 (middle x y)
unfolding middle
middle_32 x y (f, k) (g, l) = (of-within (middle x y) (middle-within x y (within x f k) (within y g l)), add-fits binary32 (mul binary32 x half) (mul binary32 y half))
  where
    within : (x : Float) → Finite x → T (fits binary32 x) → Within 104 x
    within nan f k = elim f [ ]
    within (inf _) f k = elim f [ ]
    within (fin s m e) f k = fits-within s m e k

    of-within : (x : Float) → Within 104 x → Finite x
    of-within nan h = elim h [ ]
    of-within (inf _) h = elim h [ ]
    of-within (fin s m e) h = tt

-- ---- the lowest and the highest

module _ (P : Float → Type 0) where
  either : (t : Bool) (x y : Float) → P x → P y → P (cond t x y)
  either true x y p q = p
  either false x y p q = q

  module _ (f : ℕ → Float) (each : (k : ℕ) → P (f k)) where
    lowest_has : (k : ℕ) → P (lowest f k)
    unfolding lowest lesser
    lowest_has zero = each 0
    lowest_has (suc k) = either (lt (f (suc k)) (lowest f k)) (f (suc k)) (lowest f k) (each (suc k)) (lowest_has k)

    highest_has : (k : ℕ) → P (highest f k)
    unfolding highest greater
    highest_has zero = each 0
    highest_has (suc k) = either (lt (highest f k) (f (suc k))) (f (suc k)) (highest f k) (each (suc k)) (highest_has k)

-- ---- the box

-- behind the end of a list stand zeros
any-finite : (vertices : List ℕ) (j : ℕ) → every finite vertices ≡ true → finite (get_or vertices j 0) ≡ true
unfolding every finite
any-finite [] j h = refl
any-finite (b ∷ vertices) zero h = (and_parts (finite b) (every finite vertices) h).0
any-finite (b ∷ vertices) (suc j) h = any-finite vertices j (and_parts (finite b) (every finite vertices) h).1

module _ (vertices : List ℕ) (h : every finite vertices ≡ true) where
  coordinate_32 : (a k : ℕ) → Float32 (coordinate vertices a k)
  unfolding coordinate
  coordinate_32 a k = let b = get_or vertices (3 * k + a) 0 in (float-finite b (any-finite vertices (3 * k + a) h), of_bits-fits binary32 b)

pub box-is-finite : BoxIsFinite
box-is-finite n vertices h = record {
  low = record { x = number _ (low 0); y = number _ (low 1); z = number _ (low 2) };
  high = record { x = number _ (high 0); y = number _ (high 1); z = number _ (high 2) };
  centre = record { x = number _ (centre 0); y = number _ (centre 1); z = number _ (centre 2) };
}
  where
    low : (a : ℕ) → Float32 (lowest (coordinate vertices a) (n - 1))
    low a = lowest_has Float32 (coordinate vertices a) (coordinate_32 vertices h a) (n - 1)

    high : (a : ℕ) → Float32 (highest (coordinate vertices a) (n - 1))
    high a = highest_has Float32 (coordinate vertices a) (coordinate_32 vertices h a) (n - 1)

    centre : (a : ℕ) → Float32 (middle (lowest (coordinate vertices a) (n - 1)) (highest (coordinate vertices a) (n - 1)))
    centre a = middle_32 _ _ (low a) (high a)
