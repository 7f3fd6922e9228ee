-- No mesh stands outside 3D3D: 4100 stands only in a 4000, that in 3D3D, and that in 4D4D, once.
use mathlib.Core.Path.{◌≡◌, refl}
use Prim.Native.Nat.{ℕ, ◌+◌, ◌-◌}
use native.Mathlib.Omega.{arith}
use mathlib.Core.Bool.{true, false, false≢true}
use mathlib.Core.List.{List, [], ◌∷◌}
use lib.Dec.{eqb}
use lib.ListN.{length}
use borrow.Author.Tests.{eqb-true, ne_eqb}
use Rattle.studio_rules.specs.Table.{the_file, rows, under}
use Rattle.studio_rules.specs.Layout.{Run, end, skip, known, size, identifiers}
use Rattle.studio_rules.specs.Rules.{Parent, inside, tally, Own, Obeys}
use Rattle.studio_rules.specs.Walk.{top}
use Rattle.studio_rules.specs.Gives.{meshes_of}
use Rattle.studio_rules.proofs.Once.{one-scene}
use Rattle.studio_scene.proofs.Children.{one-of-one}

-- ---- the table

module _ (p : ℕ) where
  around_4100 : under p 0x4100 ≡ true → p ≡ 0x4000
  unfolding under rows
  around_4100 h = eqb-true p 0x4000 (one-of-one _ h)

  around_4000 : under p 0x4000 ≡ true → p ≡ 0x3D3D
  unfolding under rows
  around_4000 h = eqb-true p 0x3D3D (one-of-one _ h)

  around_3D3D : under p 0x3D3D ≡ true → p ≡ 0x4D4D
  unfolding under rows
  around_3D3D h = eqb-true p 0x4D4D (one-of-one _ h)

  around_4D4D : under p 0x4D4D ≡ true → p ≡ the_file
  unfolding under rows
  around_4D4D h = eqb-true p the_file (one-of-one _ h)

  around-file : under p the_file ≡ true → ⊥
  unfolding under rows
  around-file h = false≢true h

-- ---- chunks in which no mesh stands

pub record Outside (x : ℕ) : Type 0 where
  pub no-object : x ≡ 0x4000 → ⊥
  pub no-scene : x ≡ 0x3D3D → ⊥
  pub no-figure : x ≡ 0x4D4D → ⊥
  pub no-file : x ≡ the_file → ⊥

at-id : (p x y : ℕ) → under p x ≡ true → x ≡ y → under p y ≡ true
at-id p x y h e = rw e at h

-- what stands in such a chunk is one too, and is no mesh
deeper : (p x : ℕ) → Outside p → under p x ≡ true → Outside x
deeper p x h u = record {
  no-object = λ e. h.no-scene (around_4000 p (at-id p x 0x4000 u e));
  no-scene = λ e. h.no-figure (around_3D3D p (at-id p x 0x3D3D u e));
  no-figure = λ e. h.no-file (around_4D4D p (at-id p x 0x4D4D u e));
  no-file = λ e. around-file p (at-id p x the_file u e);
}

no-mesh : (p x : ℕ) → Outside p → under p x ≡ true → eqb x 0x4100 ≡ false
no-mesh p x h u = ne_eqb x 0x4100 (λ e. h.no-object (around_4100 p (at-id p x 0x4100 u e)))

meshless : (p : Parent) (seen : List ℕ) (t : Run) (o at l : ℕ) → Outside p.id → Obeys p seen t → meshes_of o at l t ≡ []
meshless p seen end o at l h k = refl
meshless p seen (skip id body rest) o at l h k = meshless p seen rest (o + (6 + length body)) at l h k.1
meshless p seen (known id own kids rest) o at l h k =
    rw (
      no-mesh p.id id h k.0.in_place,
      meshless (inside p seen id own) [] kids (o + (6 + length own)) (o + 6) (length own - 1) (deeper p.id id h k.0.in_place) k.2,
      meshless p (id ∷ seen) rest (o + (6 + length own + size kids)) at l h k.3,
    )

-- ---- the children of 4D4D but 3D3D

beside : (x : ℕ) → under 0x4D4D x ≡ true → (x ≡ 0x3D3D → ⊥) → Outside x
beside x u n = record {
  no-object = λ e. let z = around_4000 0x4D4D (at-id 0x4D4D x 0x4000 u e) in omega arith;
  no-scene = n;
  no-figure = λ e. let z = around_4D4D 0x4D4D (at-id 0x4D4D x 0x4D4D u e) in omega arith;
  no-file = λ e. around-file 0x4D4D (at-id 0x4D4D x the_file u e);
}

not_4100 : (x : ℕ) → under 0x4D4D x ≡ true → eqb x 0x4100 ≡ false
not_4100 x u = ne_eqb x 0x4100 (λ e. let z = around_4100 0x4D4D (at-id 0x4D4D x 0x4100 u e) in omega arith)

tally-not : (x : ℕ) (xs : List ℕ) → tally (0x3D3D ∷ []) (x ∷ xs) ≡ 0 → x ≡ 0x3D3D → ⊥
tally-not x xs h e = let z : 1 + tally (0x3D3D ∷ []) xs ≡ 0 = rw e at h in omega arith

pub none_beside : (v : ℕ) (seen : List ℕ) (t : Run) (o at l : ℕ) → Obeys (top v) seen t → tally (0x3D3D ∷ []) (identifiers t) ≡ 0 → meshes_of o at l t ≡ []
none_beside v seen end o at l k n = refl
none_beside v seen (skip id body rest) o at l k n = none_beside v seen rest (o + (6 + length body)) at l k.1 n
none_beside v seen (known id own kids rest) o at l k n =
    rw (
      not_4100 id k.0.in_place,
      meshless (inside (top v) seen id own) [] kids (o + (6 + length own)) (o + 6) (length own - 1) (beside id k.0.in_place (tally-not id (identifiers rest) n)) k.2,
      none_beside v (id ∷ seen) rest (o + (6 + length own + size kids)) at l k.3 (omega arith),
    )

-- ---- 4D4D has one 3D3D, so its order is 0

pub first_scene : (v : ℕ) (seen own : List ℕ) → Own (top v) seen 0x3D3D own → tally (0x3D3D ∷ []) seen ≡ 0
first_scene v seen own h = let l = one-scene (0x3D3D ∷ seen) h.not_twice_lem in omega arith
