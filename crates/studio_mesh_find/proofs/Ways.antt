-- The way to a mesh: 3D3D in 4D4D, 4000 in 3D3D, 4100 in 4000. Off it there is no mesh, so the meshes of a run are those
-- from its first child on the way on.
use mathlib.Core.Path.{◌≡◌, refl, sym, ap, ◌∙◌}
use mathlib.Core.Bool.{Bool, true, false, not, ◌&&◌, ◌||◌, cond}
use mathlib.Core.List.{List, [], ◌∷◌}
use Prim.Native.Nat.{ℕ, ◌+◌, ◌-◌, ◌≤◌}
use native.Mathlib.Omega.{arith}
use lib.Dec.{eqb, leb}
use lib.ListN.{length}
use borrow.Author.Tests.{eqb-true, eq-eqb, leb-true, not-true}
use Rattle.shared_words.specs.Lists.{every}
use Rattle.shared_words.specs.Lists.{among}
use Rattle.studio_rules.specs.Table.{the_file, rows, row_of, at_most_one_ids, at_least_one_ids, under, limits, needs}
use Rattle.studio_rules.specs.Layout.{Run, end, skip, known, size, identifiers, offset_of}
use Rattle.studio_rules.specs.Rules.{tally, few}
use Rattle.studio_rules.specs.Parses.{Place, within, Parses}
use Rattle.studio_meshes_rules.specs.Standing.{standing_of}
use Rattle.shared_words.proofs.Bools.{and_parts, or_second}
use Rattle.shared_words.proofs.Lists.{among-every}
use Rattle.studio_rules.proofs.Rows.{every_id, listed-every, under-listed}
use Rattle.studio_child.specs.Runs.{onward}
use Rattle.studio_child.proofs.Runs.{tally-onward}

-- ---- on the way, and off it

-- a chunk that may hold a 4100, at any depth
abbrev pub on_way : ℕ → Bool
on_way x = among x (the_file ∷ 0x4D4D ∷ 0x3D3D ∷ 0x4000 ∷ [])

-- a chunk that neither is nor may hold a 4100
abbrev aside : ℕ → Bool
aside x = not (eqb x 0x4100) && not (on_way x)

aside-parts : (x : ℕ) → aside x ≡ true → (eqb x 0x4100 ≡ false) × (on_way x ≡ false)
aside-parts x h = let k = and_parts (not (eqb x 0x4100)) (not (on_way x)) h in (not-true _ k.0, not-true _ k.1)

off_test : every_id (λ x. every (λ p. on_way p || aside x) (row_of x rows).parents) rows ≡ true
unfolding rows every
off_test = refl

-- what stands in a chunk off the way is off it
off_way : (p x : ℕ) → under p x ≡ true → on_way p ≡ false → (eqb x 0x4100 ≡ false) × (on_way x ≡ false)
unfolding under
off_way p x u o =
    aside-parts x
    (or_second (on_way p) (aside x)
    (among-every (λ p. on_way p || aside x) p (row_of x rows).parents (listed-every (λ x. every (λ p. on_way p || aside x) (row_of x rows).parents) off_test x (under-listed p x u)) u) o)

-- x is the only step of the way in p
abbrev pub Leads : ℕ → ℕ → Type 0
Leads p x = (y : ℕ) → under p y ≡ true → eqb y x ≡ false → (eqb y 0x4100 ≡ false) × (on_way y ≡ false)

abbrev leading : ℕ → ℕ → ℕ → Bool
leading p x y = not (under p y) || (eqb y x || aside y)

leads_by : (p x : ℕ) → every_id (leading p x) rows ≡ true → Leads p x
leads_by p x t y u n =
    aside-parts y (or_second (eqb y x) (aside y) (or_second (not (under p y)) (eqb y x || aside y) (listed-every (leading p x) t y (under-listed p y u)) (rw u)) n)

pub to_objects : Leads 0x4D4D 0x3D3D
unfolding rows every under
to_objects = leads_by 0x4D4D 0x3D3D refl

pub to_object : Leads 0x3D3D 0x4000
unfolding rows every under
to_object = leads_by 0x3D3D 0x4000 refl

pub to_mesh : Leads 0x4000 0x4100
unfolding rows every under
to_mesh = leads_by 0x4000 0x4100 refl

-- ---- the meshes of a run

pub no-meshes : (p : Place) (t : Run) (o a n : ℕ) → on_way p.id ≡ false → Parses p t → standing_of o a n t ≡ []
no-meshes p end o a n w h = refl
no-meshes p (skip id body rest) o a n w h = no-meshes p rest (o + (6 + length body)) a n w h.1
no-meshes p (known id own kids rest) o a n w h =
    let f = off_way p.id id h.0.in_place w in
    rw (
      f.0,
      no-meshes (within id own) kids (o + (6 + length own)) (o + 6) (length own - 1) f.1 h.1,
      no-meshes p rest (o + (6 + length own + size kids)) a n w h.2,
    )

pub meshes-onward : (x : ℕ) (p : Place) → Leads p.id x → (t : Run) (o a n : ℕ) → Parses p t → standing_of o a n t ≡ standing_of (offset_of x o t) a n (onward x t)
meshes-onward x p w end o a n h = refl
meshes-onward x p w (skip id body rest) o a n h = meshes-onward x p w rest (o + (6 + length body)) a n h.1
meshes-onward x p w (known id own kids rest) o a n h = go (eqb id x) refl (meshes-onward x p w rest (o + (6 + length own + size kids)) a n h.2)
  where
    go : (b : Bool) → eqb id x ≡ b → standing_of (o + (6 + length own + size kids)) a n rest ≡ standing_of (offset_of x (o + (6 + length own + size kids)) rest) a n (onward x rest) →
        standing_of o a n (known id own kids rest) ≡ standing_of (cond b o (offset_of x (o + (6 + length own + size kids)) rest)) a n (cond b (known id own kids rest) (onward x rest))
    go true e ih = refl
    go false e ih =
        let f = w id h.0.in_place e in
        rw (f.0, no-meshes (within id own) kids (o + (6 + length own)) (o + 6) (length own - 1) f.1 h.1) ih

-- ---- how many of an identifier

none-onward : (x : ℕ) (t : Run) → tally (x ∷ []) (identifiers t) ≡ 0 → onward x t ≡ end
none-onward x end z = refl
none-onward x (skip id body rest) z = none-onward x rest z
none-onward x (known id own kids rest) z = go (eqb id x) (none-onward x rest) z
  where
    go : (b : Bool) → (tally (x ∷ []) (identifiers rest) ≡ 0 → onward x rest ≡ end) → cond (b || false) 1 0 + tally (x ∷ []) (identifiers rest) ≡ 0 →
        cond b (known id own kids rest) (onward x rest) ≡ end
    go true ih z = absurd (omega (arith, z))
    go false ih z = ih (omega (arith, z))

-- after the one child x there is no further
module _ (x : ℕ) (t : Run) (one : tally (x ∷ []) (identifiers t) ≤ 1) (own : List ℕ) (kids rest : Run) (e : onward x t ≡ known x own kids rest) where
  pub no-further : onward x rest ≡ end
  no-further =
      let a : tally (x ∷ []) (identifiers t) ≡ tally (x ∷ []) (identifiers (known x own kids rest)) = tally-onward x t ∙ ap (λ (r : Run). tally (x ∷ []) (identifiers r)) e in
      let b : tally (x ∷ []) (identifiers (known x own kids rest)) ≡ 1 + tally (x ∷ []) (identifiers rest) = rw (eq-eqb x x refl) in
      none-onward x rest (omega arith)

  pub no-more-meshes : (p : Place) → Leads p.id x → Parses p rest → (o a n : ℕ) → standing_of o a n rest ≡ []
  no-more-meshes p w h o a n = meshes-onward x p w rest o a n h ∙ ap (standing_of (offset_of x o rest) a n) no-further

-- those of an identifier are at most those of its group
tally-of-group : (x : ℕ) (g : List ℕ) → among x g ≡ true → (ids : List ℕ) → tally (x ∷ []) ids ≤ tally g ids
tally-of-group x g a [] = omega arith
tally-of-group x g a (y ∷ ids) = go (eqb y x) refl (among y g) refl (tally-of-group x g a ids)
  where
    go : (b : Bool) → eqb y x ≡ b → (d : Bool) → among y g ≡ d → tally (x ∷ []) ids ≤ tally g ids → cond (b || false) 1 0 + tally (x ∷ []) ids ≤ cond d 1 0 + tally g ids
    go true e true f ih = omega (arith, ih)
    go true e false f ih = let z : true ≡ false = sym a ∙ ap (λ (w : ℕ). among w g) (sym (eqb-true y x e)) ∙ f in let z' : ◌≡◌ {A = ℕ} 0 1 = cc in absurd (omega arith)
    go false e d f ih = go' d ih
      where
        go' : (d : Bool) → tally (x ∷ []) ids ≤ tally g ids → 0 + tally (x ∷ []) ids ≤ cond d 1 0 + tally g ids
        go' true ih = omega (arith, ih)
        go' false ih = omega (arith, ih)

pub one_4100 : (ids : List ℕ) → few 0x4000 ids ≡ true → tally (0x4100 ∷ []) ids ≤ 1
unfolding limits at_most_one_ids every
one_4100 ids h =
    let g = leb-true (tally (0x4100 ∷ 0x4600 ∷ 0x4700 ∷ []) ids) 1 (and_parts (leb (tally (0x4100 ∷ 0x4600 ∷ 0x4700 ∷ []) ids) 1) true h).0 in
    omega (arith, tally-of-group 0x4100 (0x4100 ∷ 0x4600 ∷ 0x4700 ∷ []) refl ids)

pub some_3D3D : (ids : List ℕ) → every (λ g. leb 1 (tally g ids)) (needs 0x4D4D) ≡ true → 1 ≤ tally (0x3D3D ∷ []) ids
unfolding needs at_least_one_ids every
some_3D3D ids h = leb-true _ _ (and_parts (leb 1 (tally (0x3D3D ∷ []) ids)) true h).0
