-- Each child of 3D3D is judged by itself: no rule looks at those before it, nor at how many there are.
use mathlib.Core.Path.{◌≡◌, refl}
use Prim.Native.Nat.{ℕ}
use native.Mathlib.Omega.{arith}
use mathlib.Core.Bool.{Bool, true, false, ◌||◌}
use mathlib.Core.List.{List, [], ◌∷◌}
use lib.Dec.{eqb}
use borrow.Author.Tests.{eqb-true, ne_eqb}
use Rattle.studio_rules.specs.Table.{rows, plus, under}
use Rattle.studio_rules.specs.Layout.{Run, end, skip, known, ◌then◌}
use Rattle.studio_rules.specs.Rules.{Parent, inside, tally, few, none_missing, Own, Children, Obeys, version}
use Rattle.shared_words.proofs.Bools.{every_nil}
use Rattle.studio_scene.specs.Passed.{passed}
use Rattle.studio_scene.proofs.Ungrouped.{ungrouped}
use Rattle.studio_scene.proofs.Then.{obeys-join, obeys-parts}

-- ---- the order of a chunk: only a B010 looks at that of the chunk around, which is a B002

pub one-of-one : (b : Bool) → (b || false) ≡ true → b ≡ true
one-of-one true h = refl
one-of-one false h = h

module _ (p : ℕ) where
  around_B010 : under p 0xB010 ≡ true → p ≡ 0xB002
  unfolding under rows
  around_B010 h = eqb-true p 0xB002 (one-of-one _ h)

  around_B002 : under p 0xB002 ≡ true → p ≡ 0xB000
  unfolding under rows
  around_B002 h = eqb-true p 0xB000 (one-of-one _ h)

-- p with another order
abbrev ordered : Parent → ℕ → Parent
ordered p n = record { id = p.id; own = p.own; order = n; version = p.version }

own_ordered : (p : Parent) (n : ℕ) (seen : List ℕ) (id : ℕ) (own : List ℕ) → (p.id ≡ 0xB002 → ⊥) → Own p seen id own → Own (ordered p n) seen id own
own_ordered p n seen id own b h =
    let e : eqb id 0xB010 ≡ false = ne_eqb id 0xB010 (λ e. b (around_B010 p.id (rw e at h.in_place))) in
    record {
      in_place = h.in_place;
      not_twice_lem = h.not_twice_lem;
      names_fit_lem = h.names_fit_lem;
      own_data_exact_lem = h.own_data_exact_lem;
      numbers-finite = h.numbers-finite;
      face-numbers-below = h.face-numbers-below;
      father_earlier_lem = rw e;
    }

obeys-ordered : (p : Parent) (n : ℕ) (seen : List ℕ) (t : Run) → (p.id ≡ 0xB002 → ⊥) → Obeys p seen t → Obeys (ordered p n) seen t
obeys-ordered p n seen end b h = tt
obeys-ordered p n seen (skip id body rest) b h = (h.0, obeys-ordered p n seen rest b h.1)
obeys-ordered p n seen (known id own kids rest) b h = (own_ordered p n seen id own b h.0, h.1, h.2, obeys-ordered p n (id ∷ seen) rest b h.3)

children-ordered : (q : Parent) (n : ℕ) (kids : Run) → Children q kids → Children (ordered q n) kids
children-ordered q n kids h = record { in_plus = h.in_plus; none-missing = h.none-missing; corners-below = h.corners-below; mapping_matches_lem = h.mapping_matches_lem }

-- ---- 3D3D: no rule of it speaks of how many children it has

-- 3D3D, of an order, in a file of a version
abbrev pub scene : ℕ → ℕ → Parent
scene order version = record { id = 0x3D3D; own = []; order = order; version = version }

pub few_in_scene : (ids : List ℕ) → few 0x3D3D ids ≡ true
few_in_scene ids = rw ungrouped.no-limits (every_nil _)

module _ (n v : ℕ) where
  pub none-missing_in_scene : (t : Run) → none_missing (scene n v) t ≡ true
  none-missing_in_scene t = rw ungrouped.no-needs (every_nil _)

  pub scene-children : (t : Run) → Children (scene n v) t
  unfolding plus rows
  scene-children t = record { in_plus = refl; none-missing = none-missing_in_scene t; corners-below = refl; mapping_matches_lem = refl }

  no_part : (id : ℕ) → under 0x3D3D id ≡ true → id ≡ 0xB002 → ⊥
  no_part id u e = let z = around_B002 0x3D3D (rw e at u) in omega arith

  -- what obeys the rules behind some children does so behind others
  pub obeys-anywhere : (seen seen' : List ℕ) (t : Run) → Obeys (scene n v) seen t → Obeys (scene n v) seen' t
  obeys-anywhere seen seen' end h = tt
  obeys-anywhere seen seen' (skip id body rest) h = (h.0, obeys-anywhere seen seen' rest h.1)
  obeys-anywhere seen seen' (known id own kids rest) h =
      let a = h.0 in
      let q : Parent = inside (scene n v) seen id own in
      let m : ℕ = tally (id ∷ []) seen' in (
        record {
          in_place = a.in_place;
          not_twice_lem = few_in_scene (id ∷ seen');
          names_fit_lem = a.names_fit_lem;
          own_data_exact_lem = a.own_data_exact_lem;
          numbers-finite = a.numbers-finite;
          face-numbers-below = a.face-numbers-below;
          father_earlier_lem = a.father_earlier_lem;
        },
        children-ordered q m kids h.1,
        obeys-ordered q m [] kids (no_part id a.in_place) h.2,
        obeys-anywhere (id ∷ seen) (id ∷ seen') rest h.3,
      )

  -- so each child is judged by itself
  pub scene-join : (a t : Run) → Obeys (scene n v) [] a → Obeys (scene n v) [] t → Obeys (scene n v) [] (a then t)
  scene-join a t h k = obeys-join (scene n v) [] a t h (obeys-anywhere [] (passed [] a) t k)

  pub scene-parts : (a t : Run) → Obeys (scene n v) [] (a then t) → Obeys (scene n v) [] a × Obeys (scene n v) [] t
  scene-parts a t h = let k = obeys-parts (scene n v) [] a t h in (k.0, obeys-anywhere (passed [] a) [] t k.1)
