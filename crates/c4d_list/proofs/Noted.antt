-- What the notes of an object tell where they stand.
use mathlib.Core.Path.{◌≡◌, refl, sym, ap, ◌∙◌}
use Prim.Native.Nat.{ℕ, ◌+◌, ◌*◌, ◌/◌, ◌%◌, ◌≤◌}
use native.Mathlib.Omega.{arith}
use mathlib.Core.Bool.{Bool, true, false}
use mathlib.Core.List.{List, [], ◌∷◌, ◌++◌}
use lib.Dec.{eqb}
use borrow.Author.Tests.{eqb-true, eqb-false}
use lib.ListN.{length, take, drop, get_or, length-append, length-drop}
use lib.Seq.{slice, get_or-drop, drop-drop, take_at}
use Rattle.shared_numbers.proofs.Slices.{drop-take}
use Rattle.c4d_rules.specs.Gives.{Object}
use Rattle.c4d_objects.specs.Notes.{front, notes_of, Small}
use Rattle.c4d_objects.proofs.Notes.{front_alone, front_pair, front-some}

module _ (notes : List ℕ) (at : ℕ) (r : Object) (more : List ℕ) (d : drop at notes ≡ notes_of r ++ more) where
  abbrev textures : ℕ
  textures = length r.materials

  abbrev f : List ℕ
  f = front r.offset r.combination textures

  first : (x : ℕ) (xs : List ℕ) → f ≡ x ∷ xs → get_or notes at 0 ≡ x
  first x xs e =
      let z : at + 0 ≡ at = omega arith in
      ap (λ (i : ℕ). get_or notes i 0) (sym z) ∙ sym (get_or-drop at notes 0 0) ∙ ap (λ (l : List ℕ). get_or l 0 0) d ∙ ap (λ (l : List ℕ). get_or (l ++ r.materials ++ more) 0 0) e

  pub reach : at + (length f + textures) ≤ length notes
  reach = omega (arith, ap length d, length-drop at notes, length-append (f ++ r.materials) more, length-append f r.materials, front-some r.offset r.combination textures)

  pub first_alone : textures ≡ 0 → get_or notes at 0 ≡ 32 * r.offset + r.combination
  first_alone z = first (32 * r.offset + r.combination) [] (front_alone r.offset r.combination textures z)

  module _ (n : textures ≡ 0 → ⊥) where
    e : f ≡ (32 * r.offset + 16 + r.combination) ∷ textures ∷ []
    e = front_pair r.offset r.combination textures n

    pub first_pair : get_or notes at 0 ≡ 32 * r.offset + 16 + r.combination
    first_pair = first (32 * r.offset + 16 + r.combination) (textures ∷ []) e

    pub second : get_or notes (at + 1) 0 ≡ textures
    second = sym (get_or-drop at notes 1 0) ∙ ap (λ (l : List ℕ). get_or l 1 0) d ∙ ap (λ (l : List ℕ). get_or (l ++ r.materials ++ more) 1 0) e

    pub those : slice (at + 2) (at + 2 + textures) notes ≡ r.materials
    those =
        drop-take (at + 2) textures notes ∙ ap (take textures) (sym (drop-drop 2 at notes) ∙ ap (drop 2) d ∙ ap (λ (l : List ℕ). drop 2 (l ++ r.materials ++ more)) e) ∙
        take_at r.materials more textures refl

    pub pair_long : length f ≡ 2
    pair_long = ap length e

  -- ---- whether it has textures

  module _ (small : Small r) (x : ℕ) (g : x ≡ get_or notes at 0) where
    either : {P : Type 0} → (textures ≡ 0 → x ≡ 32 * r.offset + r.combination → P) → ((textures ≡ 0 → ⊥) → x ≡ 32 * r.offset + 16 + r.combination → P) → P
    either {P} alone pair = go (eqb textures 0) refl
      where
        go : (q : Bool) → eqb textures 0 ≡ q → P
        go true h = let z = eqb-true textures 0 h in alone z (g ∙ first_alone z)
        go false h = let n = eqb-false textures 0 h in pair n (g ∙ first_pair n)

    pub has_none : x / 16 % 2 ≡ 0 → textures ≡ 0
    has_none z = either (λ e y. e) (λ n y. absurd (omega (arith, small)))

    pub has_some : (x / 16 % 2 ≡ 0 → ⊥) → textures ≡ 0 → ⊥
    has_some z = either (λ e y. absurd (z (omega (arith, small)))) (λ n y. n)

    pub offset_of_lem : x / 32 ≡ r.offset
    offset_of_lem = either (λ e y. omega (arith, small)) (λ n y. omega (arith, small))

    pub number_of_lem : x % 16 ≡ r.combination
    number_of_lem = either (λ e y. omega (arith, small)) (λ n y. omega (arith, small))
