-- The conditions of a sub-chunk, by its identifier: what they answer.
use mathlib.Core.Path.{◌≡◌, refl, ap, ◌∙◌}
use Prim.Native.Nat.{ℕ, zero, suc, ◌*◌, ◌^◌, ◌<◌, ◌≤◌}
use native.Mathlib.Omega.{arith}
use mathlib.Core.Bool.{Bool, true, false, not, ◌&&◌, ◌||◌, cond}
use mathlib.Core.List.{List}
use mathlib.Core.Option.{Option, none, some}
use lib.Dec.{eqb}
use lib.ListN.{length}
use borrow.Author.Tests.{le-leb, lt-leb, ne_eqb}
use Rattle.shared_words.specs.declared.Refusal.TheVariants.{Length, Order, Material, Combination}
use Rattle.shared_words.specs.Conditions.{broken}
use Rattle.shared_words.specs.Bytes.{negative, minus_one}
use Rattle.c4d_rules.specs.Blocks.{Block}
use Rattle.c4d_rules.specs.Kinds.{t_end, t_object, t_texture, listed}
use Rattle.c4d_rules.specs.Combinations.{is_in, combination, once_each, combined}
use Rattle.c4d_rules.specs.Rules.{Open, is_open, so_far, object_id, identifiers, material}
use Rattle.c4d_held.specs.Held.{number_of, last_of, is_material, fault}
use Rattle.c4d_held.proofs.OneMore.{is-part, no_part}

module _ (b : Block) (last : Option ℕ) (o : Open) (at : ℕ) where
  -- ---- T_OBJECT

  pub object-inside : object_id b ≡ t_object → is_open o ≡ true → fault last o at b ≡ some (Order at)
  unfolding listed broken
  object-inside e h = rw (e, h)

  pub object_fine : object_id b ≡ t_object → is_open o ≡ false → fault last o at b ≡ none
  unfolding listed broken
  object_fine e h = rw (e, h)

  -- ---- T_END

  pub end-outside : object_id b ≡ t_end → is_open o ≡ false → fault last o at b ≡ some (Order at)
  unfolding listed broken
  end-outside e h = rw (e, h)

  pub end-mixed : object_id b ≡ t_end → is_open o ≡ true → combined (identifiers (so_far o)) ≡ false → fault last o at b ≡ some (Combination at)
  unfolding listed broken
  end-mixed e h k = rw (e, h, k)

  pub end_fine : object_id b ≡ t_end → is_open o ≡ true → combined (identifiers (so_far o)) ≡ true → fault last o at b ≡ none
  unfolding listed broken
  end_fine e h k = rw (e, h, k)

  -- ---- T_TEXTURE

  pub texture-long : object_id b ≡ t_texture → eqb (length b.body) 64 ≡ false → fault last o at b ≡ some (Length at)
  unfolding listed broken
  texture-long e l = rw (e, l)

  module _ (e : object_id b ≡ t_texture) (l : eqb (length b.body) 64 ≡ true) where
    pub texture-outside : is_open o ≡ false → fault last o at b ≡ some (Order at)
    unfolding listed broken
    texture-outside h = rw (e, l, h)

    pub texture-none : is_open o ≡ true → is_material last (material b) ≡ false → fault last o at b ≡ some (Material at)
    unfolding listed broken
    texture-none h k = rw (e, l, h, k)

    pub texture_fine : is_open o ≡ true → is_material last (material b) ≡ true → fault last o at b ≡ none
    unfolding listed broken
    texture_fine h k = rw (e, l, h, k)

  -- ---- others

  module _ (t : eqb (object_id b) t_texture ≡ false) (s : eqb (object_id b) t_object ≡ false) (e : eqb (object_id b) t_end ≡ false) where
    pub part-outside : listed (object_id b) ≡ true → is_open o ≡ false → fault last o at b ≡ some (Order at)
    unfolding broken
    part-outside p h = rw (t, s, e, p, h)

    pub unknown_outside : listed (object_id b) ≡ false → fault last o at b ≡ none
    unfolding broken
    unknown_outside p = rw (t, s, e, p)

    pub inside_fine : is_open o ≡ true → fault last o at b ≡ none
    unfolding broken
    inside_fine h = go (listed (object_id b)) refl
      where
        go : (q : Bool) → listed (object_id b) ≡ q → fault last o at b ≡ none
        go true p = rw (t, s, e, p, h)
        go false p = rw (t, s, e, p)

-- ---- materials

-- below the number: as there are few, none of these is negative
pub material-below : (below n : ℕ) → below ≤ 0x8000_0000 → n < below → is_material (last_of below) n ≡ true
material-below zero n l h = absurd (omega arith)
material-below (suc k) n l h = rw (lt-leb (256 ^ 4) (2 * n) (omega arith), le-leb n k (omega arith)) (go (eqb n minus_one))
  where
    go : (q : Bool) → (q || true) ≡ true
    go true = refl
    go false = refl

-- not below it: only -1
pub material_above : (below n : ℕ) → below ≤ n → is_material (last_of below) n ≡ eqb n minus_one
material_above zero n h = go (eqb n minus_one)
  where
    go : (q : Bool) → (q || false) ≡ q
    go true = refl
    go false = refl
material_above (suc k) n h = rw (lt-leb n k (omega arith)) (go (eqb n minus_one) (not (negative 4 n)))
  where
    go : (q p : Bool) → (q || (p && false)) ≡ q
    go true p = refl
    go false true = refl
    go false false = refl

-- ---- which identifiers are which

pub not_this : (b : Block) (k : ℕ) {id : ℕ} → object_id b ≡ id → (id ≡ k → ⊥) → eqb (object_id b) k ≡ false
not_this b k {id} e n = ap (λ (i : ℕ). eqb i k) e ∙ ne_eqb id k n

pub listed-part : (id : ℕ) → 16 ≤ id → id ≤ 32 → listed id ≡ true
unfolding listed
listed-part id l m = rw (ne_eqb id t_end (λ (e : id ≡ t_end). omega arith), ne_eqb id t_object (λ (e : id ≡ t_object). omega arith)) (is-part id l m)

pub not_listed : (id : ℕ) → (id ≡ t_end → ⊥) → (id ≡ t_object → ⊥) → (16 ≤ id → 32 < id) → listed id ≡ false
unfolding listed
not_listed id e s u = rw (ne_eqb id t_end e, ne_eqb id t_object s) (no_part id u)

-- ---- the combination

pub not-combined : (ids : List ℕ) → number_of ids ≡ 0 → combined ids ≡ false
unfolding combined
not-combined ids h = go (once_each ids) refl h
  where
    or_false : (q : Bool) → (q && false) ≡ false
    or_false true = refl
    or_false false = refl

    go : (q : Bool) → once_each ids ≡ q → cond q (combination (is_in ids)) 0 ≡ 0 → combined ids ≡ false
    go true e z = rw z
    go false e z = rw e (or_false (not (eqb (combination (is_in ids)) 0)))

pub is-combined : (ids : List ℕ) → (number_of ids ≡ 0 → ⊥) → (combined ids ≡ true) × (number_of ids ≡ combination (is_in ids))
unfolding combined
is-combined ids n = go (once_each ids) refl n
  where
    go : (q : Bool) → once_each ids ≡ q → (cond q (combination (is_in ids)) 0 ≡ 0 → ⊥) → (combined ids ≡ true) × (number_of ids ≡ combination (is_in ids))
    go true e z = (rw (ne_eqb (combination (is_in ids)) 0 z, e), rw e)
    go false e z = absurd (z refl)
