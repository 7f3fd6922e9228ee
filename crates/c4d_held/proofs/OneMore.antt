-- One sub-chunk more: what is repeated, and what is there.
use mathlib.Core.Path.{◌≡◌, refl, sym, ap, ◌∙◌}
use Prim.Native.Nat.{ℕ, zero, suc, ◌+◌, ◌-◌, ◌<◌, ◌≤◌}
use native.Mathlib.Omega.{arith}
use mathlib.Core.Bool.{Bool, true, false, not, ◌&&◌, ◌||◌, true≢false, false≢true}
use mathlib.Core.List.{List, [], ◌∷◌, ◌++◌}
use lib.Dec.{eqb, leb}
use borrow.Author.Tests.{eqb-true, eqb-false, eq-eqb, ne_eqb, leb-true, leb-false}
use Rattle.shared_words.specs.Lists.{every, among}
use Rattle.shared_words.proofs.Bools.{and_parts}
use Rattle.c4d_rules.specs.Kinds.{t_texture, parts}
use Rattle.c4d_rules.specs.Blocks.{Block}
use Rattle.c4d_rules.specs.Combinations.{may_repeat, once_each}
use Rattle.c4d_rules.specs.Rules.{object_id, identifiers}
use Rattle.c4d_parts.proofs.Bits.{among_snoc}

pub identifiers_snoc : (bs : List Block) (b : Block) → identifiers (bs ++ (b ∷ [])) ≡ identifiers bs ++ (object_id b ∷ [])
identifiers_snoc [] b = refl
identifiers_snoc (x ∷ bs) b = ap (λ (l : List ℕ). object_id x ∷ l) (identifiers_snoc bs b)

pub not-turned : (p q : Bool) → not p ≡ not q → p ≡ q
not-turned true true e = refl
not-turned true false e = absurd (false≢true e)
not-turned false true e = absurd (true≢false e)
not-turned false false e = refl

-- of an earlier one x and the later one: m that it may repeat, a that it is among the rest, e that they are the same
arranged : (m a e n d o : Bool) → (e ≡ true → m ≡ n) →
    ((m || not (a || e)) && (o && (n || not d))) ≡ (((m || not a) && o) && (n || not (e || d)))
arranged true a true true d o h = refl
arranged true a true false d o h = absurd (true≢false (h refl))
arranged true a false n d o h = refl
arranged false a true true d o h = absurd (false≢true (h refl))
arranged false true true false d o h = refl
arranged false false true false d true h = refl
arranged false false true false d false h = refl
arranged false true false n d o h = refl
arranged false false false n d o h = refl

eqb-turned : (x y : ℕ) → eqb x y ≡ eqb y x
eqb-turned x y = go (eqb x y) refl (eqb y x) refl
  where
    go : (p : Bool) → eqb x y ≡ p → (q : Bool) → eqb y x ≡ q → p ≡ q
    go true e true f = refl
    go true e false f = sym (eq-eqb y x (sym (eqb-true x y e))) ∙ f
    go false e true f = sym (sym (eq-eqb x y (sym (eqb-true y x f))) ∙ e)
    go false e false f = refl

pub once_snoc : (ids : List ℕ) (id : ℕ) → once_each (ids ++ (id ∷ [])) ≡ (once_each ids && (may_repeat id || not (among id ids)))
unfolding once_each
once_snoc [] id = go (may_repeat id)
  where
    go : (b : Bool) → ((b || true) && true) ≡ (b || true)
    go true = refl
    go false = refl
once_snoc (x ∷ ids) id =
    ap (λ (q : Bool). (may_repeat x || not q) && once_each (ids ++ (id ∷ []))) (among_snoc x ids id) ∙
    ap (λ (q : Bool). (may_repeat x || not (among x ids || eqb x id)) && q) (once_snoc ids id) ∙
    arranged (may_repeat x) (among x ids) (eqb x id) (may_repeat id) (among id ids) (once_each ids) (λ e. ap may_repeat (eqb-true x id e)) ∙
    ap (λ (q : Bool). ((may_repeat x || not (among x ids)) && once_each ids) && (may_repeat id || not (q || among id ids))) (eqb-turned x id)

-- ---- which identifiers are listed

-- the identifiers from 16 to 32 are those that an object may have
all_among : ℕ → Bool
all_among zero = true
all_among (suc k) = among (16 + k) parts && all_among k

of_these : (n k : ℕ) → all_among n ≡ true → k < n → among (16 + k) parts ≡ true
unfolding all_among
of_these zero k h l = absurd (omega arith)
of_these (suc n) k h l = go (eqb k n) refl (of_these n k (and_parts (among (16 + n) parts) (all_among n) h).1)
  where
    go : (q : Bool) → eqb k n ≡ q → (k < n → among (16 + k) parts ≡ true) → among (16 + k) parts ≡ true
    go true e r = ap (λ (i : ℕ). among (16 + i) parts) (eqb-true k n e) ∙ (and_parts (among (16 + n) parts) (all_among n) h).0
    go false e r = let d = eqb-false k n e in r (omega arith)

pub is-part : (id : ℕ) → 16 ≤ id → id ≤ 32 → among id parts ≡ true
unfolding all_among
is-part id l m =
    let e : 16 + (id - 16) ≡ id = omega arith in
    rw e at (of_these 17 (id - 16) refl (omega arith))

-- and all of them are
low-none : (id : ℕ) (xs : List ℕ) → every (λ x. leb 16 x) xs ≡ true → id < 16 → among id xs ≡ false
unfolding every
low-none id [] h l = refl
low-none id (x ∷ xs) h l =
    let k = and_parts (leb 16 x) (every (λ x. leb 16 x) xs) h in
    let n = leb-true 16 x k.0 in
    rw (ne_eqb id x (λ (e : id ≡ x). omega arith)) (low-none id xs k.1 l)

high-none : (id : ℕ) (xs : List ℕ) → every (λ x. leb x 32) xs ≡ true → 32 < id → among id xs ≡ false
unfolding every
high-none id [] h l = refl
high-none id (x ∷ xs) h l =
    let k = and_parts (leb x 32) (every (λ x. leb x 32) xs) h in
    let n = leb-true x 32 k.0 in
    rw (ne_eqb id x (λ (e : id ≡ x). omega arith)) (high-none id xs k.1 l)

pub no_part : (id : ℕ) → (16 ≤ id → 32 < id) → among id parts ≡ false
unfolding every
no_part id h = go (leb 16 id) refl
  where
    go : (q : Bool) → leb 16 id ≡ q → among id parts ≡ false
    go true e = high-none id parts refl (h (leb-true 16 id e))
    go false e = low-none id parts refl (leb-false 16 id e)

-- ---- with one more

module _ (ids : List ℕ) (id : ℕ) where
  -- what was repeated stays so
  pub once-broken : once_each ids ≡ false → once_each (ids ++ (id ∷ [])) ≡ false
  once-broken h = once_snoc ids id ∙ rw h

  pub once-texture : once_each ids ≡ true → id ≡ t_texture → once_each (ids ++ (id ∷ [])) ≡ true
  once-texture h e = once_snoc ids id ∙ rw (h, e)

  pub once-part : once_each ids ≡ true → 16 ≤ id → id ≤ 32 → (id ≡ t_texture → ⊥) → not (once_each (ids ++ (id ∷ []))) ≡ among id ids
  once-part h l m t =
      ap not (once_snoc ids id) ∙ ap (λ (q : Bool). not (q && (may_repeat id || not (among id ids)))) h ∙
      ap (λ (q : Bool). not (q || not (among id ids))) (not_may (is-part id l m)) ∙ twice (among id ids)
    where
      not_may : among id parts ≡ true → may_repeat id ≡ false
      not_may p = ap (λ (q : Bool). q || not (among id parts)) (ne_eqb id t_texture t) ∙ ap not p

      twice : (q : Bool) → not (not q) ≡ q
      twice true = refl
      twice false = refl

  pub once_unknown : (16 ≤ id → 32 < id) → once_each (ids ++ (id ∷ [])) ≡ once_each ids
  once_unknown h = once_snoc ids id ∙ ap (λ (q : Bool). once_each ids && (q || not (among id ids))) may ∙ stays (once_each ids)
    where
      may : may_repeat id ≡ true
      may = ap (λ (q : Bool). eqb id t_texture || not q) (no_part id h) ∙ or_true (eqb id t_texture)
        where
          or_true : (q : Bool) → (q || true) ≡ true
          or_true true = refl
          or_true false = refl

      stays : (q : Bool) → (q && true) ≡ q
      stays true = refl
      stays false = refl
