-- Items as a loop meets them: whether the walk was whole, and whether some are figures, by those that are left.
use mathlib.Core.Path.{◌≡◌, refl, sym, ap, ◌∙◌}
use mathlib.Core.Bool.{Bool, true, false, ◌||◌, true≢false}
use mathlib.Core.List.{List, [], ◌∷◌}
use Prim.Native.Nat.{ℕ, zero, suc, ◌+◌, ◌-◌, ◌<◌, ◌≤◌}
use native.Mathlib.Numerals.{add-one}
use native.Mathlib.Omega.{arith}
use lib.Dec.{eqb, leb}
use lib.ListN.{length}
use borrow.Author.Tests.{eqb-true, eqb-false, eq-eqb, ne_eqb, leb-true, le-leb, lt-leb}
use Rattle.shared_words.specs.Lists.{total, any}
use Rattle.stick_rules.specs.Items.{Item, listed, is_figure}
use Rattle.stick_rules.specs.Judge.{is_whole}
use Rattle.stick_rules.specs.Records.{item_no, items_from, item_count, items_in}

pub items_step : (k : ℕ) (names s : List ℕ) (i : ℕ) → 0 < k → items_from k names s i ≡ item_no names s i ∷ items_from (k - 1) names s (i + 1)
unfolding items_from
items_step zero names s i h = absurd (omega arith)
items_step (suc k) names s i h =
    let z : suc k - 1 ≡ k = omega arith in
    rw (z, add-one i)

pub items_none : (k : ℕ) (names s : List ℕ) (i : ℕ) → k ≡ 0 → items_from k names s i ≡ []
unfolding items_from
items_none k names s i h = rw h

pub length_items : (k : ℕ) (names s : List ℕ) (i : ℕ) → length (items_from k names s i) ≡ k
unfolding items_from
length_items zero names s i = refl
length_items (suc k) names s i = ap suc (length_items k names s (suc i))

-- ---- equal where others are

eqb_as : (a b c d : ℕ) → (a ≡ b → c ≡ d) → (c ≡ d → a ≡ b) → eqb a b ≡ eqb c d
eqb_as a b c d f g = go (eqb c d) refl
  where
    go : (r : Bool) → eqb c d ≡ r → eqb a b ≡ r
    go true q = eq-eqb a b (g (eqb-true c d q))
    go false q = ne_eqb a b (λ e. eqb-false c d q (f e))

pub leb_as : (a b c d : ℕ) → (a ≤ b → c ≤ d) → (c ≤ d → a ≤ b) → leb a b ≡ leb c d
leb_as a b c d f g = go (leb c d) refl
  where
    go : (r : Bool) → leb c d ≡ r → leb a b ≡ r
    go true q = le-leb a b (g (leb-true c d q))
    go false q = lt-leb a b (above (λ l. true≢false (sym (le-leb c d (f l)) ∙ q)))
      where
        above : (a ≤ b → ⊥) → b < a
        above n = omega arith

-- ---- whether it was whole: `left` names are to be listed by the items from i on

module _ (names s : List ℕ) where
  pub record Wholly (n left i : ℕ) : Type 0 where
    pub few : i ≤ n
    pub rest : is_whole (items_in names s) ≡ eqb left (total listed (items_from (n - i) names s i))

  pub whole-none : item_count s ≡ 0 → is_whole (items_in names s) ≡ false
  whole-none z = ne_eqb (length (items_in names s)) (1 + total listed (items_in names s)) (λ e. omega (arith, e, length_items (item_count s) names s 0))

  pub whole-start : (n : ℕ) → n ≡ item_count s → (n ≡ 0 → ⊥) → Wholly n (n - 1) 0
  whole-start n q p =
      let z : n - 0 ≡ n = omega arith in
      let l = length_items (item_count s) names s 0 in
      record {
        few = omega arith;
        rest = rw (z, q) (eqb_as (length (items_in names s)) (1 + total listed (items_in names s)) (item_count s - 1) (total listed (items_in names s)) (λ e. omega (arith, e, l)) (λ e. omega (arith, e, l)));
      }

  module _ (n left i : ℕ) (w : Wholly n left i) (l : i < n) where
    abbrev rest-listed : ℕ
    rest-listed = total listed (items_from (n - i - 1) names s (i + 1))

    whole-step : is_whole (items_in names s) ≡ eqb left (listed (item_no names s i) + rest-listed)
    whole-step = w.rest ∙ ap (λ (ts : List Item). eqb left (total listed ts)) (items_step (n - i) names s i (omega arith))

    pub whole-over : left < listed (item_no names s i) → is_whole (items_in names s) ≡ false
    whole-over o = whole-step ∙ ne_eqb left (listed (item_no names s i) + rest-listed) (λ e. omega (arith, e))

    pub whole-on : listed (item_no names s i) ≤ left → Wholly n (left - listed (item_no names s i)) (i + 1)
    whole-on o =
        let z : n - (i + 1) ≡ n - i - 1 = omega arith in
        record {
          few = omega arith;
          rest = whole-step ∙ rw z (eqb_as left (listed (item_no names s i) + rest-listed) (left - listed (item_no names s i)) rest-listed (λ e. omega (arith, e)) (λ e. omega (arith, e)));
        }

  pub whole-end : (n left i : ℕ) → Wholly n left i → n ≤ i → is_whole (items_in names s) ≡ eqb left 0
  whole-end n left i w l = w.rest ∙ ap (λ (ts : List Item). eqb left (total listed ts)) (items_none (n - i) names s i (omega arith))

  -- ---- whether some are figures

  pub record Figures (n i : ℕ) : Type 0 where
    pub few : i ≤ n
    pub rest : any is_figure (items_in names s) ≡ any is_figure (items_from (n - i) names s i)

  pub figures_start : (n : ℕ) → n ≡ item_count s → Figures n 0
  figures_start n q = let z : n - 0 ≡ n = omega arith in record { few = omega arith; rest = rw (z, q) }

  module _ (n i : ℕ) (w : Figures n i) (l : i < n) where
    figures_step : any is_figure (items_in names s) ≡ (is_figure (item_no names s i) || any is_figure (items_from (n - i - 1) names s (i + 1)))
    figures_step = w.rest ∙ ap (any is_figure) (items_step (n - i) names s i (omega arith))

    pub figures_found : is_figure (item_no names s i) ≡ true → any is_figure (items_in names s) ≡ true
    figures_found f = figures_step ∙ rw f

    pub figures_on : is_figure (item_no names s i) ≡ false → Figures n (i + 1)
    figures_on f =
        let z : n - (i + 1) ≡ n - i - 1 = omega arith in
        record { few = omega arith; rest = figures_step ∙ rw (f, z) }

  pub figures_end : (n i : ℕ) → Figures n i → n ≤ i → any is_figure (items_in names s) ≡ false
  figures_end n i w l = w.rest ∙ ap (any is_figure) (items_none (n - i) names s i (omega arith))
