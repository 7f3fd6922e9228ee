-- The judgement by its conditions: what the first broken one makes of it, and that it gives a size exactly where none is
-- broken.
use Rattle.std.specs.Prelude.{Ok, Err}
use mathlib.Core.Path.{◌≡◌, refl, sym, ap, ◌∙◌}
use Prim.Native.Nat.{ℕ, zero, suc, ◌%◌, ◌≤◌}
use native.Mathlib.Omega.{arith}
use mathlib.Core.Bool.{Bool, true, false, false≢true}
use mathlib.Core.List.{List, [], ◌∷◌}
use mathlib.Core.Option.{Option, none, some}
use lib.Dec.{eqb, ltb, leb}
use lib.Ieee.{Float}
use lib.ListN.{length, take, drop}
use borrow.Author.Tests.{eqb-true, leb-true}
use Rattle.shared_words.specs.declared.Refusal.{Refusal}
use Rattle.shared_words.specs.Lists.{every}
use Rattle.shared_words.specs.Labels.{fits_label}
use Rattle.shared_words.specs.Conditions.{Condition, must, broken}
use Rattle.shared_words.specs.Refusals.{limit}
use Rattle.shared_words.proofs.Bools.{and_parts}
use Rattle.shared_words.proofs.Conditions.{Met, met, unbroken}
use Rattle.studio_write_judge.specs.Judged.{triples, not_zero, is_whole_row, finite_float, figure_size, write_conditions, answer_of, judged}

-- the first k hold, and the next does not
pub broken-at : (k : ℕ) (cs : List Condition) {b : Bool} {r : Refusal} {rest : List Condition} → Met (take k cs) → drop k cs ≡ must b r ∷ rest → b ≡ false → broken cs ≡ some r
unfolding broken
broken-at zero cs m e f = ap broken e ∙ rw f
broken-at (suc k) [] m e f = let z : ◌≡◌ {A = ℕ} 0 1 = cc in absurd (omega arith)
broken-at (suc k) (must true r ∷ cs) m e f = broken-at k cs m.1 e f
broken-at (suc k) (must false r ∷ cs) m e f = absurd (false≢true m.0)

-- the first k hold, and so does the next
pub met-more : (k : ℕ) (cs : List Condition) {b : Bool} {r : Refusal} {rest : List Condition} → Met (take k cs) → drop k cs ≡ must b r ∷ rest → b ≡ true → Met (take (suc k) cs)
met-more zero cs m e f = rw e (f, tt)
met-more (suc k) [] m e f = tt
met-more (suc k) (must b r ∷ cs) m e f = (m.0, met-more k cs m.1 e f)

pub whole_row : (n : ℕ) → is_whole_row n ≡ true → (n % 3 ≡ 0) × (n ≤ 196_605)
whole_row n h =
    let p = and_parts (eqb (n % 3) 0) (leb n 196_605) h in
    (eqb-true _ _ p.0, leb-true _ _ p.1)

module _ (name : List ℕ) (vertices : List Float) (corners : List ℕ) (room : ℕ) where
  abbrev conditions : List Condition
  conditions = write_conditions name vertices corners room

  pub refused-at : (k : ℕ) {b : Bool} {r : Refusal} {rest : List Condition} → Met (take k conditions) → drop k conditions ≡ must b r ∷ rest → b ≡ false →
      Err r ≡ judged name vertices corners room
  unfolding judged
  refused-at k m e f = sym (ap (answer_of (figure_size name vertices corners)) (broken-at k conditions m e f))

  pub sized : Met conditions → Ok (figure_size name vertices corners) ≡ judged name vertices corners room
  unfolding judged
  sized m = sym (ap (answer_of (figure_size name vertices corners)) (unbroken conditions m))

  -- what a size tells
  pub record Ready (size : ℕ) : Type 0 where
    pub no_zero : every not_zero name ≡ true
    pub fits_label_lem : fits_label name ≡ true
    pub whole-vertices : length vertices % 3 ≡ 0
    pub few-vertices : length vertices ≤ 196_605
    pub whole-corners : length corners % 3 ≡ 0
    pub few-corners : length corners ≤ 196_605
    pub finite : every finite_float vertices ≡ true
    pub below : every (λ c. ltb c (triples vertices)) corners ≡ true
    pub size_is : size ≡ figure_size name vertices corners
    pub within-limit : size ≤ limit
    pub within-room : size ≤ room

  pub ready : (size : ℕ) → judged name vertices corners room ≡ Ok size → Ready size
  unfolding judged
  ready size e = go (broken conditions) refl e
    where
      go : (o : Option Refusal) → broken conditions ≡ o → answer_of (figure_size name vertices corners) o ≡ Ok size → Ready size
      go none b e =
          let m = met conditions b in
          let v = whole_row (length vertices) m.1.1.0 in
          let c = whole_row (length corners) m.1.1.1.0 in
          let z : size ≡ figure_size name vertices corners = cc in
          record {
            no_zero = m.0;
            fits_label_lem = m.1.0;
            whole-vertices = v.0;
            few-vertices = v.1;
            whole-corners = c.0;
            few-corners = c.1;
            finite = m.1.1.1.1.0;
            below = m.1.1.1.1.1.0;
            size_is = z;
            within-limit = rw z (leb-true _ _ m.1.1.1.1.1.1.0);
            within-room = rw z (leb-true _ _ m.1.1.1.1.1.1.1.0);
          }
      go (some r) b e = let z : ◌≡◌ {A = ℕ} 0 1 = cc in absurd (omega arith)
