-- Names compared a byte at a time, from their ends.
use mathlib.Core.Path.{◌≡◌, refl, sym, ap, ◌∙◌}
use mathlib.Core.Bool.{Bool, true, false, ◌&&◌, and-true, and-false, cond}
use mathlib.Core.List.{List, [], ◌∷◌}
use Prim.Native.Nat.{ℕ, zero, suc, ◌+◌, ◌-◌, ◌<◌, ◌≤◌}
use native.Mathlib.Omega.{arith}
use lib.Dec.{eqb}
use lib.ListN.{length, take, drop, get_or, length-take, length-drop}
use lib.Seq.{take_all}
use borrow.Author.Tests.{eq-eqb, ne_eqb, le-leb, lt-leb}
use Rattle.stick_rules.specs.Names.{lower, equal_ignoring_case, is_inside, studio_ending, cob_ending, c4d_ending, format_of}

and-left_comm : (a b c : Bool) → (a && (b && c)) ≡ (b && (a && c))
and-left_comm true b c = refl
and-left_comm false true c = refl
and-left_comm false false c = refl

-- the last of several bytes is compared first
last_first : (xs ys : List ℕ) (k : ℕ) → k < length xs → k < length ys →
    equal_ignoring_case (take (suc k) xs) (take (suc k) ys) ≡ (eqb (lower (get_or xs k 0)) (lower (get_or ys k 0)) && equal_ignoring_case (take k xs) (take k ys))
unfolding equal_ignoring_case
last_first [] ys k h l = absurd (omega arith)
last_first (x ∷ xs) [] k h l = absurd (omega arith)
last_first (x ∷ xs) (y ∷ ys) zero h l = refl
last_first (x ∷ xs) (y ∷ ys) (suc k) h l =
    ap (λ (b : Bool). eqb (lower x) (lower y) && b) (last_first xs ys k (omega arith) (omega arith)) ∙
    and-left_comm (eqb (lower x) (lower y)) (eqb (lower (get_or xs k 0)) (lower (get_or ys k 0))) (equal_ignoring_case (take k xs) (take k ys))

-- two names are alike exactly where their first `left` bytes are
pub record AlikeFor (xs ys : List ℕ) (left : ℕ) : Type 0 where
  pub few : left ≤ length xs
  pub rest : equal_ignoring_case xs ys ≡ equal_ignoring_case (take left xs) (take left ys)

module _ (xs ys : List ℕ) (same : length xs ≡ length ys) where
  pub alike_all : AlikeFor xs ys (length xs)
  alike_all = record { few = omega arith; rest = rw (take_all (length xs) xs (omega arith), take_all (length xs) ys (omega arith)) refl }

  module _ (left : ℕ) (p : 0 < left) (m : AlikeFor xs ys left) where
    alike_step : equal_ignoring_case xs ys ≡ (eqb (lower (get_or xs (left - 1) 0)) (lower (get_or ys (left - 1) 0)) && equal_ignoring_case (take (left - 1) xs) (take (left - 1) ys))
    alike_step =
        let f = m.few in
        let z : left ≡ suc (left - 1) = omega arith in
        m.rest ∙ ap (λ (i : ℕ). equal_ignoring_case (take i xs) (take i ys)) z ∙ last_first xs ys (left - 1) (omega arith) (omega arith)

    pub alike_off : (lower (get_or xs (left - 1) 0) ≡ lower (get_or ys (left - 1) 0) → ⊥) → equal_ignoring_case xs ys ≡ false
    alike_off e = alike_step ∙ rw (ne_eqb (lower (get_or xs (left - 1) 0)) (lower (get_or ys (left - 1) 0)) e)

    pub alike_on : lower (get_or xs (left - 1) 0) ≡ lower (get_or ys (left - 1) 0) → AlikeFor xs ys (left - 1)
    alike_on e =
        let f = m.few in
        record { few = omega arith; rest = alike_step ∙ rw (eq-eqb (lower (get_or xs (left - 1) 0)) (lower (get_or ys (left - 1) 0)) e) }

  pub alike_end : (left : ℕ) → left ≤ 0 → AlikeFor xs ys left → equal_ignoring_case xs ys ≡ true
  unfolding equal_ignoring_case
  alike_end left p m =
      let z : left ≡ 0 = omega arith in
      m.rest ∙ rw z

-- ---- names of several lengths

pub alike_lengths : (xs ys : List ℕ) → (length xs ≡ length ys → ⊥) → equal_ignoring_case xs ys ≡ false
unfolding equal_ignoring_case
alike_lengths [] [] n = absurd (n refl)
alike_lengths [] (y ∷ ys) n = refl
alike_lengths (x ∷ xs) [] n = refl
alike_lengths (x ∷ xs) (y ∷ ys) n = rw (alike_lengths xs ys (λ e. n (ap suc e)), and-false (eqb (lower x) (lower y)))

pub part_length : (s : List ℕ) (a n : ℕ) → a + n ≤ length s → length (take n (drop a s)) ≡ n
part_length s a n h = simp (length-take, length-drop) (omega arith)

-- ---- a name in a folder

-- a name that is not longer than the path; one that does not go on with '/'; one that does
pub inside_off : (ys xs : List ℕ) → length ys ≤ length xs → is_inside ys xs ≡ false
unfolding is_inside
inside_off [] [] h = refl
inside_off [] (x ∷ xs) h = refl
inside_off (y ∷ ys) [] h = absurd (omega arith)
inside_off (y ∷ ys) (x ∷ xs) h = rw (inside_off ys xs (omega arith), and-false (eqb (lower y) (lower x)))

pub inside_is : (ys xs : List ℕ) → length xs < length ys →
    is_inside ys xs ≡ (eqb (get_or ys (length xs) 0) 47 && equal_ignoring_case (take (length xs) ys) xs)
unfolding is_inside equal_ignoring_case
inside_is [] xs h = absurd (omega arith)
inside_is (y ∷ ys) [] h = sym (and-true (eqb y 47))
inside_is (y ∷ ys) (x ∷ xs) h =
    rw (inside_is ys xs (omega arith)) (and-left_comm (eqb (lower y) (lower x)) (eqb (get_or ys (length xs) 0) 47) (equal_ignoring_case (take (length xs) ys) xs))

module _ (name path : List ℕ) (l : length path < length name) where
  pub no_slash : (get_or name (length path) 0 ≡ 47 → ⊥) → is_inside name path ≡ false
  no_slash z = inside_is name path l ∙ rw (ne_eqb (get_or name (length path) 0) 47 z)

  pub with_slash : get_or name (length path) 0 ≡ 47 → is_inside name path ≡ equal_ignoring_case (take (length path) name) path
  with_slash z = inside_is name path l ∙ rw (eq-eqb (get_or name (length path) 0) 47 z)

-- ---- the ending of a path

module _ (path : List ℕ) where
  pub no-ending : length path < 4 → format_of path ≡ 0
  unfolding format_of
  no-ending l = rw (lt-leb 4 (length path) l)

  -- by its last four bytes, as a part of the path
  pub format_is : 4 ≤ length path → (ending : List ℕ) → ending ≡ take (length path - (length path - 4)) (drop (length path - 4) path) → format_of path ≡
      cond (equal_ignoring_case studio_ending ending) 1 (cond (equal_ignoring_case cob_ending ending) 2 (cond (equal_ignoring_case c4d_ending ending) 3 0))
  unfolding format_of
  format_is l ending e =
      let all = take_all (length path - (length path - 4)) (drop (length path - 4) path) (omega (arith, length-drop (length path - 4) path)) in
      rw (le-leb 4 (length path) l, e, all)
