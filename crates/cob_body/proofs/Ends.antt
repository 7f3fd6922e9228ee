-- Laws of `Ends`: so many bytes, a count and what follows it, one reading after another.
use mathlib.Core.Path.{◌≡◌, refl, subst}
use Prim.Native.Nat.{ℕ, ◌+◌, ◌-◌, ◌*◌, ◌<◌, ◌≤◌, ◌^◌}
use native.Mathlib.Omega.{arith}
use mathlib.Core.Bool.{false}
use mathlib.Core.List.{List}
use mathlib.Core.Option.{some}
use lib.ListN.{length, take, drop, length-drop}
use lib.Seq.{drop-drop}
use borrow.Author.Tests.{le-leb, lt-leb}
use Rattle.shared_words.specs.Bytes.{value}
use Rattle.cob_rules.specs.Body.{Reading, skip, counted, and_then}
use Rattle.std.specs.Prelude.{Option, Some, None}
use Rattle.cob_body.specs.Ends.{Between, Ends, proper, Of, Counts}

-- ---- by the answer that a test has found

module _ {f : Reading} {s : List ℕ} {i : ℕ} {q : Option ℕ} where
  pub ends_at : {j : ℕ} → Ends f s i q → q ≡ Some j → Ends f s i (Some j)
  ends_at h e = subst (Ends f s i) e h

-- a position behind a later one is behind an earlier one
pub between_earlier : (i j n : ℕ) (r : Option ℕ) → i ≤ j → Between j n r → Between i n r
between_earlier i j n (Some k) l h = (omega (arith, h.0), h.1)
between_earlier i j n None l h = tt

-- ---- so many bytes

pub all-ends : (s : List ℕ) (i : ℕ) → i ≤ length s → Ends some s i (Some i)
all-ends s i l = record { is = refl; within = (omega arith, l) }

pub skip-fits : (k : ℕ) (s : List ℕ) (i : ℕ) → i + k ≤ length s → Ends (skip k) s i (Some (i + k))
skip-fits k s i l = record {
  is = rw (le-leb k (length (drop i s)) (omega (arith, length-drop i s)), drop-drop k i s);
  within = (omega arith, l);
}

pub skip-not : (k : ℕ) (s : List ℕ) (i : ℕ) → length s - i < k → Ends (skip k) s i None
skip-not k s i l = record { is = rw (lt-leb k (length (drop i s)) (omega (arith, length-drop i s))); within = tt }

-- ---- counts

module _ (w : ℕ) (s : List ℕ) (i : ℕ) where
  pub count-short : length s - i < w → Counts w s i None
  count-short l = record { told = rw (lt-leb w (length (drop i s)) (omega (arith, length-drop i s))) }

  pub count-negative : (n : ℕ) → i + w ≤ length s → n ≡ value (take w (drop i s)) → 256 ^ w ≤ 2 * n → Counts w s i None
  count-negative n l e h = record { told = rw (le-leb w (length (drop i s)) (omega (arith, length-drop i s)), ← e, le-leb (256 ^ w) (2 * n) h) }

  pub count-good : (n : ℕ) → i + w ≤ length s → n ≡ value (take w (drop i s)) → 2 * n < 256 ^ w → Counts w s i (Some n)
  count-good n l e h = record {
    told = record {
      good = rw (le-leb w (length (drop i s)) (omega (arith, length-drop i s)), ← e, lt-leb (256 ^ w) (2 * n) h);
      is = e;
      whole = l;
      small = h;
    };
  }

-- a count, and what follows it
module _ {w : ℕ} {s : List ℕ} {i : ℕ} (f : ℕ → Reading) where
  pub counted-ends : {n : ℕ} {r : Option ℕ} → Of w s i n → Ends (f n) s (i + w) r → Ends (counted w f) s i r
  counted-ends {n} {r} c h = record {
    is = rw (c.good, drop-drop w i s, ← c.is) h.is;
    within = between_earlier i (i + w) (length s) r (omega arith) h.within;
  }

pub counted-not : (w : ℕ) (f : ℕ → Reading) (s : List ℕ) (i : ℕ) → proper w (drop i s) ≡ false → Ends (counted w f) s i None
counted-not w f s i b = record { is = rw b; within = tt }

-- ---- one reading after another

module _ {f g : Reading} {s : List ℕ} {i : ℕ} where
  pub then_ends : {j : ℕ} {r : Option ℕ} → Ends f s i (Some j) → Ends g s j r → Ends (λ t. and_then (f t) g) s i r
  then_ends {j} {r} a b = record { is = rw a.is b.is; within = between_earlier i j (length s) r a.within.0 b.within }

pub then_not : {f : Reading} {s : List ℕ} {i : ℕ} (g : Reading) → Ends f s i None → Ends (λ t. and_then (f t) g) s i None
then_not g a = record { is = rw a.is; within = tt }
