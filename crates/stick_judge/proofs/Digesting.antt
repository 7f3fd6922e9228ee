-- The digests of the entries' names, as a loop over the slip fills them in.
use mathlib.Core.Path.{◌≡◌, refl, sym, ap, ◌∙◌}
use mathlib.Core.Bool.{Bool, true, false}
use mathlib.Core.List.{List}
use Prim.Native.Nat.{ℕ, ◌+◌, ◌-◌, ◌<◌, ◌≤◌}
use native.Mathlib.Numerals.{add-one}
use native.Mathlib.Omega.{arith}
use lib.Dec.{eqb}
use lib.ListN.{length, take, drop, get_or, set, length-set}
use lib.Seq.{get_or-set_same, get_or-set_other}
use borrow.Author.Tests.{eqb-true, eqb-false}
use Rattle.slip_check.specs.Entries.{entry_in, next_at, after, Whole}
use Rattle.slip_check.proofs.Walks.{after_more}
use Rattle.slip_check.proofs.Names.{name-is, whole-first, whole-on}
use Rattle.stick_names.specs.Digest.{digest_of}
use Rattle.stick_judge.specs.Judging.{Digested}

-- the part of a slip that is read as a name
pub name_part : (s : List ℕ) (o n : ℕ) → n ≡ get_or s o 0 → take (o + 1 + n - (o + 1)) (drop (o + 1) s) ≡ (entry_in s o).name
name_part s o n e =
    let z : o + 1 + n - (o + 1) ≡ get_or s o 0 = omega arith in
    rw z (sym (name-is s o))

module _ (slip : List ℕ) (entries : ℕ) (digests₀ : List ℕ) where
  -- those of the first k entries stand there, and o is the offset behind them
  pub record Filled (digests : List ℕ) (k o : ℕ) : Type 0 where
    pub few : k ≤ entries
    pub long : length digests ≡ length digests₀
    pub whole : Whole (entries - k) slip o
    pub stands : o ≡ after k slip 7
    pub digested : Digested slip k digests

  pub filled_none : Whole entries slip 7 → Filled digests₀ 0 7
  filled_none w =
      let z : entries - 0 ≡ entries = omega arith in
      record { few = omega arith; long = refl; whole = rw z w; stands = refl; digested = λ k l. absurd (omega arith) }

  module _ (digests : List ℕ) (k o : ℕ) (f : Filled digests k o) (l : k < entries) where
    pub filled-whole : next_at slip o ≤ length slip
    filled-whole = whole-first slip o (entries - k) (omega arith) f.whole

    pub filled_on : entries ≤ length digests₀ → (d : ℕ) → d ≡ digest_of (entry_in slip o).name → Filled (set digests k d) (k + 1) (next_at slip o)
    filled_on room d e =
        let z : entries - (k + 1) ≡ entries - k - 1 = omega arith in
        record {
          few = omega arith;
          long = length-set digests k d ∙ f.long;
          whole = rw z (whole-on slip o (entries - k) (omega arith) f.whole);
          stands = rw (add-one k) (ap (next_at slip) f.stands ∙ sym (after_more k slip 7));
          digested = λ j m. at j m (eqb j k) refl;
        }
      where
        at : (j : ℕ) → j < k + 1 → (b : Bool) → eqb j k ≡ b → get_or (set digests k d) j 0 ≡ digest_of (entry_in slip (after j slip 7)).name
        at j m true q =
            let i = eqb-true j k q in
            rw i (get_or-set_same digests k d 0 (omega (arith, f.long)) ∙ e ∙ ap (λ (x : ℕ). digest_of (entry_in slip x).name) f.stands)
        at j m false q =
            let n = eqb-false j k q in
            get_or-set_other digests k j d 0 n ∙ f.digested j (omega (arith, n))

  pub filled-all : (digests : List ℕ) (k o : ℕ) → Filled digests k o → entries ≤ k → Digested slip entries digests
  filled-all digests k o f l = let z : entries ≡ k = omega (arith, f.few) in rw z f.digested
