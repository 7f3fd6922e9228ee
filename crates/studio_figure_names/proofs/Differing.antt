-- Names that are looked for among others, and names that differ.
use Rattle.std.specs.Prelude.{Ok, Err}
use mathlib.Core.Path.{◌≡◌, refl, sym, ap, ◌∙◌}
use Prim.Native.Nat.{ℕ, ◌+◌, ◌-◌, ◌<◌, ◌≤◌}
use native.Mathlib.Omega.{arith}
use mathlib.Core.Bool.{Bool, true, false, not, ◌||◌}
use mathlib.Core.List.{List, [], ◌∷◌, ◌++◌}
use mathlib.Core.Option.{some}
use lib.ListN.{length}
use borrow.Author.Tests.{lt-ltb, le-ltb}
use Rattle.shared_words.specs.declared.Refusal.TheVariants.{SameName}
use Rattle.shared_words.specs.Conditions.{must, broken, judged_by, answered}
use Rattle.shared_words.specs.Lists.{same}
use Rattle.shared_words.proofs.Conditions.{broken-here, broken-later}
use Rattle.studio_figure_rules.specs.Judged.{one_of, differ}
use Rattle.studio_figure_rows.specs.Rows.{entry, sum_to, run, part, name_at}
use Rattle.studio_figure_names.specs.Names.{Repeated}
use Rattle.studio_figure_rows.proofs.Runs.{run-opened, run_none, run-joined, sum-next}

-- ---- a name among others

module _ (thing : ℕ → List ℕ) (n : ℕ) (x : List ℕ) where
  abbrev pub Looked : ℕ → Type 0
  Looked i = one_of (run thing 0 n) x ≡ one_of (run thing i (n - i)) x

  pub looked_none : Looked 0
  looked_none = let a : n - 0 ≡ n = omega arith in rw a

  pub looked_here : (i : ℕ) → i < n → Looked i → same (thing i) x ≡ true → true ≡ one_of (run thing 0 n) x
  looked_here i h l e = sym (l ∙ ap (λ (xs : List (List ℕ)). one_of xs x) (run-opened thing i n h) ∙ rw e)

  pub looked_on : (i : ℕ) → i < n → Looked i → same (thing i) x ≡ false → Looked (i + 1)
  looked_on i h l e = l ∙ ap (λ (xs : List (List ℕ)). one_of xs x) (run-opened thing i n h) ∙ rw e

  pub looked_all : (i : ℕ) → n ≤ i → Looked i → false ≡ one_of (run thing 0 n) x
  looked_all i h l = sym (l ∙ ap (λ (xs : List (List ℕ)). one_of xs x) (run_none thing i n h))

-- the same in a row of names, where the next one begins at a position
module _ (width : ℕ) (row names : List ℕ) (from n : ℕ) (x : List ℕ) where
  pub record Looking (next i : ℕ) : Type 0 where
    pub few : i ≤ n
    pub is : next ≡ from + sum_to width 0 row i
    pub left : Looked (name_at width row names from) n x i

  pub looking_none : Looking from 0
  looking_none = record { few = omega arith; is = omega arith; left = looked_none (name_at width row names from) n x }

  module _ (next its i : ℕ) (b : Bool) (l : Looking next i) (h : i < n) (f : its ≡ entry width 0 row i) (e : b ≡ same (part next its names) x) where
    tested : b ≡ same (name_at width row names from i) x
    tested = rw (l.is, f) at e

    pub looking_here : b ≡ true → true ≡ one_of (run (name_at width row names from) 0 n) x
    looking_here t = looked_here (name_at width row names from) n x i h l.left (sym tested ∙ t)

    pub looking_on : b ≡ false → Looking (next + its) (i + 1)
    looking_on t = record {
      few = omega arith;
      is = omega (arith, l.is, f, sum-next width 0 row i);
      left = looked_on (name_at width row names from) n x i h l.left (sym tested ∙ t);
    }

  pub looking_all : (next i : ℕ) → Looking next i → n ≤ i → false ≡ one_of (run (name_at width row names from) 0 n) x
  looking_all next i l h = looked_all (name_at width row names from) n x i h l.left

-- ---- names that differ

or_comm : (a b : Bool) → (a || b) ≡ (b || a)
or_comm true true = refl
or_comm true false = refl
or_comm false true = refl
or_comm false false = refl

one-of_last : (xs : List (List ℕ)) (y x : List ℕ) → one_of (xs ++ (y ∷ [])) x ≡ (same y x || one_of xs x)
one-of_last [] y x = refl
one-of_last (z ∷ xs) y x = go (same z x) (same y x) (one_of xs x) (one-of_last xs y x)
  where
    go : (a b c : Bool) → one_of (xs ++ (y ∷ [])) x ≡ (b || c) → (a || one_of (xs ++ (y ∷ [])) x) ≡ (b || (a || c))
    go true b c e = or_comm true b
    go false b c e = e

-- one more of the things is among them
pub one-of-next : (thing : ℕ → List ℕ) (i : ℕ) (x : List ℕ) → (same (thing i) x || one_of (run thing 0 i) x) ≡ one_of (run thing 0 (i + 1)) x
one-of-next thing i x =
    let z : 0 + i ≡ i = omega arith in
    sym (one-of_last (run thing 0 i) (thing i) x) ∙
    sym (ap (λ (l : List (List ℕ)). one_of l x) (run-joined thing 0 i 1 ∙ ap (λ (k : ℕ). run thing 0 i ++ run thing k 1) z))

module _ (thing : ℕ → List ℕ) (n : ℕ) where
  -- the first i differ; `seen` are they, the last one first
  pub record Differing (i : ℕ) : Type 0 where
    pub seen : List (List ℕ)
    pub count : length seen ≡ i
    pub those : (x : List ℕ) → one_of seen x ≡ one_of (run thing 0 i) x
    pub left : broken (differ [] (run thing 0 n)) ≡ broken (differ seen (run thing i (n - i)))

  pub differing_none : Differing 0
  differing_none = let a : n - 0 ≡ n = omega arith in record { seen = []; count = refl; those = λ x. refl; left = rw a }

  module _ (i : ℕ) (h : i < n) (d : Differing i) where
    next : broken (differ d.seen (run thing i (n - i))) ≡
        broken (must (not (one_of d.seen (thing i))) (SameName (length d.seen)) ∷ differ (thing i ∷ d.seen) (run thing (i + 1) (n - (i + 1))))
    next = ap (λ (l : List (List ℕ)). broken (differ d.seen l)) (run-opened thing i n h)

    pub differing_on : false ≡ one_of (run thing 0 i) (thing i) → Differing (i + 1)
    differing_on e = record {
      seen = thing i ∷ d.seen;
      count = omega (arith, d.count);
      those = λ x. ap (λ (b : Bool). same (thing i) x || b) (d.those x) ∙ one-of-next thing i x;
      left = d.left ∙ next ∙ broken-later _ _ _ (ap not (d.those (thing i) ∙ sym e));
    }

    pub differing_out : true ≡ one_of (run thing 0 i) (thing i) → Err (SameName i) ≡ answered (differ [] (run thing 0 n))
    unfolding answered
    differing_out e =
        sym (ap judged_by (d.left ∙ next ∙ broken-here _ _ _ (ap not (d.those (thing i) ∙ sym e)) ∙ ap (λ (k : ℕ). some (SameName k)) d.count))

  pub differing_all : (i : ℕ) → n ≤ i → Differing i → (Ok tt) ≡ answered (differ [] (run thing 0 n))
  unfolding answered broken
  differing_all i h d = sym (ap judged_by (d.left ∙ ap (λ (l : List (List ℕ)). broken (differ d.seen l)) (run_none thing i n h)))

  -- as the first name that is there before
  pub repeated-here : (i : ℕ) → i < n → Differing i → true ≡ one_of (run thing 0 i) (thing i) → Repeated thing n i
  repeated-here i h d e = rw (lt-ltb i n h) (differing_out i h d e)

  pub repeated-none : (i : ℕ) → n ≤ i → Differing i → Repeated thing n i
  repeated-none i h d = rw (le-ltb i n h) (differing_all i h d)

-- the same in a row of names
module _ (width : ℕ) (row names : List ℕ) (from n : ℕ) where
  pub record Comparing (at i : ℕ) : Type 0 where
    pub few : i ≤ n
    pub is : at ≡ from + sum_to width 0 row i
    pub differing : Differing (name_at width row names from) n i

  pub comparing_none : Comparing from 0
  comparing_none = record { few = omega arith; is = omega arith; differing = differing_none (name_at width row names from) n }

  module _ (at len i : ℕ) (b : Bool) (c : Comparing at i) (h : i < n) (f : len ≡ entry width 0 row i)
      (e : b ≡ one_of (run (name_at width row names from) 0 i) (part at len names)) where
    compared : b ≡ one_of (run (name_at width row names from) 0 i) (name_at width row names from i)
    compared = rw (c.is, f) at e

    pub comparing_out : b ≡ true → Repeated (name_at width row names from) n i
    comparing_out t = repeated-here (name_at width row names from) n i h c.differing (sym t ∙ compared)

    pub comparing_on : b ≡ false → Comparing (at + len) (i + 1)
    comparing_on t = record {
      few = omega arith;
      is = omega (arith, c.is, f, sum-next width 0 row i);
      differing = differing_on (name_at width row names from) n i h c.differing (sym t ∙ compared);
    }

  pub comparing_all : (at i : ℕ) → Comparing at i → n ≤ i → Repeated (name_at width row names from) n i
  comparing_all at i c h = repeated-none (name_at width row names from) n i h c.differing
