-- Names put into a tree one after another, for as long as they differ.
use mathlib.Core.Path.{◌≡◌, refl, sym, ap, ◌∙◌}
use Prim.Native.Nat.{ℕ, ◌+◌, ◌*◌, ◌<◌, ◌≤◌}
use native.Mathlib.Omega.{arith}
use mathlib.Core.Bool.{Bool, true, false, ◌||◌}
use mathlib.Core.List.{List, [], ◌∷◌}
use lib.ListN.{length, replicate, length-replicate}
use borrow.Author.Tests.{not-true, not-false}
use Rattle.shared_words.specs.Lists.{same, first_fault}
use Rattle.shared_name_tree.specs.Names.{name_of, held, Holds, Grown}
use Rattle.shared_name_tree.proofs.Row.{holds-none}
use Rattle.studio_figure_rules.specs.Judged.{one_of}
use Rattle.studio_figure_rows.specs.Rows.{run}
use Rattle.studio_figure_names.specs.Names.{Blank, Gathered}
use Rattle.studio_figure_names.proofs.Differing.{one-of-next, Differing, differing_none, differing_on, repeated-here, repeated-none}

module _ (names : List ℕ) (name : ℕ → List ℕ) (n : ℕ) where
  -- the first i differ, and the tree holds them
  pub record Gathering (nodes : List ℕ) (i : ℕ) : Type 0 where
    pub few : i ≤ n
    pub holds : Holds names nodes i
    pub those : (x : List ℕ) → held (name_of names nodes) i x ≡ one_of (run name 0 i) x
    pub differing : Differing name n i

  pub gathering_none : (nodes : List ℕ) → Holds names nodes 0 → Gathering nodes 0
  unfolding held
  gathering_none nodes h = record { few = omega arith; holds = h; those = λ x. refl; differing = differing_none name n }

  module _ (nodes nodes' : List ℕ) (i : ℕ) (x : List ℕ) (g : Gathering nodes i) (l : i < n) (is : x ≡ name i) where
    pub gathering_on : Grown names nodes i x true nodes' → Gathering nodes' (i + 1)
    gathering_on r = record {
      few = omega arith;
      holds = r.new refl;
      those = λ y. r.those refl y ∙ ap (λ (b : Bool). same x y || b) (g.those y) ∙ ap (λ (z : List ℕ). same z y || one_of (run name 0 i) y) is ∙ one-of-next name i y;
      differing = differing_on name n i l g.differing (sym (ap (one_of (run name 0 i)) (sym is) ∙ sym (g.those x) ∙ not-true _ (sym r.answer)));
    }

    pub gathered-again : Grown names nodes i x false nodes' → Gathered names name n i nodes'
    gathered-again r = rw (r.old refl) record {
      few = g.few;
      holds = g.holds;
      those = g.those;
      differ = repeated-here name n i l g.differing (sym (ap (one_of (run name 0 i)) (sym is) ∙ sym (g.those x) ∙ not-false _ (sym r.answer)));
    }

  pub gathered-all : (nodes : List ℕ) (i : ℕ) → n ≤ i → Gathering nodes i → Gathered names name n i nodes
  gathered-all nodes i l g = record {
    few = g.few;
    holds = g.holds;
    those = g.those;
    differ = repeated-none name n i l g.differing;
  }

-- a row of zeros
pub blank : (names : List ℕ) (m n : ℕ) → 4 * n ≤ m → n < 4294967296 → length names < 4294967296 → Blank names (replicate m 0) n
blank names m n r f s = record { none = holds-none names m; room = omega (arith, length-replicate {A = ℕ} m 0); few = f; short = s }

-- ---- where all are there, what is in the tree is one of them

same-fault : {A : Type 0} (f g : A → Bool) → ((x : A) → f x ≡ g x) → (xs : List A) → first_fault f xs ≡ first_fault g xs
same-fault f g h [] = refl
same-fault f g h (x ∷ xs) = rw (h x, same-fault f g h xs)

pub gathered-fault : {names : List ℕ} {name : ℕ → List ℕ} {n count : ℕ} {nodes : List ℕ} → Gathered names name n count nodes → n ≤ count → (xs : List (List ℕ)) →
    first_fault (held (name_of names nodes) count) xs ≡ first_fault (one_of (run name 0 n)) xs
gathered-fault {names} {name} {n} {count} {nodes} g l xs =
    let q : count ≡ n = omega (arith, g.few) in
    same-fault (held (name_of names nodes) count) (one_of (run name 0 n)) (λ x. g.those x ∙ ap (λ (k : ℕ). one_of (run name 0 k) x) q) xs
