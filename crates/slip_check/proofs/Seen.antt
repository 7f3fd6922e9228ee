-- The names of the entries that were passed, in a tree.
use mathlib.Core.Path.{◌≡◌, refl, sym, ap, subst, ◌∙◌}
use Prim.Native.Nat.{ℕ, zero, suc, ◌+◌, ◌*◌, ◌<◌, ◌≤◌}
use native.Mathlib.Numerals.{add-one}
use native.Mathlib.Omega.{arith}
use mathlib.Core.Bool.{Bool, false, false≢true, not}
use mathlib.Core.List.{List, [], ◌∷◌, ◌++◌}
use lib.ListN.{get_or, length, take, drop}
use Rattle.shared_name_tree.specs.Names.{Grown}
use Rattle.slip_rules.specs.Rules.{named_before}
use Rattle.slip_seen.specs.Seen.{Seen}
use Rattle.slip_seen.proofs.Seen.{seen-answer, seen-on}
use Rattle.slip_check.specs.Entries.{entry_in, next_at, names_in, after, Reached, good_at, GoodEntry}
use Rattle.slip_check.proofs.Names.{name-is}
use Rattle.slip_check.proofs.Walks.{names_more}

module _ (s : List ℕ) (n at : ℕ) (r : Reached s n at) where
  next-names : names_in n s 7 ++ ((entry_in s at).name ∷ []) ≡ names_in (n + 1) s 7
  next-names = ap (λ (o : ℕ). names_in n s 7 ++ ((entry_in s o).name ∷ [])) (sym r.ends) ∙ names_more n s 7 ∙ ap (λ (k : ℕ). names_in k s 7) (sym (add-one n))

-- what is known of the entry behind the first n, where all but its name is good
pub good-entry : (s nodes nodes' : List ℕ) (n at len : ℕ) (r : Bool) → Reached s n at → Seen s nodes n (names_in n s 7) → next_at s at ≤ length s → len ≡ get_or s at 0 →
    good_at (names_in n s 7) (drop at s) ≡ not (named_before (entry_in s at).name (names_in n s 7)) →
    Grown s nodes n (take len (drop (at + 1) s)) r nodes' → GoodEntry s nodes n at r nodes'
good-entry s nodes nodes' n at len r h e l q on g =
    let x : take len (drop (at + 1) s) ≡ (entry_in s at).name = ap (λ (k : ℕ). take k (drop (at + 1) s)) q ∙ sym (name-is s at) in
    record {
      is = seen-answer e g ∙ ap (λ (y : List ℕ). not (named_before y (names_in n s 7))) x ∙ sym on;
      whole = λ t. l;
      seen = λ t. subst (Seen s nodes' (n + 1)) (next-names s n at h)
          (seen-on e (subst (λ (b : Bool). Grown s nodes n (entry_in s at).name b nodes') t (subst (λ (y : List ℕ). Grown s nodes n y r nodes') x g)));
      room = g.size;
    }

pub not_good : (s nodes : List ℕ) (n at : ℕ) → good_at (names_in n s 7) (drop at s) ≡ false → GoodEntry s nodes n at false nodes
not_good s nodes n at e = record { is = sym e; whole = λ q. absurd (false≢true q); seen = λ q. absurd (false≢true q); room = refl }

-- entries are short
pub after-near : (s : List ℕ) → ((i : ℕ) → get_or s i 0 < 256) → (n o : ℕ) → after n s o ≤ o + 262 * n
after-near s small zero o = omega arith
after-near s small (suc n) o = omega (arith, after-near s small n (next_at s o), small o)
