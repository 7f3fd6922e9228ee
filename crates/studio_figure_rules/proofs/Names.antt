-- Names that differ, and names among others: the tests say what they should.
use mathlib.Core.Path.{◌≡◌, refl, sym, ap, ◌∙◌, subst}
use Prim.Native.Nat.{ℕ, zero, suc, ◌<◌}
use native.Mathlib.Omega.{arith}
use mathlib.Core.Bool.{Bool, true, false, not, ◌||◌, false≢true, true≢false}
use mathlib.Core.List.{List, [], ◌∷◌}
use lib.ListN.{length, get_or}
use borrow.Author.Tests.{not-true}
use Rattle.shared_words.proofs.Bools.{or_else}
use Rattle.shared_words.proofs.Conditions.{Met, met, unbroken}
use Rattle.shared_words.specs.Lists.{same}
use Rattle.studio_figure_rules.specs.Judged.{one_of, differ}
use Rattle.studio_figure_rules.specs.Names.{Differ, Among, NamesAsked}
use Rattle.shared_words.proofs.Lists.{same_true, same_refl}

-- ---- one of them

one-of-told : (names : List (List ℕ)) (name : List ℕ) → one_of names name ≡ true → Among names name
one-of-told [] name h = absurd (false≢true h)
one-of-told (n ∷ names) name h = go (same n name) refl (one-of-told names name) h
  where
    go : (b : Bool) → same n name ≡ b → (one_of names name ≡ true → Among names name) → (b || one_of names name) ≡ true → Among (n ∷ names) name
    go true e ih h = (0, omega arith, same_true n name e)
    go false e ih h = let k = ih h in (suc k.0, omega (arith, k.1), k.2)

told-one-of : (names : List (List ℕ)) (name : List ℕ) (i : ℕ) → i < length names → get_or names i [] ≡ name → one_of names name ≡ true
told-one-of [] name i l e = absurd (omega arith)
told-one-of (n ∷ names) name zero l e = rw (subst (λ (x : List ℕ). same n x ≡ true) e (same_refl n))
told-one-of (n ∷ names) name (suc i) l e = or_else (same n name) (one_of names name) (λ f. told-one-of names name i (omega arith) e)

-- ---- they differ

-- none of these is one of those seen
abbrev Unseen : List (List ℕ) → List (List ℕ) → Type 0
Unseen seen names = (i : ℕ) → i < length names → one_of seen (get_or names i []) ≡ false

or_false : (a b : Bool) → (a || b) ≡ false → (a ≡ false) × (b ≡ false)
or_false true b h = absurd (true≢false h)
or_false false b h = (refl, h)

met-told : (seen names : List (List ℕ)) → Met (differ seen names) → Unseen seen names × Differ names
met-told seen [] m = (λ i l. absurd (omega arith), λ i j l k e. omega arith)
met-told seen (n ∷ names) m =
    let ih = met-told (n ∷ seen) names m.1 in
    (unseen ih.0, differs ih.0 ih.1)
  where
    unseen : Unseen (n ∷ seen) names → Unseen seen (n ∷ names)
    unseen u zero l = not-true (one_of seen n) m.0
    unseen u (suc i) l = (or_false (same n (get_or names i [])) _ (u i (omega arith))).1

    differs : Unseen (n ∷ seen) names → Differ names → Differ (n ∷ names)
    differs u d i zero l k e = omega arith
    differs u d zero (suc j) l k e =
        let f = (or_false (same n (get_or names j [])) _ (u j (omega arith))).0 in
        true≢false (sym (same_refl n) ∙ ap (same n) e ∙ f)
    differs u d (suc i) (suc j) l k e = d i j (omega arith) (omega arith) e

told-met : (seen names : List (List ℕ)) → Unseen seen names → Differ names → Met (differ seen names)
told-met seen [] u d = tt
told-met seen (n ∷ names) u d = (ap not (u 0 (omega arith)), told-met (n ∷ seen) names unseen (λ i j l k e. d (suc i) (suc j) (omega arith) (omega arith) e))
  where
    unseen : Unseen (n ∷ seen) names
    unseen i l = go (same n (get_or names i [])) refl
      where
        go : (b : Bool) → same n (get_or names i []) ≡ b → (b || one_of seen (get_or names i [])) ≡ false
        go true e = absurd (d 0 (suc i) (omega arith) (omega arith) (same_true n (get_or names i []) e))
        go false e = u (suc i) (omega arith)

pub names-asked : NamesAsked
names-asked = record {
  differ_exactly = λ names. (λ e. (met-told [] names (met _ e)).1, λ d. unbroken _ (told-met [] names (λ i l. refl) d));
  among_exactly = λ names name. (one-of-told names name, λ a. told-one-of names name a.0 a.1 a.2);
}
