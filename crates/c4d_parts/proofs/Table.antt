-- Numbers of the table, and numbers that are none of its.
use mathlib.Core.Path.{◌≡◌, refl, sym, ap, ◌∙◌}
use Prim.Native.Nat.{ℕ}
use mathlib.Core.Bool.{Bool, true, false, ◌&&◌, ◌||◌, cond, false≢true}
use mathlib.Core.List.{List, [], ◌∷◌}
use mathlib.Core.Logic.{inl, inr}
use lib.Dec.{eqb}
use borrow.Author.Tests.{eqb-true}
use types.Run.{OneOf}
use Rattle.shared_words.specs.Lists.{among as is_among}
use Rattle.shared_words.proofs.Bools.{and_parts}
use Rattle.c4d_rules.specs.Combinations.{is_in}
use Rattle.c4d_parts.specs.Bits.{bits_from, Row, among, table, looked_up}

-- these numbers are looked up as v
abbrev all_look_up : ℕ → List ℕ → Bool
all_look_up v [] = true
all_look_up v (k ∷ ks) = eqb (looked_up k) v && all_look_up v ks

pub is_key : (v : ℕ) (ks : List ℕ) (x : ℕ) → all_look_up v ks ≡ true → OneOf ks x → v ≡ looked_up x
is_key v [] x h o = absurd o
is_key v (k ∷ []) x h o = sym (eqb-true (looked_up k) v (and_parts (eqb (looked_up k) v) true h).0) ∙ ap looked_up (sym o)
is_key v (k ∷ k' ∷ ks) x h (inl o) = sym (eqb-true (looked_up k) v (and_parts (eqb (looked_up k) v) (all_look_up v (k' ∷ ks)) h).0) ∙ ap looked_up (sym o)
is_key v (k ∷ k' ∷ ks) x h (inr o) = is_key v (k' ∷ ks) x (and_parts (eqb (looked_up k) v) (all_look_up v (k' ∷ ks)) h).1 o

-- ---- none of them

-- x is none of these keys, those of the last arm first
abbrev Nones : List (List ℕ) → ℕ → Type 0
Nones [] x = Unit
Nones (ks ∷ keys) x = Nones keys x × (OneOf ks x → ⊥)

abbrev in_keys : ℕ → List (List ℕ) → Bool
in_keys n [] = false
in_keys n (ks ∷ keys) = is_among n ks || in_keys n keys

abbrev all_in_keys : List Row → List (List ℕ) → Bool
all_in_keys [] keys = true
all_in_keys (r ∷ rs) keys = in_keys (bits_from (is_in r.set) 16 17) keys && all_in_keys rs keys

key_there : (n x : ℕ) (ks : List ℕ) → is_among n ks ≡ true → x ≡ n → OneOf ks x
key_there n x [] h e = absurd (false≢true h)
key_there n x (k ∷ []) h e = go (eqb n k) refl
  where
    go : (q : Bool) → eqb n k ≡ q → x ≡ k
    go true f = e ∙ eqb-true n k f
    go false f = absurd (false≢true (rw f at h))
key_there n x (k ∷ k' ∷ ks) h e = go (eqb n k) refl (key_there n x (k' ∷ ks))
  where
    go : (q : Bool) → eqb n k ≡ q → (is_among n (k' ∷ ks) ≡ true → x ≡ n → OneOf (k' ∷ ks) x) → OneOf (k ∷ k' ∷ ks) x
    go true f r = inl (e ∙ eqb-true n k f)
    go false f r = inr (r (rw f at h) e)

not_there : (n x : ℕ) (keys : List (List ℕ)) → in_keys n keys ≡ true → Nones keys x → x ≡ n → ⊥
not_there n x [] h ns e = false≢true h
not_there n x (ks ∷ keys) h ns e = go (is_among n ks) refl (not_there n x keys)
  where
    go : (q : Bool) → is_among n ks ≡ q → (in_keys n keys ≡ true → Nones keys x → x ≡ n → ⊥) → ⊥
    go true f r = ns.1 (key_there n x ks f e)
    go false f r = r (rw f at h) ns.0 e

among_none : (x : ℕ) (keys : List (List ℕ)) → Nones keys x → (rs : List Row) → all_in_keys rs keys ≡ true → 0 ≡ among x rs
among_none x keys ns [] h = refl
among_none x keys ns (r ∷ rs) h = go (eqb x n) refl (among_none x keys ns rs k.1)
  where
    n : ℕ
    n = bits_from (is_in r.set) 16 17

    k : (in_keys n keys ≡ true) × (all_in_keys rs keys ≡ true)
    k = and_parts (in_keys n keys) (all_in_keys rs keys) h

    go : (q : Bool) → eqb x n ≡ q → 0 ≡ among x rs → 0 ≡ cond (eqb x n) r.combination (among x rs)
    go true e m = absurd (not_there n x keys k.0 ns (eqb-true x n e))
    go false e m = rw e m

pub is_none : (x : ℕ) (keys : List (List ℕ)) → Nones keys x → all_in_keys table keys ≡ true → 0 ≡ looked_up x
unfolding looked_up
is_none x keys ns h = among_none x keys ns table h
