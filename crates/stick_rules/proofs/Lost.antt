-- Different paths that are all among as many names are all of these names.
use mathlib.Core.Path.{◌≡◌, refl, sym, ap, ◌∙◌}
use mathlib.Core.Bool.{Bool, true, false, ◌||◌, true≢false, false≢true, cond}
use mathlib.Core.List.{List, [], ◌∷◌, flatten}
use Prim.Native.Nat.{ℕ, suc, ◌≤◌}
use native.Mathlib.Omega.{arith}
use lib.ListN.{length, length-append}
use Rattle.shared_words.specs.Lists.{All, total, any}
use Rattle.stick_rules.specs.Names.{equal_ignoring_case}
use Rattle.stick_rules.specs.Items.{Item, listed}
use Rattle.stick_rules.specs.Theorems.{Distinct, Listings, WasListed, WasMet, NoneLost}
use Rattle.stick_rules.proofs.Alike.{alike_meet, alike_turned}
use Rattle.stick_rules.proofs.Exact.{passes_exactly}
use Rattle.stick_rules.proofs.Distinct.{nothing-more}

-- all names but the first that is this path
without : List ℕ → List (List ℕ) → List (List ℕ)
without p [] = []
without p (n ∷ ns) = cond (equal_ignoring_case p n) ns (n ∷ without p ns)

shorter : (p : List ℕ) (ns : List (List ℕ)) → any (equal_ignoring_case p) ns ≡ true → length ns ≡ suc (length (without p ns))
unfolding without
shorter p [] h = absurd (false≢true h)
shorter p (n ∷ ns) h = go (shorter p ns) (equal_ignoring_case p n) h
  where
    go : (any (equal_ignoring_case p) ns ≡ true → length ns ≡ suc (length (without p ns))) → (b : Bool) → (b || any (equal_ignoring_case p) ns) ≡ true →
        suc (length ns) ≡ suc (length (cond b ns (n ∷ without p ns)))
    go on true h = refl
    go on false h = ap suc (on h)

kept : (p u : List ℕ) → equal_ignoring_case p u ≡ false → (ns : List (List ℕ)) → any (equal_ignoring_case u) ns ≡ true → any (equal_ignoring_case u) (without p ns) ≡ true
unfolding without
kept p u d [] h = absurd (false≢true h)
kept p u d (n ∷ ns) h = go (kept p u d ns) (equal_ignoring_case p n) refl (equal_ignoring_case u n) refl h
  where
    go : (any (equal_ignoring_case u) ns ≡ true → any (equal_ignoring_case u) (without p ns) ≡ true) → (a : Bool) → equal_ignoring_case p n ≡ a → (b : Bool) → equal_ignoring_case u n ≡ b →
        (b || any (equal_ignoring_case u) ns) ≡ true → any (equal_ignoring_case u) (cond a ns (n ∷ without p ns)) ≡ true
    go on true x true y h = absurd (true≢false (sym (alike_meet p u n x y) ∙ d))
    go on true x false y h = h
    go on false x true y h = rw y
    go on false x false y h = rw y (on h)

restored : (P : List ℕ → Type 0) (p : List ℕ) → ((n : List ℕ) → equal_ignoring_case p n ≡ true → P n) → (ns : List (List ℕ)) → All P (without p ns) → All P ns
unfolding without
restored P p f [] a = tt
restored P p f (n ∷ ns) a = go (restored P p f ns) (equal_ignoring_case p n) refl a
  where
    go : (All P (without p ns) → All P ns) → (b : Bool) → equal_ignoring_case p n ≡ b → All P (cond b ns (n ∷ without p ns)) → P n × All P ns
    go on true q a = (f n q, a)
    go on false q a = (a.0, on a.1)

map-all : {A : Type 0} (P Q : A → Type 0) → ((x : A) → P x → Q x) → (xs : List A) → All P xs → All Q xs
map-all P Q f [] a = tt
map-all P Q f (x ∷ xs) a = (f x a.0, map-all P Q f xs a.1)

all-kept : (t : Item) (ns : List (List ℕ)) (ts : List Item) → All (λ (u : Item). equal_ignoring_case t.path u.path ≡ false) ts → All (WasListed ns) ts →
    All (WasListed (without t.path ns)) ts
all-kept t ns [] d a = tt
all-kept t ns (u ∷ ts) d a = (kept t.path u.path d.0 ns a.0, all-kept t ns ts d.1 a.1)

or_right : (a b : Bool) → b ≡ true → (a || b) ≡ true
or_right true b h = refl
or_right false b h = h

module _ (t : Item) (ts : List Item) where
  matched-here : (n : List ℕ) → equal_ignoring_case t.path n ≡ true → WasMet (t ∷ ts) n
  matched-here n h = rw (alike_turned t.path n h)

  matched-later : (n : List ℕ) → WasMet ts n → WasMet (t ∷ ts) n
  matched-later n h = or_right (equal_ignoring_case n t.path) (any (λ (u : Item). equal_ignoring_case n u.path) ts) h

all-matched : (ts : List Item) (ns : List (List ℕ)) → Distinct ts → length ns ≤ length ts → All (WasListed ns) ts → All (WasMet ts) ns
all-matched [] [] d l a = tt
all-matched [] (n ∷ ns) d l a = absurd (omega arith)
all-matched (t ∷ ts) ns d l a =
    let rest = all-matched ts (without t.path ns) d.1 (omega (arith, shorter t.path ns a.0)) (all-kept t ns ts d.0 a.1) in
    restored (WasMet (t ∷ ts)) t.path (matched-here t ts) ns (map-all (WasMet ts) (WasMet (t ∷ ts)) (matched-later t ts) (without t.path ns) rest)

length_listings : (ts : List Item) (ls : List (List (List ℕ))) → Listings ts ls → length (flatten ls) ≡ total listed ts
unfolding flatten
length_listings [] [] h = refl
length_listings [] (l ∷ ls) h = absurd h
length_listings (t ∷ ts) [] h = absurd h
length_listings (t ∷ ts) (l ∷ ls) h = omega (arith, length-append l (flatten ls), h.0, length_listings ts ls h.1)

pub none_lost : NoneLost
none_lost es [] ls h k a = absurd ((passes_exactly es []).0 h).rooted
none_lost es (r ∷ ts) ls h k a =
    let m = nothing-more es (r ∷ ts) h in
    all-matched ts (flatten ls) m.distinct.1 (omega (arith, m.as_many, length_listings (r ∷ ts) ls k)) a
