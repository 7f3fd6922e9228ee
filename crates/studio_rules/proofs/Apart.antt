-- No identifier may stand both under a chunk and under that chunk's own child: the test over all pairs of rows, and what
-- it says of the rows that identifiers have.
use mathlib.Core.Path.{◌≡◌, refl, sym, ◌∙◌}
use Prim.Native.Nat.{ℕ}
use mathlib.Core.Bool.{Bool, true, false, ◌||◌, cond, false≢true}
use mathlib.Core.List.{List, [], ◌∷◌}
use lib.Dec.{eqb}
use borrow.Author.Tests.{eqb-true, not-true}
use Rattle.shared_words.specs.Lists.{every}
use Rattle.shared_words.specs.Lists.{among}
use Rattle.studio_rules.specs.Table.{Row, rows, row_of, listed, under}
use Rattle.studio_rules.specs.Apart.{common, apart, RowsApart, UnderApart}
use Rattle.shared_words.proofs.Bools.{both, and_parts, or_else}
use Rattle.studio_rules.proofs.Rows.{under-listed}

pub rows_apart : RowsApart
unfolding rows every
rows_apart = refl

-- a test that every row passes is passed by the row of a listed identifier
row-passes : (test : Row → Bool) (x : ℕ) (rs : List Row) → every test rs ≡ true → among x (row_of x rs).ids ≡ true → test (row_of x rs) ≡ true
unfolding every
row-passes test x [] h a = absurd (false≢true a)
row-passes test x (r ∷ rs) h a = let k = and_parts (test r) (every test rs) h in go (among x r.ids) k.0 (row-passes test x rs k.1) a
  where
    go : (e : Bool) → test r ≡ true → (among x (row_of x rs).ids ≡ true → test (row_of x rs) ≡ true) → among x (cond e r (row_of x rs)).ids ≡ true → test (cond e r (row_of x rs)) ≡ true
    go true k ih a = k
    go false k ih a = ih a

common_in : (x : ℕ) (xs ys : List ℕ) → among x xs ≡ true → among x ys ≡ true → common xs ys ≡ true
common_in x [] ys h k = absurd (false≢true h)
common_in x (z ∷ xs) ys h k = go (eqb x z) refl (λ h. common_in x xs ys h k) h
  where
    go : (e : Bool) → eqb x z ≡ e → (among x xs ≡ true → common xs ys ≡ true) → (e || among x xs) ≡ true → (among z ys || common xs ys) ≡ true
    go true e ih h = rw (← (eqb-true x z e), k)
    go false e ih h = or_else (among z ys) (common xs ys) (λ q. ih h)

apart-not : (r q : Row) (p x : ℕ) → apart r q ≡ true → among x r.ids ≡ true → among p r.parents ≡ true → among x q.parents ≡ true → among p q.parents ≡ false
apart-not r q p x h i j a = go (among p q.parents) refl
  where
    go : (e : Bool) → among p q.parents ≡ e → e ≡ false
    go false e = refl
    go true e = sym (both _ _ (common_in x r.ids q.parents i a) (common_in p r.parents q.parents j e)) ∙ not-true _ h

pub under-apart : UnderApart
unfolding listed under
under-apart p x y i a =
    let of-x = row-passes (λ r. every (apart r) rows) x rows rows_apart (under-listed p x i) in
    let of-xy = row-passes (apart (row_of x rows)) y rows of-x (under-listed x y a) in
    apart-not (row_of x rows) (row_of y rows) p x of-xy (under-listed p x i) i a
