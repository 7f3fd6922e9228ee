-- Rules of the whole table, each by one test that is computed over its rows; and what follows of one identifier.
use mathlib.Core.Path.{◌≡◌, refl}
use Prim.Native.Nat.{ℕ}
use mathlib.Core.Bool.{Bool, true, false, cond, false≢true}
use mathlib.Core.List.{List, [], ◌∷◌}
use lib.Dec.{ltb}
use Rattle.shared_words.specs.Lists.{every}
use Rattle.shared_words.specs.Lists.{among}
use Rattle.studio_rules.specs.Table.{Row, rows, row_of, listed, under, shape, counted}
use Rattle.shared_words.proofs.Bools.{and_parts}
use Rattle.shared_words.proofs.Lists.{among-every}

-- a test passes at each identifier of some rows
abbrev pub every_id : (ℕ → Bool) → List Row → Bool
every_id test = every (λ (r : Row). every test r.ids)

row-every : (test : ℕ → Bool) (x : ℕ) (rs : List Row) → every_id test rs ≡ true → among x (row_of x rs).ids ≡ true → test x ≡ true
unfolding every
row-every test x [] h a = absurd (false≢true a)
row-every test x (r ∷ rs) h a = go (among x r.ids) refl (row-every test x rs (and_parts (every test r.ids) _ h).1) a
  where
    go : (e : Bool) → among x r.ids ≡ e → (among x (row_of x rs).ids ≡ true → test x ≡ true) → among x (cond e r (row_of x rs)).ids ≡ true → test x ≡ true
    go true e ih a = among-every test x r.ids (and_parts (every test r.ids) _ h).0 e
    go false e ih a = ih a

-- what passes at each identifier of the table passes at a listed one
pub listed-every : (test : ℕ → Bool) → every_id test rows ≡ true → (x : ℕ) → listed x ≡ true → test x ≡ true
unfolding listed
listed-every test h x = row-every test x rows h

pub listed_small : (x : ℕ) → listed x ≡ true → ltb x 0x1_0000 ≡ true
unfolding rows every
listed_small = listed-every (λ x. ltb x 0x1_0000) refl

-- a chunk that may stand somewhere is listed
row_listed : (p x : ℕ) (rs : List Row) → among p (row_of x rs).parents ≡ true → among x (row_of x rs).ids ≡ true
row_listed p x [] a = absurd (false≢true a)
row_listed p x (r ∷ rs) a = go (among x r.ids) refl (row_listed p x rs) a
  where
    go : (e : Bool) → among x r.ids ≡ e → (among p (row_of x rs).parents ≡ true → among x (row_of x rs).ids ≡ true) →
        among p (cond e r (row_of x rs)).parents ≡ true → among x (cond e r (row_of x rs)).ids ≡ true
    go true e ih a = e
    go false e ih a = ih a

pub under-listed : (p x : ℕ) → under p x ≡ true → listed x ≡ true
unfolding under listed
under-listed p x = row_listed p x rows

-- ---- the lists of a mesh are counted

pub vertices-counted : shape 0x4110 ≡ counted 12
unfolding shape rows
vertices-counted = refl

pub faces-counted : shape 0x4120 ≡ counted 8
unfolding shape rows
faces-counted = refl

pub pairs-counted : shape 0x4140 ≡ counted 8
unfolding shape rows
pairs-counted = refl

pub scene-listed : listed 0x3D3D ≡ true
unfolding listed rows
scene-listed = refl
