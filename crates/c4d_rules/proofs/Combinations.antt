-- At most one combination holds: of any two, one requires what has no place in the other. That is one computed test of the nine.
use mathlib.Core.Path.{◌≡◌, refl, sym, ◌∙◌}
use Prim.Native.Nat.{ℕ, ◌+◌, ◌≤◌}
use native.Mathlib.Omega.{arith}
use mathlib.Core.Bool.{Bool, true, false, not, ◌&&◌, ◌||◌, cond, false≢true}
use mathlib.Core.List.{List, [], ◌∷◌}
use Rattle.shared_words.specs.Lists.{every, among, how_many}
use Rattle.shared_words.proofs.Bools.{and_parts}
use Rattle.shared_words.proofs.Lists.{among-every}
use Rattle.c4d_rules.specs.Kinds.{exclusive}
use Rattle.c4d_rules.specs.Combinations.{required, optional, required_with, Combination, combinations, members, part_there, parts_there, holds}
use Rattle.c4d_rules.specs.Theorems.{AtMostOne}

-- what is there has its place
placed : (a b : Bool) → (not a || b) ≡ true → a ≡ true → b ≡ true
placed true b h e = h
placed false b h e = absurd (false≢true e)

-- ---- two combinations

-- c requires a sub-chunk that has its places, of which d is none
lacks : Combination → Combination → Bool
lacks [] d = false
lacks (required id ∷ ps) d = (among id exclusive && not (among id (members d))) || lacks ps d
lacks (optional id ∷ ps) d = lacks ps d
lacks (required_with id others ∷ ps) d = lacks ps d

module _ (there : ℕ → Bool) (d : Combination) (h : every (λ id. not (there id) || among id (members d)) exclusive ≡ true) where
  lacks_law : (c : Combination) → lacks c d ≡ true → parts_there there c ≡ true → ⊥
  unfolding lacks
  lacks_law [] l t = false≢true l
  lacks_law (required id ∷ ps) l t =
      let u = and_parts (there id) (parts_there there ps) t in
      go (among id exclusive) refl (among id (members d)) refl (λ k. lacks_law ps k u.1)
    where
      go : (a : Bool) → among id exclusive ≡ a → (b : Bool) → among id (members d) ≡ b → (lacks ps d ≡ true → ⊥) → ⊥
      go true e true e' r = r (rw (e, e') at l)
      go true e false e' r =
          let u = and_parts (there id) (parts_there there ps) t in
          false≢true (sym e' ∙ placed (there id) (among id (members d)) (among-every (λ id. not (there id) || among id (members d)) id exclusive h e) u.0)
      go false e b e' r = r (rw e at l)
  lacks_law (optional id ∷ ps) l t = lacks_law ps l t
  lacks_law (required_with id others ∷ ps) l t =
      lacks_law ps l (and_parts (part_there there (required_with id others)) (parts_there there ps) t).1

clash : Combination → Combination → Bool
clash c d = lacks c d || lacks d c

clash_law : (c d : Combination) (there : ℕ → Bool) → clash c d ≡ true → holds c there ≡ true → holds d there ≡ true → ⊥
unfolding clash holds
clash_law c d there l h k = go (lacks c d) refl
  where
    go : (b : Bool) → lacks c d ≡ b → ⊥
    go true e = lacks_law there d (and_parts (parts_there there d) _ k).1 c e (and_parts (parts_there there c) _ h).0
    go false e = lacks_law there c (and_parts (parts_there there c) _ h).1 d (rw e at l) (and_parts (parts_there there d) _ k).0

-- ---- all of them

clashes : Combination → List Combination → Bool
clashes c [] = true
clashes c (d ∷ ds) = clash c d && clashes c ds

apart : List Combination → Bool
apart [] = true
apart (c ∷ cs) = clashes c cs && apart cs

abbrev held : List Combination → (ℕ → Bool) → ℕ
held cs there = how_many (λ (c : Combination). holds c there) cs

-- where c holds, none that it clashes with does
none_else : (c : Combination) (ds : List Combination) (there : ℕ → Bool) → clashes c ds ≡ true → holds c there ≡ true → held ds there ≡ 0
unfolding clashes
none_else c [] there l h = refl
none_else c (d ∷ ds) there l h =
    let u = and_parts (clash c d) (clashes c ds) l in
    go (holds d there) refl (none_else c ds there u.1 h)
  where
    go : (b : Bool) → holds d there ≡ b → held ds there ≡ 0 → cond b 1 0 + held ds there ≡ 0
    go true e r = absurd (clash_law c d there (and_parts (clash c d) (clashes c ds) l).0 h e)
    go false e r = omega arith

one_of : (cs : List Combination) (there : ℕ → Bool) → apart cs ≡ true → held cs there ≤ 1
unfolding apart
one_of [] there l = omega arith
one_of (c ∷ cs) there l =
    let u = and_parts (clashes c cs) (apart cs) l in
    go (holds c there) refl (one_of cs there u.1)
  where
    go : (b : Bool) → holds c there ≡ b → held cs there ≤ 1 → cond b 1 0 + held cs there ≤ 1
    go true e r = omega (arith, none_else c cs there (and_parts (clashes c cs) (apart cs) l).0 e)
    go false e r = omega arith

nine-apart : apart combinations ≡ true
unfolding apart clashes clash lacks
nine-apart = refl

pub at_most_one : AtMostOne
at_most_one there = one_of combinations there nine-apart
