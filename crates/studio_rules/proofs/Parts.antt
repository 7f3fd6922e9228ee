-- Who hangs on whom: each father is an earlier part, so that ancestors have ever smaller numbers.
use mathlib.Core.Path.{◌≡◌, refl, sym, ◌∙◌}
use mathlib.Core.Logic.{◌⊎◌, inl, inr}
use Prim.Native.Nat.{ℕ, zero, suc, ◌+◌, ◌≤◌, ◌<◌}
use native.Mathlib.Omega.{arith}
use mathlib.Core.Bool.{Bool, true, false, ◌||◌, cond}
use mathlib.Core.List.{List, [], ◌∷◌, ◌++◌}
use mathlib.Core.Option.{some, some-injective, some-ne-none}
use lib.ListN.{length, length-append, get_elem?}
use lib.Dec.{eqb, ltb, leb}
use borrow.Author.Tests.{eqb-true, eqb-false, ltb-true, leb-true}
use Rattle.shared_words.specs.Lists.{every}
use Rattle.studio_rules.specs.Table.{needs, at_least_one_ids}
use Rattle.studio_rules.specs.OwnData.{father, root}
use Rattle.studio_rules.specs.Layout.{Run, end, skip, known, identifiers, child, held}
use Rattle.studio_rules.specs.Rules.{Parent, file, inside, tally, none_missing, Obeys, version}
use Rattle.studio_rules.specs.Gives.{Part, fathers_in, fathers, below, part_of, parts_from, parts}
use Rattle.studio_rules.specs.Theorems.{Hangs, PartsHang, StepsToRoot, is-root, by-father, DepthIsSteps, Ancestor, its_father, further, NoOwnAncestor}
use Rattle.studio_rules.proofs.At.{there, at_front, Which, which}
use Rattle.shared_words.proofs.Bools.{and_parts}

-- ---- how many there are

pub length_from : (ps : List Part) (fs : List ℕ) → length (parts_from ps fs) ≡ length ps + length fs
length_from ps [] = omega arith
length_from ps (f ∷ fs) = omega (arith, length_from (ps ++ (part_of ps f ∷ [])) fs, length-append ps (part_of ps f ∷ []))

-- ---- what the rules say of the fathers

-- each is `root` or the number of an earlier one, where the first has number n
abbrev Early : ℕ → List ℕ → Type 0
Early n [] = Unit
Early n (f ∷ fs) = ((eqb f root || ltb f n) ≡ true) × Early (suc n) fs

-- the first B010 of a B002 that has one
told : (q : Parent) (seen : List ℕ) (kids : Run) → Obeys q seen kids → 1 ≤ tally (0xB010 ∷ []) (identifiers kids) →
    (eqb (father (child 0xB010 kids)) root || ltb (father (child 0xB010 kids)) q.order) ≡ true
told q seen end h l = absurd (omega arith)
told q seen (skip id body rest) h l = told q seen rest h.1 l
told q seen (known id own kids rest) h l = go (eqb id 0xB010) refl l (told q (id ∷ seen) rest h.3)
  where
    go : (b : Bool) → eqb id 0xB010 ≡ b → 1 ≤ cond (b || false) 1 0 + tally (0xB010 ∷ []) (identifiers rest) →
        (1 ≤ tally (0xB010 ∷ []) (identifiers rest) → (eqb (father (child 0xB010 rest)) root || ltb (father (child 0xB010 rest)) q.order) ≡ true) →
        (eqb (father (cond b own (child 0xB010 rest))) root || ltb (father (cond b own (child 0xB010 rest))) q.order) ≡ true
    go true e l ih = rw e at h.0.father_earlier_lem
    go false e l ih = ih (omega arith)

pub has_father : (q : Parent) (kids : Run) → q.id ≡ 0xB002 → none_missing q kids ≡ true → 1 ≤ tally (0xB010 ∷ []) (identifiers kids)
unfolding needs at_least_one_ids every
has_father q kids e h = leb-true _ _ (and_parts (leb 1 (tally (0xB010 ∷ []) (identifiers kids))) true (rw e at h)).0

fathers-early : (p : Parent) (seen : List ℕ) (t : Run) → Obeys p seen t → Early (tally (0xB002 ∷ []) seen) (fathers_in t)
fathers-early p seen end h = tt
fathers-early p seen (skip id body rest) h = fathers-early p seen rest h.1
fathers-early p seen (known id own kids rest) h = go (eqb id 0xB002) refl (fathers-early p (id ∷ seen) rest h.3)
  where
    n : ℕ
    n = tally (0xB002 ∷ []) seen

    go : (b : Bool) → eqb id 0xB002 ≡ b → Early (cond (b || false) 1 0 + n) (fathers_in rest) → Early n (cond b (father (child 0xB010 kids) ∷ fathers_in rest) (fathers_in rest))
    go true e ih =
        let is : id ≡ 0xB002 = eqb-true id 0xB002 e in
        let m : 1 + n ≡ suc n = omega arith in
        (rw is at (told (inside p seen id own) [] kids h.2 (has_father (inside p seen id own) kids is h.1.none-missing)), rw m at ih)
    go false e ih = let m : 0 + n ≡ n = omega arith in rw m at ih

held-obeys : (p : Parent) (seen : List ℕ) (x : ℕ) (t : Run) → Obeys p seen t → (q : Parent) × Obeys q [] (held x t)
held-obeys p seen x end h = (p, tt)
held-obeys p seen x (skip id body rest) h = held-obeys p seen x rest h.1
held-obeys p seen x (known id own kids rest) h = go (eqb id x) (held-obeys p (id ∷ seen) x rest h.3)
  where
    go : (b : Bool) → (q : Parent) × Obeys q [] (held x rest) → (q : Parent) × Obeys q [] (cond b kids (held x rest))
    go true ih = (inside p seen id own, h.2)
    go false ih = ih

-- ---- so the parts hang on earlier ones

abbrev AllHang : List Part → Type 0
AllHang ps = (i : ℕ) (r : Part) → get_elem? ps i ≡ some r → Hangs ps i r

hangs_more : (ps qs : List Part) (i : ℕ) (r : Part) → Hangs ps i r → Hangs (ps ++ qs) i r
hangs_more ps qs i r (inl h) = inl h
hangs_more ps qs i r (inr h) = let q = h.2 in inr (h.0, h.1, (q.0, at_front ps qs r.father q.0 q.1, q.2))

-- the next part, number `length done`
next_hangs : (done : List Part) (f : ℕ) → (eqb f root || ltb f (length done)) ≡ true → Hangs done (length done) (part_of done f)
next_hangs done f = go (eqb f root) refl
  where
    go : (b : Bool) → eqb f root ≡ b → (b || ltb f (length done)) ≡ true →
        ((f ≡ root) × (cond b 0 (below (get_elem? done f)) ≡ 0)) ⊎ (¬ (f ≡ root) × (f < length done) × ((q : Part) × (get_elem? done f ≡ some q) × (cond b 0 (below (get_elem? done f)) ≡ suc q.depth)))
    go true e h = inl (eqb-true f root e, refl)
    go false e h = let l = ltb-true f (length done) h in let q = there done f l in inr (eqb-false f root e, l, (q.0, q.1, rw q.1))

more_hang : (done : List Part) (x : Part) → AllHang done → Hangs done (length done) x → AllHang (done ++ (x ∷ []))
more_hang done x a h i r g = go (which done (x ∷ []) i r g)
  where
    last : (j : ℕ) → i ≡ length done + j → get_elem? (x ∷ []) j ≡ some r → Hangs (done ++ (x ∷ [])) i r
    last zero e k = let e₀ : i ≡ length done = omega arith in rw (e₀, ← (some-injective x r k)) (hangs_more done (x ∷ []) (length done) x h)
    last (suc j) e k = absurd (some-ne-none r (sym k))

    go : Which done (x ∷ []) i r → Hangs (done ++ (x ∷ [])) i r
    go (inl k) = hangs_more done (x ∷ []) i r (a i r k)
    go (inr k) = last k.0 k.1 k.2

parts_hang_on : (done : List Part) (fs : List ℕ) → AllHang done → Early (length done) fs → AllHang (parts_from done fs)
parts_hang_on done [] a e = a
parts_hang_on done (f ∷ fs) a e =
    let n : length (done ++ (part_of done f ∷ [])) ≡ suc (length done) = length-append done (part_of done f ∷ []) ∙ omega arith in
    parts_hang_on (done ++ (part_of done f ∷ [])) fs (more_hang done (part_of done f) a (next_hangs done f e.0)) (rw n e.1)

pub parts_hang : PartsHang
parts_hang s kids m =
    let h = held-obeys (inside (file (version kids)) [] 0x4D4D []) [] 0xB000 kids m.chunks.2 in
    parts_hang_on [] (fathers kids) (λ i r g. absurd (some-ne-none r (sym g))) (fathers-early h.0 [] (held 0xB000 kids) h.1)

-- ---- and none is its own ancestor

father_less : (ps : List Part) (i : ℕ) (r : Part) → Hangs ps i r → ¬ (r.father ≡ root) → r.father < i
father_less ps i r (inl h) n = absurd (n h.0)
father_less ps i r (inr h) n = h.1

ancestor_less : (ps : List Part) → AllHang ps → (i j : ℕ) → Ancestor ps i j → j < i
ancestor_less ps a _ _ (its_father {i = i} {r = r} g n) = father_less ps i r (a i r g) n
ancestor_less ps a _ _ (further {i = i} {j = j} {r = r} g n h) =
    omega (arith, father_less ps i r (a i r g) n, ancestor_less ps a r.father j h)

pub no_own_ancestor : NoOwnAncestor
no_own_ancestor s kids m i h = omega (arith, ancestor_less (parts kids) (parts_hang s kids m) i i h)

-- ---- and the depth counts the steps to a root

steps_to_root : (ps : List Part) → AllHang ps → (n i : ℕ) → i < n → (r : Part) → get_elem? ps i ≡ some r → StepsToRoot ps i r.depth
steps_to_root ps a zero i l r g = absurd (omega arith)
steps_to_root ps a (suc n) i l r g = go (a i r g) (λ j k q e. steps_to_root ps a n j k q e)
  where
    go : Hangs ps i r → ((j : ℕ) → j < n → (q : Part) → get_elem? ps j ≡ some q → StepsToRoot ps j q.depth) → StepsToRoot ps i r.depth
    go (inl h) ih = rw h.1 (is-root g h.0)
    go (inr h) ih = let q = h.2 in rw q.2 (by-father g h.0 (ih r.father (omega (arith, h.1)) q.0 q.1))

pub depth_is_steps : DepthIsSteps
depth_is_steps s kids m i r g = steps_to_root (parts kids) (parts_hang s kids m) (suc i) i (omega arith) r g
