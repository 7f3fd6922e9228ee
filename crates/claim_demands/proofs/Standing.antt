-- Demand 3 of all meshes in one call: by the layout, which both files share, as for the list.
use mathlib.Core.Path.{◌≡◌, refl, sym, ap, ◌∙◌, subst}
use mathlib.Core.Bool.{Bool, true, false, cond, false≢true}
use mathlib.Core.List.{List, [], ◌∷◌}
use Prim.Native.Nat.{ℕ, ◌+◌, ◌-◌, ◌*◌, ◌≤◌}
use native.Mathlib.Omega.{arith}
use lib.Dec.{eqb}
use lib.ListN.{length}
use borrow.Author.Tests.{eqb-true, eqb-false, ne_eqb, le-leb, le-ltb}
use Rattle.shared_words.specs.Lists.{among, Pairwise}
use Rattle.studio_rules.specs.Table.{Shape, counted, rows, shape}
use Rattle.studio_rules.specs.OwnData.{count, own_size}
use Rattle.studio_rules.specs.Layout.{Run, size, identifiers, child, offset_of}
use Rattle.studio_rules.specs.Rules.{Parent, inside, Obeys}
use Rattle.studio_rules.specs.Gaps.{Marked, end, put, skip, known, without, with, Piece, before}
use Rattle.studio_rules.proofs.Gaps.{added, size-grows, identifiers-same, child-same}
use Rattle.studio_rules.proofs.Pieces.{Holds, holds-put, holds-skip, holds_kids, holds-rest, before_here}
use Rattle.studio_meshes_rules.specs.Standing.{Standing, one_standing, standing_of}
use Rattle.claim_demands.specs.Demand3.{ElementsMoved, StandingMoved}
use Rattle.shared_words.proofs.Lists.{pairwise_append}

-- ---- own data that is a count word and elements has the word

counted_own : (x k : ℕ) → shape x ≡ counted k → (p : Parent) (seen : List ℕ) (t : Run) → Obeys p seen t → among x (identifiers t) ≡ true → 2 ≤ length (child x t)
counted_own x k e p seen Run.end h i = absurd (false≢true i)
counted_own x k e p seen (Run.skip id body rest) h i = counted_own x k e p seen rest h.1 i
counted_own x k e p seen (Run.known id own kids rest) h i = go (eqb id x) refl (counted_own x k e p (id ∷ seen) rest h.3)
  where
    go : (b : Bool) → eqb id x ≡ b → (among x (identifiers rest) ≡ true → 2 ≤ length (child x rest)) → 2 ≤ length (cond b own (child x rest))
    go true f ih =
        let s : shape id ≡ counted k = ap shape (eqb-true id x f) ∙ e in
        let n : 2 + k * count own ≡ length own = subst (λ (z : Shape). own_size z p.own own ≡ length own) s (eqb-true _ _ h.0.own_data_exact_lem) in
        omega (arith, n)
    go false f ih = ih (rw (ne_eqb x id (λ q. eqb-false id x f (sym q))) at i)

-- ---- where the first child x stands

module _ (ps : List Piece) (x : ℕ) where
  -- behind a chunk of this own data and these children
  abbrev Moves : ℕ → ℕ → List ℕ → Marked → Marked → Type 0
  Moves o o' own kids rest = among x (identifiers (without rest)) ≡ true → 2 ≤ length (child x (without rest)) →
      offset_of x (o' + (6 + length own + size (with kids))) (with rest) + 8 ≡
      offset_of x (o + (6 + length own + size (without kids))) (without rest) + 8 + before (offset_of x (o' + (6 + length own + size (with kids))) (with rest) + 8) ps

  offset_moved : (o o' a : ℕ) (m : Marked) → o' ≡ o + a → Holds ps o' a m → among x (identifiers (without m)) ≡ true → 2 ≤ length (child x (without m)) →
      offset_of x o' (with m) + 8 ≡ offset_of x o (without m) + 8 + before (offset_of x o' (with m) + 8) ps
  offset_moved o o' a end e h i l = absurd (false≢true i)
  offset_moved o o' a (put id body rest) e h i l =
      offset_moved o (o' + (6 + length body)) (a + (6 + length body)) rest (omega arith) (holds-put ps o' a id body rest h) i l
  offset_moved o o' a (skip id body rest) e h i l =
      offset_moved (o + (6 + length body)) (o' + (6 + length body)) a rest (omega arith) (holds-skip ps o' a id body rest h) i l
  offset_moved o o' a (known id own kids rest) e h i l =
      go (eqb id x) refl l
      (offset_moved (o + (6 + length own + size (without kids))) (o' + (6 + length own + size (with kids))) (a + added kids) rest (omega (arith, size-grows kids)) (holds-rest ps o' a id own kids rest h))
    where
      go : (b : Bool) → eqb id x ≡ b → 2 ≤ length (cond b own (child x (without rest))) → Moves o o' own kids rest →
          cond b o' (offset_of x (o' + (6 + length own + size (with kids))) (with rest)) + 8 ≡
          cond b o (offset_of x (o + (6 + length own + size (without kids))) (without rest)) + 8 + before (cond b o' (offset_of x (o' + (6 + length own + size (with kids))) (with rest)) + 8) ps
      go true f l ih = omega (arith, e, before_here ps o' a id own kids rest h (o' + 8) (omega arith) (omega (arith, l)))
      go false f l ih = ih (rw (ne_eqb x id (λ q. eqb-false id x f (sym q))) at i) l

before-none : (ps : List Piece) → before 0 ps ≡ 0
before-none [] = refl
before-none (p ∷ ps) = rw (le-leb 0 p.at (omega arith), le-ltb p.at 0 (omega arith)) (omega (arith, before-none ps))

-- ---- a mesh

module _ (ps : List Piece) (name_at name_at' name_length o o' a : ℕ) (p : Parent) (seen : List ℕ) (m : Marked) (e : o' ≡ o + a) (h : Holds ps o' a m) (obeys : Obeys p seen (without m)) where
  abbrev old : Standing
  old = record { name_at = name_at; name_length = name_length; at = o; kids = without m }

  abbrev new : Standing
  new = record { name_at = name_at'; name_length = name_length; at = o'; kids = with m }

  elements_moved : (x k : ℕ) → shape x ≡ counted k → ElementsMoved ps x old new
  elements_moved x k f = record { count_same = rw (child-same x m); offset_grows = rw (identifiers-same m) (go (among x (identifiers (without m))) refl) }
    where
      go : (b : Bool) → among x (identifiers (without m)) ≡ b →
          cond b (offset_of x o' (with m) + 8) 0 ≡ cond b (offset_of x o (without m) + 8) 0 + before (cond b (offset_of x o' (with m) + 8) 0) ps
      go true i = offset_moved ps x o o' a m e h i (counted_own x k f p seen (without m) obeys i)
      go false i = omega (arith, before-none ps)

  one-moved : name_at' ≡ name_at + before name_at' ps → StandingMoved ps old new
  unfolding shape rows
  one-moved n = record {
    name-grows = n;
    name-length-same = refl;
    vertices-moved = elements_moved 0x4110 12 refl;
    faces-moved = elements_moved 0x4120 8 refl;
    pairs-moved = elements_moved 0x4140 8 refl;
  }

  maybe_moved : (b : Bool) → name_at' ≡ name_at + before name_at' ps → Pairwise (StandingMoved ps) (one_standing b old) (one_standing b new)
  maybe_moved true n = (one-moved n, tt)
  maybe_moved false n = tt

-- ---- all of them

-- the run begins at o without the chunks, and at o' with them; a bytes are put in before it; the name of the chunk around stands at `at`
-- and at'
pub standing-moved : (ps : List Piece) (o o' at at' l a : ℕ) (p : Parent) (seen : List ℕ) (m : Marked) → o' ≡ o + a → at' ≡ at + before at' ps → Holds ps o' a m → Obeys p seen (without m) →
    Pairwise (StandingMoved ps) (standing_of o at l (without m)) (standing_of o' at' l (with m))
standing-moved ps o o' at at' l a p seen end e n h b = tt
standing-moved ps o o' at at' l a p seen (put id body rest) e n h b =
    standing-moved ps o (o' + (6 + length body)) at at' l (a + (6 + length body)) p seen rest (omega arith) n (holds-put ps o' a id body rest h) b
standing-moved ps o o' at at' l a p seen (skip id body rest) e n h b =
    standing-moved ps (o + (6 + length body)) (o' + (6 + length body)) at at' l a p seen rest (omega arith) n (holds-skip ps o' a id body rest h) b.1
standing-moved ps o o' at at' l a p seen (known id own kids rest) e n h b =
    let g = size-grows kids in
    let q : Parent = inside p seen id own in
    let here = before_here ps o' a id own kids rest h (o' + 6) (omega arith) (omega arith) in
    let in_it = holds_kids ps o' a id own kids rest h in
    let one = maybe_moved ps at at' l (o + (6 + length own)) (o' + (6 + length own)) a q [] kids (omega arith) in_it b.2 (eqb id 0x4100) n in
    let below = standing-moved ps (o + (6 + length own)) (o' + (6 + length own)) (o + 6) (o' + 6) (length own - 1) a q [] kids (omega arith) (omega arith) in_it b.2 in
    let behind = standing-moved ps (o + (6 + length own + size (without kids))) (o' + (6 + length own + size (with kids))) at at' l (a + added kids) p (id ∷ seen) rest (omega arith) n (holds-rest ps o' a id own kids rest h) b.3 in
    pairwise_append (StandingMoved ps) (one_standing (eqb id 0x4100) _) _ (one_standing (eqb id 0x4100) _) _ one
    (pairwise_append (StandingMoved ps) (standing_of (o + (6 + length own)) (o + 6) (length own - 1) (without kids)) _ (standing_of (o' + (6 + length own)) (o' + 6) (length own - 1) (with kids)) _ below behind)
