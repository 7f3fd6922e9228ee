-- The rules allow it that whole unlisted chunks change their parent, into a chunk whose row ends in "+" or out of one:
-- no other rule looks at a skipped chunk.
use mathlib.Core.Path.{◌≡◌, refl, sym, ap, ◌∙◌}
use Prim.Native.Nat.{ℕ}
use native.Mathlib.Omega.{arith}
use mathlib.Core.Bool.{Bool, true, ◌||◌}
use mathlib.Core.List.{List, [], ◌∷◌}
use Rattle.studio_rules.specs.Table.{plus}
use Rattle.studio_rules.specs.Layout.{Run, end, skip, known, identifiers, child, ◌then◌}
use Rattle.studio_rules.specs.Rules.{Parent, inside, no_child, children_in_plus, Children, Obeys}
use Rattle.studio_rules.specs.Gives.{record_count}
use Rattle.shared_words.proofs.Bools.{or_else, or_second}
use Rattle.studio_rules.proofs.Gaps.{identifiers-same, child-same, children_alike}
use Rattle.claim_turned.proofs.Bare.{bare, same-of-bare, bare_then_none}
use Rattle.claim_turned.proofs.Context.{Context, behind, inner, plug}
use Rattle.claim_turned.proofs.Around.{bare-plug}

-- the rules of a chunk's children look at the known ones, and at whether there is any child
children-same : (q : Parent) (kids kids' : Run) → bare kids' ≡ bare kids → children_in_plus q kids' ≡ true → Children q kids → Children q kids'
children-same q kids kids' b =
    children_alike q kids kids' record { ids = same-of-bare identifiers identifiers-same kids kids' b; owns = λ x. same-of-bare (child x) (child-same x) kids kids' b }

-- ---- one run after another

-- the identifiers that a chunk behind the run sees
abbrev after : List ℕ → Run → List ℕ
after seen end = seen
after seen (skip id body a) = after seen a
after seen (known id own kids a) = after (id ∷ seen) a

after_none : (seen : List ℕ) (w : Run) → record_count w ≡ 0 → after seen w ≡ seen
after_none seen end n = refl
after_none seen (skip id body w) n = after_none seen w n
after_none seen (known id own kids w) n = absurd (omega arith)

obeys_then : (p : Parent) (seen : List ℕ) (a t : Run) → Obeys p seen (a then t) → Obeys p seen a × Obeys p (after seen a) t
obeys_then p seen end t h = (tt, h)
obeys_then p seen (skip id body a) t h = let k = obeys_then p seen a t h.1 in ((h.0, k.0), k.1)
obeys_then p seen (known id own kids a) t h = let k = obeys_then p (id ∷ seen) a t h.3 in ((h.0, h.1, h.2, k.0), k.1)

obeys-join : (p : Parent) (seen : List ℕ) (a t : Run) → Obeys p seen a → Obeys p (after seen a) t → Obeys p seen (a then t)
obeys-join p seen end t h k = k
obeys-join p seen (skip id body a) t h k = (h.0, obeys-join p seen a t h.1 k)
obeys-join p seen (known id own kids a) t h k = (h.0, h.1, h.2, obeys-join p (id ∷ seen) a t h.3 k)

unlisted-anywhere : (q p : Parent) (seen seen' : List ℕ) (w : Run) → record_count w ≡ 0 → Obeys q seen w → Obeys p seen' w
unlisted-anywhere q p seen seen' end n h = tt
unlisted-anywhere q p seen seen' (skip id body w) n h = (h.0, unlisted-anywhere q p seen seen' w n h.1)
unlisted-anywhere q p seen seen' (known id own kids w) n h = absurd (omega arith)

-- ---- the chunk, in p

no-child-front : (a t : Run) → no_child (a then t) ≡ true → no_child a ≡ true
no-child-front end t h = refl
no-child-front (skip id body a) t h = h
no-child-front (known id own kids a) t h = h

module _ (p : Parent) (seen : List ℕ) (id : ℕ) (own : List ℕ) (kids w rest : Run) (n : record_count w ≡ 0) where
  abbrev q : Parent
  q = inside p seen id own

  pub may_take : plus id ≡ true → Obeys p seen (known id own kids (w then rest)) → Obeys p seen (known id own (kids then w) rest)
  may_take e h =
      let r = obeys_then p (id ∷ seen) w rest h.3 in (
        h.0,
        children-same q kids (kids then w) (bare_then_none kids w n) (rw e) h.1,
        obeys-join q [] kids w h.2 (unlisted-anywhere p q (id ∷ seen) (after [] kids) w n r.0),
        rw (after_none (id ∷ seen) w n) at r.1,
      )

  pub may_give : Obeys p seen (known id own (kids then w) rest) → Obeys p seen (known id own kids (w then rest))
  may_give h =
      let k = obeys_then q [] kids w h.2 in
      let c = or_else (plus id) (no_child kids) (λ e. no-child-front kids w (or_second (plus id) (no_child (kids then w)) h.1.in_plus e)) in (
        h.0,
        children-same q (kids then w) kids (sym (bare_then_none kids w n)) c h.1,
        k.0,
        obeys-join p (id ∷ seen) w rest (unlisted-anywhere q p (after [] kids) (id ∷ seen) w n k.1) (rw (after_none (id ∷ seen) w n) h.3),
      )

-- ---- the chunks around it

no-child-plug : (c : Context) (t u : Run) → no_child u ≡ no_child t → no_child (plug c u) ≡ no_child (plug c t)
no-child-plug (behind end) t u e = e
no-child-plug (behind (skip id body a)) t u e = refl
no-child-plug (behind (known id own kids a)) t u e = refl
no-child-plug (inner end id own c rest) t u e = refl
no-child-plug (inner (skip id₁ body a) id own c rest) t u e = refl
no-child-plug (inner (known id₁ own₁ kids a) id own c rest) t u e = refl

-- the chunk around the place, in a layout of p behind `seen`, and what the chunk at the place sees
abbrev pub parent_at : Parent → List ℕ → Context → Parent
parent_at p seen (behind a) = p
parent_at p seen (inner a id own c rest) = parent_at (inside p (after seen a) id own) [] c

abbrev pub seen_at : List ℕ → Context → List ℕ
seen_at seen (behind a) = after seen a
seen_at seen (inner a id own c rest) = seen_at [] c

pub obeys-there : (p : Parent) (seen : List ℕ) (c : Context) (t : Run) → Obeys p seen (plug c t) → Obeys (parent_at p seen c) (seen_at seen c) t
obeys-there p seen (behind a) t h = (obeys_then p seen a t h).1
obeys-there p seen (inner a id own c rest) t h =
    obeys-there (inside p (after seen a) id own) [] c t (obeys_then p seen a (known id own (plug c t) rest) h).1.2

pub obeys-plug : (p : Parent) (seen : List ℕ) (c : Context) (t u : Run) → bare u ≡ bare t → no_child u ≡ no_child t → Obeys p seen (plug c t) →
    Obeys (parent_at p seen c) (seen_at seen c) u → Obeys p seen (plug c u)
obeys-plug p seen (behind a) t u b e h k = obeys-join p seen a u (obeys_then p seen a t h).0 k
obeys-plug p seen (inner a id own c rest) t u b e h k =
    let q : Parent = inside p (after seen a) id own in
    let o = obeys_then p seen a (known id own (plug c t) rest) h in
    let l = children-same q (plug c t) (plug c u) (bare-plug c t u b) (ap (λ (x : Bool). plus id || x) (no-child-plug c t u e) ∙ o.1.1.in_plus) o.1.1 in
    obeys-join p seen a (known id own (plug c u) rest) o.0 (o.1.0, l, obeys-plug q [] c t u b e o.1.2 k, o.1.3)
