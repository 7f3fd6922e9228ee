-- Demand 3 over layouts: what chunks in gaps do to the rules, the byte counts and the meshes' contents. Nothing but the
-- sizes: no rule and no table looks at a skipped chunk.
use mathlib.Core.Path.{◌≡◌, refl, sym, ◌∙◌}
use Prim.Native.Nat.{ℕ, ◌+◌}
use native.Mathlib.Omega.{arith}
use mathlib.Core.Bool.{Bool, true, false, cond, true≢false, false≢true}
use mathlib.Core.List.{List, [], ◌∷◌}
use lib.Dec.{eqb}
use lib.ListN.{length}
use Rattle.studio_rules.specs.Table.{plus}
use Rattle.studio_rules.specs.Layout.{Run, size, identifiers, child, held}
use Rattle.studio_rules.specs.Rules.{Parent, inside, no_child, children_in_plus, Children, Obeys}
use Rattle.studio_rules.specs.Gives.{record_count, headers, owned, skipped, fathers_in, fathers, pairs_of, mapping_table}
use Rattle.studio_rules.specs.Gaps.{Marked, end, put, skip, known, without, with, InGaps}
use Rattle.shared_words.proofs.Bools.{or_else, or_second}

-- all the bytes put in
abbrev pub added : Marked → ℕ
added end = 0
added (put id body rest) = 6 + length body + added rest
added (skip id body rest) = added rest
added (known id own kids rest) = added kids + added rest

pub size-grows : (m : Marked) → size (with m) ≡ size (without m) + added m
size-grows end = refl
size-grows (put id body rest) = omega (arith, size-grows rest)
size-grows (skip id body rest) = omega (arith, size-grows rest)
size-grows (known id own kids rest) = omega (arith, size-grows kids, size-grows rest)

-- ---- counts

pub record_count-same : (m : Marked) → record_count (with m) ≡ record_count (without m)
record_count-same end = refl
record_count-same (put id body rest) = record_count-same rest
record_count-same (skip id body rest) = record_count-same rest
record_count-same (known id own kids rest) = omega (arith, record_count-same kids, record_count-same rest)

pub headers-same : (m : Marked) → headers (with m) ≡ headers (without m)
headers-same end = refl
headers-same (put id body rest) = headers-same rest
headers-same (skip id body rest) = headers-same rest
headers-same (known id own kids rest) = omega (arith, headers-same kids, headers-same rest)

pub owned-same : (m : Marked) → owned (with m) ≡ owned (without m)
owned-same end = refl
owned-same (put id body rest) = owned-same rest
owned-same (skip id body rest) = owned-same rest
owned-same (known id own kids rest) = omega (arith, owned-same kids, owned-same rest)

pub skipped-grows : (m : Marked) → skipped (with m) ≡ skipped (without m) + added m
skipped-grows end = refl
skipped-grows (put id body rest) = omega (arith, skipped-grows rest)
skipped-grows (skip id body rest) = omega (arith, skipped-grows rest)
skipped-grows (known id own kids rest) = omega (arith, skipped-grows kids, skipped-grows rest)

-- ---- the children of one chunk

pub identifiers-same : (m : Marked) → identifiers (with m) ≡ identifiers (without m)
identifiers-same end = refl
identifiers-same (put id body rest) = identifiers-same rest
identifiers-same (skip id body rest) = identifiers-same rest
identifiers-same (known id own kids rest) = rw (identifiers-same rest)

pub child-same : (x : ℕ) (m : Marked) → child x (with m) ≡ child x (without m)
child-same x end = refl
child-same x (put id body rest) = child-same x rest
child-same x (skip id body rest) = child-same x rest
child-same x (known id own kids rest) = rw (child-same x rest)

pub pairs-same : (m : Marked) → pairs_of (with m) ≡ pairs_of (without m)
pairs-same m = rw (identifiers-same m, child-same 0x4110 m)

pub mapping_same : (m : Marked) → mapping_table (with m) ≡ mapping_table (without m)
mapping_same m = rw (identifiers-same m, child-same 0x4140 m, child-same 0x4110 m)

fathers_in-same : (m : Marked) → fathers_in (with m) ≡ fathers_in (without m)
fathers_in-same end = refl
fathers_in-same (put id body rest) = fathers_in-same rest
fathers_in-same (skip id body rest) = fathers_in-same rest
fathers_in-same (known id own kids rest) = rw (child-same 0xB010 kids, fathers_in-same rest)

pub fathers-same : (m : Marked) → fathers (with m) ≡ fathers (without m)
fathers-same end = refl
fathers-same (put id body rest) = fathers-same rest
fathers-same (skip id body rest) = fathers-same rest
fathers-same (known id own kids rest) = go (eqb id 0xB000) (fathers-same rest)
  where
    go : (b : Bool) → fathers (with rest) ≡ fathers (without rest) → fathers_in (cond b (with kids) (held 0xB000 (with rest))) ≡ fathers_in (cond b (without kids) (held 0xB000 (without rest)))
    go true ih = fathers_in-same kids
    go false ih = ih

no-child-put : (p : ℕ) (m : Marked) → InGaps p m → plus p ≡ false → no_child (without m) ≡ true → no_child (with m) ≡ true
no-child-put p end g e h = refl
no-child-put p (put id body rest) g e h = absurd (true≢false (sym g.0 ∙ e))
no-child-put p (skip id body rest) g e h = h
no-child-put p (known id own kids rest) g e h = h

no-child-taken : (m : Marked) → no_child (with m) ≡ true → no_child (without m) ≡ true
no-child-taken end h = refl
no-child-taken (put id body rest) h = absurd (false≢true h)
no-child-taken (skip id body rest) h = h
no-child-taken (known id own kids rest) h = h

-- ---- the rules

-- two runs with the same known children, of which the rules of children look at these two things
pub record Alike (a b : Run) : Type 0 where
  pub ids : identifiers b ≡ identifiers a
  pub owns : (x : ℕ) → child x b ≡ child x a

pub children_alike : (q : Parent) (a b : Run) → Alike a b → children_in_plus q b ≡ true → Children q a → Children q b
children_alike q a b h i l = record {
  in_plus = i;
  none-missing = rw h.ids l.none-missing;
  corners-below = rw (h.owns 0x4110, h.owns 0x4120) l.corners-below;
  mapping_matches_lem = rw (h.ids, h.owns 0x4140, h.owns 0x4110) l.mapping_matches_lem;
}

alike_put : (m : Marked) → Alike (without m) (with m)
alike_put m = record { ids = identifiers-same m; owns = λ x. child-same x m }

alike_taken : (m : Marked) → Alike (with m) (without m)
alike_taken m = record { ids = sym (identifiers-same m); owns = λ x. sym (child-same x m) }

in_plus_put : (q : Parent) (m : Marked) → InGaps q.id m → children_in_plus q (without m) ≡ true → children_in_plus q (with m) ≡ true
in_plus_put q m g h = or_else (plus q.id) _ (λ e. no-child-put q.id m g e (or_second (plus q.id) _ h e))

in_plus_taken : (q : Parent) (m : Marked) → children_in_plus q (with m) ≡ true → children_in_plus q (without m) ≡ true
in_plus_taken q m h = or_else (plus q.id) _ (λ e. no-child-taken m (or_second (plus q.id) _ h e))

pub obeys-put : (p : Parent) (seen : List ℕ) (m : Marked) → InGaps p.id m → Obeys p seen (without m) → Obeys p seen (with m)
obeys-put p seen end g h = tt
obeys-put p seen (put id body rest) g h = (g.1, obeys-put p seen rest g.2 h)
obeys-put p seen (skip id body rest) g h = (h.0, obeys-put p seen rest g h.1)
obeys-put p seen (known id own kids rest) g h =
    let q : Parent = inside p seen id own in (
      h.0,
      children_alike q (without kids) (with kids) (alike_put kids) (in_plus_put q kids g.0 h.1.in_plus) h.1,
      obeys-put q [] kids g.0 h.2,
      obeys-put p (id ∷ seen) rest g.1 h.3,
    )

pub obeys-taken : (p : Parent) (seen : List ℕ) (m : Marked) → Obeys p seen (with m) → Obeys p seen (without m)
obeys-taken p seen end h = tt
obeys-taken p seen (put id body rest) h = obeys-taken p seen rest h.1
obeys-taken p seen (skip id body rest) h = (h.0, obeys-taken p seen rest h.1)
obeys-taken p seen (known id own kids rest) h =
    let q : Parent = inside p seen id own in (
      h.0,
      children_alike q (with kids) (without kids) (alike_taken kids) (in_plus_taken q kids h.1.in_plus) h.1,
      obeys-taken q [] kids h.2,
      obeys-taken p (id ∷ seen) rest h.3,
    )
