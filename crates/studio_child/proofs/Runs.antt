-- A run in the file: its first chunk, what is in it and what follows it; and the run from its first child x on.
use mathlib.Core.Path.{◌≡◌, refl, sym, ap, ◌∙◌, subst}
use mathlib.Core.Bool.{Bool, true, false, ◌||◌, cond}
use mathlib.Core.List.{List, [], ◌∷◌}
use mathlib.Core.Logic.{◌⊎◌, inl, inr}
use Prim.Native.Nat.{ℕ, ◌+◌, ◌≤◌, ◌<◌}
use native.Mathlib.Omega.{arith}
use lib.Dec.{eqb}
use lib.ListN.{length}
use lib.Seq.{slice}
use borrow.Author.Tests.{eqb-true, eqb-false, eq-eqb, ne_eqb}
use Rattle.shared_words.specs.Lists.{among}
use Rattle.studio_rules.specs.Table.{listed}
use Rattle.studio_rules.specs.Layout.{Run, end, skip, known, size, identifiers, child, offset_of}
use Rattle.studio_rules.specs.Rules.{Parent, inside, tally}
use Rattle.studio_rules.specs.Parses.{Place, within, Parses}
use Rattle.studio_rules.proofs.Parses.{parses}
use Rattle.shared_numbers.specs.Numbers.{word_at, long_at}
use Rattle.studio_stands.specs.Stands.{Headed}
use Rattle.studio_stands.proofs.Chunks as Chunks
use Rattle.studio_stands.proofs.Chunks.{unlisted_other, stands-size, skip-header, known-header}
use Rattle.studio_child.specs.Runs.{Spans, onward}

-- the chunk around, as far as it tells where chunks stand
abbrev pub around : Parent → Place
around p = within p.id p.own

module _ (p : Parent) (s : List ℕ) (at stop : ℕ) where
  pub span-size : (t : Run) → Spans p t s at stop → at + size t ≡ stop
  span-size t h = stands-size s at stop t h.stands

  parsed : (t : Run) (h : Spans p t s at stop) → Parses (around p) t
  parsed t h = parses p h.seen t h.obeys

  -- ---- a chunk to skip

  module _ (id : ℕ) (body : List ℕ) (rest : Run) (h : Spans p (skip id body rest) s at stop) where
    pub skipped-header : Headed s at stop id (6 + length body)
    skipped-header = skip-header s at stop (around p) id body rest h.stands (parsed (skip id body rest) h)

    pub after-skip : Spans p rest s (at + (6 + length body)) stop
    after-skip = record {
      seen = h.seen;
      stands = Chunks.after-skip s at stop (around p) id body rest h.stands (parsed (skip id body rest) h);
      obeys = h.obeys.1;
    }

  -- ---- a known chunk

  module _ (id : ℕ) (own : List ℕ) (kids rest : Run) (h : Spans p (known id own kids rest) s at stop) where
    pub header-here : Headed s at stop id (6 + length own + size kids)
    header-here = known-header s at stop (around p) id own kids rest h.stands (parsed (known id own kids rest) h)

    pub own_here : own ≡ slice (at + 6) (at + 6 + length own) s
    own_here = Chunks.own_here s at stop (around p) id own kids rest h.stands (parsed (known id own kids rest) h)

    pub kids_here : Spans (inside p h.seen id own) kids s (at + (6 + length own)) (at + (6 + length own + size kids))
    kids_here = record {
      seen = [];
      stands = Chunks.kids_here s at stop (around p) id own kids rest h.stands (parsed (known id own kids rest) h);
      obeys = h.obeys.2;
    }

    -- the same, by the length field
    pub kids_at : (from n : ℕ) → from ≡ at + (6 + length own) → n ≡ long_at s (at + 2) → Spans (inside p h.seen id own) kids s from (at + n)
    kids_at from n e f = rw (e, f, header-here.length-is) kids_here

    pub after-known : Spans p rest s (at + (6 + length own + size kids)) stop
    after-known = record {
      seen = id ∷ h.seen;
      stands = Chunks.after-known s at stop (around p) id own kids rest h.stands (parsed (known id own kids rest) h);
      obeys = h.obeys.3;
    }

-- ---- the first child x

-- a run from its first child x on is no more, or begins with x
pub onward-is : (x : ℕ) (t : Run) → (onward x t ≡ end) ⊎ ((own : List ℕ) × (kids : Run) × (rest : Run) × (onward x t ≡ known x own kids rest))
onward-is x end = inl refl
onward-is x (skip id body rest) = onward-is x rest
onward-is x (known id own kids rest) = go (eqb id x) refl (onward-is x rest)
  where
    go : (b : Bool) → eqb id x ≡ b → (onward x rest ≡ end) ⊎ ((own' : List ℕ) × (kids' : Run) × (rest' : Run) × (onward x rest ≡ known x own' kids' rest')) →
        (cond b (known id own kids rest) (onward x rest) ≡ end) ⊎ ((own' : List ℕ) × (kids' : Run) × (rest' : Run) × (cond b (known id own kids rest) (onward x rest) ≡ known x own' kids' rest'))
    go true e ih = inr (own, kids, rest, ap (λ (y : ℕ). known y own kids rest) (eqb-true id x e))
    go false e ih = ih

pub child-onward : (x : ℕ) (t : Run) → child x t ≡ child x (onward x t)
child-onward x end = refl
child-onward x (skip id body rest) = child-onward x rest
child-onward x (known id own kids rest) = go (eqb id x) refl (child-onward x rest)
  where
    go : (b : Bool) → eqb id x ≡ b → child x rest ≡ child x (onward x rest) → cond b own (child x rest) ≡ child x (cond b (known id own kids rest) (onward x rest))
    go true e ih = rw e
    go false e ih = ih

pub among-onward : (x : ℕ) (t : Run) → among x (identifiers t) ≡ among x (identifiers (onward x t))
among-onward x end = refl
among-onward x (skip id body rest) = among-onward x rest
among-onward x (known id own kids rest) = go (eqb id x) refl (among-onward x rest)
  where
    go : (b : Bool) → eqb id x ≡ b → among x (identifiers rest) ≡ among x (identifiers (onward x rest)) →
        (eqb x id || among x (identifiers rest)) ≡ among x (identifiers (cond b (known id own kids rest) (onward x rest)))
    go true e ih = refl
    go false e ih = rw (ne_eqb x id (λ q. eqb-false id x e (sym q))) ih

pub onward_spans : (x : ℕ) (p : Parent) (t : Run) (s : List ℕ) (at stop : ℕ) → Spans p t s at stop → Spans p (onward x t) s (offset_of x at t) stop
onward_spans x p end s at stop h = h
onward_spans x p (skip id body rest) s at stop h = onward_spans x p rest s (at + (6 + length body)) stop (after-skip p s at stop id body rest h)
onward_spans x p (known id own kids rest) s at stop h =
    go (eqb id x) h (onward_spans x p rest s (at + (6 + length own + size kids)) stop (after-known p s at stop id own kids rest h))
  where
    go : (b : Bool) → Spans p (known id own kids rest) s at stop → Spans p (onward x rest) s (offset_of x (at + (6 + length own + size kids)) rest) stop →
        Spans p (cond b (known id own kids rest) (onward x rest)) s (cond b at (offset_of x (at + (6 + length own + size kids)) rest)) stop
    go true h ih = h
    go false h ih = ih

pub offset_after : (x o : ℕ) (t : Run) → o ≤ offset_of x o t
offset_after x o end = omega arith
offset_after x o (skip id body rest) = omega (arith, offset_after x (o + (6 + length body)) rest)
offset_after x o (known id own kids rest) = go (eqb id x) (offset_after x (o + (6 + length own + size kids)) rest)
  where
    go : (b : Bool) → o + (6 + length own + size kids) ≤ offset_of x (o + (6 + length own + size kids)) rest → o ≤ cond b o (offset_of x (o + (6 + length own + size kids)) rest)
    go true ih = omega arith
    go false ih = omega (arith, ih)

-- by where it stands: there it is, or there is none
module _ (x : ℕ) (p : Parent) (t : Run) (s : List ℕ) (at stop : ℕ) (h : Spans p t s at stop) where
  pub record First : Type 0 where
    pub own : List ℕ
    pub kids : Run
    pub rest : Run
    pub is : onward x t ≡ known x own kids rest
    pub spans : Spans p (known x own kids rest) s (offset_of x at t) stop

  pub first-there : offset_of x at t < stop → First
  first-there l = go (onward-is x t) (onward_spans x p t s at stop h)
    where
      go : (onward x t ≡ end) ⊎ ((own : List ℕ) × (kids : Run) × (rest : Run) × (onward x t ≡ known x own kids rest)) → Spans p (onward x t) s (offset_of x at t) stop → First
      go (inl e) q = absurd (omega (arith, span-size p s (offset_of x at t) stop end (subst (λ (r : Run). Spans p r s (offset_of x at t) stop) e q)))
      go (inr (own, kids, rest, e)) q = record { own = own; kids = kids; rest = rest; is = e; spans = subst (λ (r : Run). Spans p r s (offset_of x at t) stop) e q }

  pub first-nowhere : stop ≤ offset_of x at t → onward x t ≡ end
  first-nowhere l = go (onward-is x t) (onward_spans x p t s at stop h)
    where
      go : (onward x t ≡ end) ⊎ ((own : List ℕ) × (kids : Run) × (rest : Run) × (onward x t ≡ known x own kids rest)) → Spans p (onward x t) s (offset_of x at t) stop → onward x t ≡ end
      go (inl e) q = e
      go (inr (own, kids, rest, e)) q =
          absurd (omega (arith, l, (header-here p s (offset_of x at t) stop x own kids rest (subst (λ (r : Run). Spans p r s (offset_of x at t) stop) e q)).six))

-- ---- looking for x, from position to position

pub record Reached (x : ℕ) (p : Parent) (t : Run) (s : List ℕ) (at stop o : ℕ) : Type 0 where
  pub rest : Run
  pub spans : Spans p rest s o stop
  pub same : offset_of x at t ≡ offset_of x o rest

-- before the end of a run a header stands
pub header-there : (p : Parent) (t : Run) (s : List ℕ) (o stop : ℕ) → Spans p t s o stop → o < stop → o + 6 ≤ stop
header-there p end s o stop h b = absurd (omega (arith, span-size p s o stop end h))
header-there p (skip id body rest) s o stop h b = (skipped-header p s o stop id body rest h).six
header-there p (known id own kids rest) s o stop h b = (header-here p s o stop id own kids rest h).six

module _ (x : ℕ) (l : listed x ≡ true) (p : Parent) (s : List ℕ) (o stop : ℕ) where
  -- it is x
  pub reached-x : (t : Run) → Spans p t s o stop → o < stop → word_at s o ≡ x → offset_of x o t ≡ o
  reached-x end h b e = refl
  reached-x (skip id body rest) h b e = absurd (unlisted_other id x h.obeys.0 l (sym (skipped-header p s o stop id body rest h).id-is ∙ e))
  reached-x (known id own kids rest) h b e = rw (eq-eqb id x (sym (header-here p s o stop id own kids rest h).id-is ∙ e))

  -- it is another, and its length leads to the next
  pub record Passed (t : Run) : Type 0 where
    pub rest : Run
    pub ends : o + long_at s (o + 2) ≤ stop
    pub on : o < o + long_at s (o + 2)
    pub spans : Spans p rest s (o + long_at s (o + 2)) stop
    pub same : offset_of x o t ≡ offset_of x (o + long_at s (o + 2)) rest

  pub passed : (t : Run) → Spans p t s o stop → o < stop → (word_at s o ≡ x → ⊥) → Passed t
  passed end h b e = absurd (omega (arith, span-size p s o stop end h))
  passed (skip id body rest) h b e =
      let w = skipped-header p s o stop id body rest h in record {
        rest = rest;
        ends = omega (arith, w.ends, w.length-is);
        on = omega (arith, w.length-is);
        spans = rw w.length-is (after-skip p s o stop id body rest h);
        same = rw w.length-is;
      }
  passed (known id own kids rest) h b e =
      let w = header-here p s o stop id own kids rest h in record {
        rest = rest;
        ends = omega (arith, w.ends, w.length-is);
        on = omega (arith, w.length-is);
        spans = rw w.length-is (after-known p s o stop id own kids rest h);
        same = rw (ne_eqb id x (λ q. e (w.id-is ∙ q)), w.length-is);
      }

  -- nothing is left
  pub reached-end : (t : Run) → Spans p t s o stop → stop ≤ o → offset_of x o t ≡ o
  reached-end end h b = refl
  reached-end (skip id body rest) h b = absurd (omega (arith, span-size p s o stop (skip id body rest) h))
  reached-end (known id own kids rest) h b = absurd (omega (arith, span-size p s o stop (known id own kids rest) h))

-- ---- a child x that must be there

pub tally-onward : (x : ℕ) (t : Run) → tally (x ∷ []) (identifiers t) ≡ tally (x ∷ []) (identifiers (onward x t))
tally-onward x end = refl
tally-onward x (skip id body rest) = tally-onward x rest
tally-onward x (known id own kids rest) = go (eqb id x) refl (tally-onward x rest)
  where
    go : (b : Bool) → eqb id x ≡ b → tally (x ∷ []) (identifiers rest) ≡ tally (x ∷ []) (identifiers (onward x rest)) →
        cond (eqb id x || false) 1 0 + tally (x ∷ []) (identifiers rest) ≡ tally (x ∷ []) (identifiers (cond b (known id own kids rest) (onward x rest)))
    go true e ih = refl
    go false e ih = rw e (omega (arith, ih))

pub first_some : (x : ℕ) (p : Parent) (t : Run) (s : List ℕ) (at stop : ℕ) → Spans p t s at stop → 1 ≤ tally (x ∷ []) (identifiers t) → offset_of x at t < stop
first_some x p t s at stop h n = go (onward-is x t) (onward_spans x p t s at stop h)
  where
    go : (onward x t ≡ end) ⊎ ((own : List ℕ) × (kids : Run) × (rest : Run) × (onward x t ≡ known x own kids rest)) → Spans p (onward x t) s (offset_of x at t) stop → offset_of x at t < stop
    go (inl e) q = absurd (omega (arith, n, tally-onward x t ∙ ap (λ (r : Run). tally (x ∷ []) (identifiers r)) e))
    go (inr (own, kids, rest, e)) q = omega (arith, (header-here p s (offset_of x at t) stop x own kids rest (subst (λ (r : Run). Spans p r s (offset_of x at t) stop) e q)).six)
