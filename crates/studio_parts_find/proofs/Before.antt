-- Part by part: the fathers that stand before a position, and what follows there.
use mathlib.Core.Path.{◌≡◌, refl, sym, ap, ◌∙◌, subst}
use mathlib.Core.Bool.{Bool, true, false, cond}
use mathlib.Core.Logic.{◌⊎◌, inl, inr}
use mathlib.Core.List.{List, [], ◌∷◌, ◌++◌, append_assoc, append-nil}
use Prim.Native.Nat.{ℕ, ◌+◌, ◌≤◌, ◌<◌}
use native.Mathlib.Omega.{arith}
use lib.Dec.{eqb}
use lib.ListN.{length, length-append}
use Rattle.studio_rules.specs.OwnData.{father}
use Rattle.studio_rules.specs.Layout.{Run, end, skip, known, size, child, offset_of}
use Rattle.studio_rules.specs.Rules.{Parent}
use Rattle.studio_rules.specs.Gives.{fathers_in}
use Rattle.studio_child.specs.Runs.{Spans, onward}
use Rattle.studio_child.proofs.Runs.{span-size, header-here, after-known, onward-is, onward_spans, offset_after}

fathers-onward : (t : Run) → fathers_in t ≡ fathers_in (onward 0xB002 t)
fathers-onward end = refl
fathers-onward (skip id body rest) = fathers-onward rest
fathers-onward (known id own kids rest) = go (eqb id 0xB002) refl (fathers-onward rest)
  where
    go : (b : Bool) → eqb id 0xB002 ≡ b → fathers_in rest ≡ fathers_in (onward 0xB002 rest) →
        cond b (father (child 0xB010 kids) ∷ fathers_in rest) (fathers_in rest) ≡ fathers_in (cond b (known id own kids rest) (onward 0xB002 rest))
    go true e ih = rw e
    go false e ih = ih

-- of the parts in t, those with the fathers `done` stand before `at`, where the next stands, or the end
pub record PartsBefore (p : Parent) (t : Run) (s : List ℕ) (stop : ℕ) (done : List ℕ) (at : ℕ) : Type 0 where
  pub tail : Run
  pub spans : Spans p (onward 0xB002 tail) s at stop
  pub split : fathers_in t ≡ done ++ fathers_in (onward 0xB002 tail)
  pub few : length done ≤ at

module _ (p : Parent) (t : Run) (s : List ℕ) (stop : ℕ) where
  pub none_before : (from at : ℕ) → Spans p t s from stop → at ≡ offset_of 0xB002 from t → PartsBefore p t s stop [] at
  none_before from at h e = record { tail = t; spans = rw e (onward_spans 0xB002 p t s from stop h); split = fathers-onward t; few = omega arith }

  module _ (done : List ℕ) (at : ℕ) (w : PartsBefore p t s stop done at) where
    pub all-before : stop ≤ at → fathers_in t ≡ done
    all-before l = w.split ∙ go (onward-is 0xB002 w.tail) w.spans
      where
        go : (onward 0xB002 w.tail ≡ end) ⊎ ((own : List ℕ) × (kids : Run) × (rest : Run) × (onward 0xB002 w.tail ≡ known 0xB002 own kids rest)) →
            Spans p (onward 0xB002 w.tail) s at stop → done ++ fathers_in (onward 0xB002 w.tail) ≡ done
        go (inl e) h = rw (e, append-nil done)
        go (inr (own, kids, rest, e)) h = absurd (omega (arith, l, (header-here p s at stop 0xB002 own kids rest (subst (λ (r : Run). Spans p r s at stop) e h)).six))

    -- the part at `at`
    pub record Here : Type 0 where
      pub own : List ℕ
      pub kids : Run
      pub rest : Run
      pub spans : Spans p (known 0xB002 own kids rest) s at stop
      pub split : fathers_in t ≡ done ++ (father (child 0xB010 kids) ∷ fathers_in rest)

    pub here : at < stop → Here
    here l = go (onward-is 0xB002 w.tail) w.spans
      where
        go : (onward 0xB002 w.tail ≡ end) ⊎ ((own : List ℕ) × (kids : Run) × (rest : Run) × (onward 0xB002 w.tail ≡ known 0xB002 own kids rest)) →
            Spans p (onward 0xB002 w.tail) s at stop → Here
        go (inl e) h = absurd (omega (arith, l, span-size p s at stop end (subst (λ (r : Run). Spans p r s at stop) e h)))
        go (inr (own, kids, rest, e)) h = record {
          own = own;
          kids = kids;
          rest = rest;
          spans = subst (λ (r : Run). Spans p r s at stop) e h;
          split = w.split ∙ ap (λ (r : Run). done ++ fathers_in r) e;
        }

    -- one part on
    module _ (h : Here) (next : ℕ) (e : next ≡ offset_of 0xB002 (at + (6 + length h.own + size h.kids)) h.rest) where
      abbrev past : ℕ
      past = at + (6 + length h.own + size h.kids)

      pub goes_on : at + 6 ≤ next
      goes_on = omega (arith, e, offset_after 0xB002 past h.rest)

      pub one-before : PartsBefore p t s stop (done ++ (father (child 0xB010 h.kids) ∷ [])) next
      one-before =
          let f = father (child 0xB010 h.kids) in
          let on = after-known p s at stop 0xB002 h.own h.kids h.rest h.spans in
          record {
            tail = h.rest;
            spans = rw e (onward_spans 0xB002 p h.rest s past stop on);
            split = h.split ∙ sym (append_assoc done (f ∷ []) (fathers_in h.rest)) ∙ ap (λ (l : List ℕ). (done ++ (f ∷ [])) ++ l) (fathers-onward h.rest);
            few = omega (arith, length-append done (f ∷ []), w.few, goes_on);
          }
