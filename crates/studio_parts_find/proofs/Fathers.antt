-- The B000 of a figure, the B010 of a part, and where they stand in the file.
use mathlib.Core.Path.{◌≡◌, refl, sym, ap, ◌∙◌, subst}
use mathlib.Core.Bool.{Bool, true, false, cond, false≢true}
use mathlib.Core.List.{List, []}
use Prim.Native.Nat.{ℕ, ◌+◌, ◌-◌, ◌≤◌, ◌<◌}
use native.Mathlib.Omega.{arith}
use lib.Dec.{eqb}
use lib.ListN.{length}
use lib.Seq.{slice, slice_empty}
use borrow.Author.Tests.{eqb-true}
use Rattle.studio_rules.specs.Table.{Shape, fixed, named, rows, listed, shape, plus}
use Rattle.studio_rules.specs.OwnData.{own_size, name_size, father}
use Rattle.studio_rules.specs.Layout.{Run, end, skip, known, size, child, held, offset_of}
use Rattle.studio_rules.specs.Rules.{Parent, inside, no_child, Meets}
use Rattle.studio_rules.proofs.Parts.{has_father}
use Rattle.shared_numbers.specs.Numbers.{word_at, long_at}
use Rattle.studio_own_data.proofs.Numbers.{father_last}
use Rattle.studio_child.specs.Runs.{Spans, onward}
use Rattle.studio_child.proofs.Runs.{header-here, own_here, kids_at, First, first-there, first-nowhere, first_some, child-onward}
use Rattle.studio_child.proofs.Figure.{figure_top, figure_kids}
use Rattle.studio_parts_find.specs.Parts.{PartsAt}

pub listed_here : (listed 0xB000 ≡ true) × (listed 0xB002 ≡ true) × (listed 0xB010 ≡ true)
unfolding listed rows
listed_here = (refl, refl, refl)

held_onward : (x : ℕ) (t : Run) → held x t ≡ held x (onward x t)
held_onward x end = refl
held_onward x (skip id body rest) = held_onward x rest
held_onward x (known id own kids rest) = go (eqb id x) refl (held_onward x rest)
  where
    go : (b : Bool) → eqb id x ≡ b → held x rest ≡ held x (onward x rest) → cond b kids (held x rest) ≡ held x (cond b (known id own kids rest) (onward x rest))
    go true e ih = rw e
    go false e ih = ih

no-child-size : (t : Run) → no_child t ≡ true → size t ≡ 0
no-child-size end h = refl
no-child-size (skip id body rest) h = absurd (false≢true h)
no-child-size (known id own kids rest) h = absurd (false≢true h)

-- own data of a chunk has the size of its shape
module _ (p : Parent) (own : List ℕ) (kids rest : Run) (s : List ℕ) (at stop : ℕ) where
  own_exact : (id : ℕ) → Spans p (known id own kids rest) s at stop → (sh : Shape) → shape id ≡ sh → own_size sh p.own own ≡ length own
  own_exact id h sh e = subst (λ (y : Shape). own_size y p.own own ≡ length own) e (eqb-true _ _ h.obeys.0.own_data_exact_lem)

  pub keyframer_own : Spans p (known 0xB000 own kids rest) s at stop → length own ≡ 0
  unfolding shape rows
  keyframer_own h = sym (own_exact 0xB000 h (fixed 0) refl)

  pub part_own : Spans p (known 0xB002 own kids rest) s at stop → length own ≡ 0
  unfolding shape rows
  part_own h = sym (own_exact 0xB002 h (fixed 0) refl)

  -- a B010 has nothing behind its own data, of which the father is the last word
  module _ (h : Spans p (known 0xB010 own kids rest) s at stop) where
    name-and_words : name_size own + 6 ≡ length own
    unfolding shape rows
    name-and_words = own_exact 0xB010 h (named 6) refl

    no_kids : size kids ≡ 0
    unfolding plus rows
    no_kids = no-child-size kids h.obeys.1.in_plus

    pub told-room : (n : ℕ) → n ≡ long_at s (at + 2) → (at + 8 ≤ at + n) × (at + n ≤ stop)
    told-room n e =
        let w = header-here p s at stop 0xB010 own kids rest h in
        (omega (arith, e, w.length-is, name-and_words), omega (arith, e, w.length-is, w.ends))

    pub told_is : (n : ℕ) → n ≡ long_at s (at + 2) → father own ≡ word_at s (at + n - 2)
    told_is n e =
        let w = header-here p s at stop 0xB010 own kids rest h in
        let ends : at + 6 + length own ≡ at + n = omega (arith, e, w.length-is, no_kids) in
        let here : own ≡ slice (at + 6) (at + n) s =
        own_here p s at stop 0xB010 own kids rest h ∙ ap (λ (k : ℕ). slice (at + 6) k s) ends in
        ap father here ∙ father_last s (at + 6) (at + n) (omega (arith, e, w.length-is, w.ends, h.stands.stays)) (rw (← here) (sym name-and_words))

-- ---- a part's B010, and the father that it tells

module _ (p : Parent) (own : List ℕ) (kids rest : Run) (s : List ℕ) (at stop : ℕ) (h : Spans p (known 0xB002 own kids rest) s at stop) (n : ℕ) (e : n ≡ long_at s (at + 2)) where
  -- its header ends before it does, and it in the run
  pub part_room : (at + 6 ≤ at + n) × (at + n ≤ stop)
  part_room = let w = header-here p s at stop 0xB002 own kids rest h in (omega (arith, e, w.length-is), omega (arith, e, w.length-is, w.ends))

  pub part-ends : at + n ≡ at + (6 + length own + size kids)
  part-ends = omega (arith, e, (header-here p s at stop 0xB002 own kids rest h).length-is)

  pub in_part : Spans (inside p h.seen 0xB002 own) kids s (at + 6) (at + n)
  in_part = kids_at p s at stop 0xB002 own kids rest h (at + 6) n (omega (arith, part_own p own kids rest s at stop h)) e

  told-there : offset_of 0xB010 (at + 6) kids < at + n
  told-there = first_some 0xB010 (inside p h.seen 0xB002 own) kids s (at + 6) (at + n) in_part (has_father (inside p h.seen 0xB002 own) kids refl h.obeys.1.none-missing)

  told : First 0xB010 (inside p h.seen 0xB002 own) kids s (at + 6) (at + n) in_part
  told = first-there 0xB010 (inside p h.seen 0xB002 own) kids s (at + 6) (at + n) in_part told-there

  -- it stands at o, and is m bytes long
  module _ (o m : ℕ) (f : o ≡ offset_of 0xB010 (at + 6) kids) where
    here : Spans (inside p h.seen 0xB002 own) (known 0xB010 told.own told.kids told.rest) s o (at + n)
    here = subst (λ (y : ℕ). Spans (inside p h.seen 0xB002 own) (known 0xB010 told.own told.kids told.rest) s y (at + n)) (sym f) told.spans

    pub told-header : o + 6 ≤ at + n
    told-header = (header-here (inside p h.seen 0xB002 own) s o (at + n) 0xB010 told.own told.kids told.rest here).six

    pub told-ends : m ≡ long_at s (o + 2) → (o + 8 ≤ o + m) × (o + m ≤ at + n)
    told-ends g = told-room (inside p h.seen 0xB002 own) told.own told.kids told.rest s o (at + n) here m g

    pub father-is : m ≡ long_at s (o + 2) → father (child 0xB010 kids) ≡ word_at s (o + m - 2)
    father-is g =
        ap father (child-onward 0xB010 kids ∙ ap (child 0xB010) told.is) ∙
        told_is (inside p h.seen 0xB002 own) told.own told.kids told.rest s o (at + n) here m g

-- ---- the one B000 of a figure

module _ (s : List ℕ) (kids : Run) (m : Meets s kids) (o : ℕ) (e : o ≡ offset_of 0xB000 6 kids) where
  -- none
  pub parts-nowhere : length s ≤ o → PartsAt s kids (length s) (length s)
  parts-nowhere l =
      let none : held 0xB000 kids ≡ end = held_onward 0xB000 kids ∙ ap (held 0xB000) (first-nowhere 0xB000 (figure_top s kids m) kids s 6 (length s) (figure_kids s kids m) (omega (arith, e))) in
      record {
        meets = m;
        p = figure_top s kids m;
        spans = rw none record {
          seen = [];
          stands = record { order = omega arith; stays = omega arith; small = omega (arith, m.within-limit); is = sym (slice_empty (length s) s) };
          obeys = tt;
        };
      }

  module _ (l : o < length s) where
    found : First 0xB000 (figure_top s kids m) kids s 6 (length s) (figure_kids s kids m)
    found = first-there 0xB000 (figure_top s kids m) kids s 6 (length s) (figure_kids s kids m) (omega (arith, e))

    here_too : Spans (figure_top s kids m) (known 0xB000 found.own found.kids found.rest) s o (length s)
    here_too = subst (λ (y : ℕ). Spans (figure_top s kids m) (known 0xB000 found.own found.kids found.rest) s y (length s)) (sym e) found.spans

    pub keyframer-header : o + 6 ≤ length s
    keyframer-header = (header-here (figure_top s kids m) s o (length s) 0xB000 found.own found.kids found.rest here_too).six

    pub parts-there : (n : ℕ) → n ≡ long_at s (o + 2) → PartsAt s kids (o + 6) (o + n)
    parts-there n f =
        let some : held 0xB000 kids ≡ found.kids = held_onward 0xB000 kids ∙ ap (held 0xB000) found.is in
        let none_own = keyframer_own (figure_top s kids m) found.own found.kids found.rest s o (length s) here_too in
        record {
          meets = m;
          p = inside (figure_top s kids m) here_too.seen 0xB000 found.own;
          spans = rw some (kids_at (figure_top s kids m) s o (length s) 0xB000 found.own found.kids found.rest here_too (o + 6) n (omega (arith, none_own)) f);
        }
