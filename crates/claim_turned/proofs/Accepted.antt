-- Whole unlisted chunks change their parent: the file with the chunk's new length in its field is accepted.
use mathlib.Core.Path.{◌≡◌, refl, sym, ap, ◌∙◌}
use mathlib.Core.Logic.{◌⊎◌, inl, inr}
use Prim.Native.Nat.{ℕ, ◌+◌}
use native.Mathlib.Omega.{arith}
use mathlib.Core.List.{List, [], ◌++◌, append_assoc}
use lib.ListN.{length}
use Rattle.shared_words.specs.Bytes.{value}
use Rattle.studio_rules.specs.Layout.{Run, end, skip, known, figure, header, size, bytes, child, ◌then◌}
use Rattle.studio_rules.specs.Rules.{Parent, file, Obeys, version}
use Rattle.studio_rules.specs.Parses.{in_file}
use Rattle.studio_rules.proofs.Gaps.{child-same}
use Rattle.claim_turned.specs.Exact.{TakesIn, GivesUp}
use Rattle.studio_rules.proofs.Then.{size_then, bytes_then}
use Rattle.claim_turned.proofs.TwoWays.{Takes}
use Rattle.claim_turned.proofs.Bare.{same-of-bare}
use Rattle.claim_turned.proofs.Context.{plug, fill, bytes-plug}
use Rattle.claim_turned.proofs.Number.{Found}
use Rattle.claim_turned.proofs.Reread.{Reread}
use Rattle.claim_turned.proofs.Gets.{chunk-same, size_same, kids_bare}
use Rattle.claim_turned.proofs.Allowed.{may_take, may_give, parent_at, seen_at, obeys-plug}
use Rattle.claim_turned.proofs.Figure.{never, figure-again}

-- after the change the chunk has the children kids', and rest' follows it
pub record Changes (p : Parent) (seen : List ℕ) (i id : ℕ) (own : List ℕ) (kids rest : Run) (n : ℕ) : Type 0 where
  pub kids' : Run
  pub rest' : Run
  pub takes : Takes kids rest kids' rest' ⊎ Takes kids' rest' kids rest
  pub len_is : n ≡ 6 + length own + size kids'
  pub obeys : Obeys p seen (known id own kids' rest')
  pub end_same : i ≡ 0 → rest ≡ end → rest' ≡ end

takes_bytes : (t r u v : Run) → Takes t r u v → bytes u ++ bytes v ≡ bytes t ++ bytes r
takes_bytes t r u v h = rw (h.more, h.fewer, bytes_then t h.w, bytes_then h.w v) (append_assoc (bytes t) (bytes h.w) (bytes v))

either_bytes : (t r u v : Run) → Takes t r u v ⊎ Takes u v t r → bytes u ++ bytes v ≡ bytes t ++ bytes r
either_bytes t r u v (inl h) = takes_bytes t r u v h
either_bytes t r u v (inr h) = sym (takes_bytes u v t r h)

then_none : (a t : Run) → a then t ≡ end → t ≡ end
then_none end t e = e
then_none (skip id body a) t e = never (cc)
then_none (known id own kids a) t e = never (cc)

module _ (p : Parent) (seen : List ℕ) (i id : ℕ) (own : List ℕ) (kids rest : Run) (len n : ℕ) (long : len ≡ 6 + length own + size kids) (h : Obeys p seen (known id own kids rest)) where
  by_taking : TakesIn id len n rest → Changes p seen i id own kids rest n
  by_taking g = record {
    kids' = kids then g.taken;
    rest' = g.left;
    takes = inl record { w = g.taken; none-known = g.none-known; more = refl; fewer = g.first };
    len_is = omega (arith, g.new-end, size_then kids g.taken);
    obeys = may_take p seen id own kids g.taken g.left g.none-known g.row-ends_in_plus (rw g.first at h);
    end_same = λ z e. then_none g.taken g.left (sym g.first ∙ e);
  }

  by_giving : GivesUp i len n kids → Changes p seen i id own kids rest n
  by_giving g = record {
    kids' = g.kept;
    rest' = g.given then rest;
    takes = inr record { w = g.given; none-known = g.none-known; more = g.last; fewer = refl };
    len_is = omega (arith, g.new-end, ap size g.last, size_then g.kept g.given);
    obeys = may_give p seen id own g.kept g.given rest g.none-known (rw g.last at h);
    end_same = λ z e. absurd (omega (arith, g.not_first));
  }

  pub by_either : TakesIn id len n rest ⊎ GivesUp i len n kids → Changes p seen i id own kids rest n
  by_either (inl g) = by_taking g
  by_either (inr g) = by_giving g

-- in a figure
module _ (kids : Run) (i n : ℕ) (f : Found i (figure kids)) (h : Obeys (file (version kids)) [] (figure kids)) (g : Changes (parent_at (file (version kids)) [] f.context) (seen_at [] f.context) i f.id f.own f.kids f.rest n) where
  abbrev new : Run
  new = known f.id f.own g.kids' g.rest'

  pub again : (kids₁ : Run) × (plug f.context new ≡ figure kids₁)
  again = figure-again f.context kids f.id f.own f.kids f.rest g.kids' g.rest' f.is (λ z. g.end_same (sym f.number ∙ z))

  abbrev reads : Reread in_file f.context f.id f.own f.kids f.rest n (figure again.0)
  reads = record { kids' = g.kids'; rest' = g.rest'; is = sym again.1; len_is = g.len_is; in_plus = g.obeys.1.in_plus; takes = g.takes }

  pub size-again : size (figure again.0) ≡ size (figure kids)
  size-again = size_same kids again.0 i n f reads

  -- the 0002 of the figure is the same
  version-again : version again.0 ≡ version kids
  version-again = ap value (same-of-bare (child 0x0002) (child-same 0x0002) kids again.0 (kids_bare kids again.0 i n f reads))

  pub obeys-again : Obeys (file (version again.0)) [] (figure again.0)
  obeys-again =
      rw version-again
      (rw again.1 at (obeys-plug (file (version kids)) [] f.context (known f.id f.own f.kids f.rest) new (chunk-same kids again.0 i n f reads).bares refl (rw f.is h) g.obeys))

  pub bytes-again : bytes (figure again.0) ≡ fill f.context (header f.id n ++ (f.own ++ (bytes f.kids ++ bytes f.rest)))
  bytes-again = ap bytes (sym again.1) ∙ bytes-plug f.context new ∙ rw (← g.len_is, either_bytes f.kids f.rest g.kids' g.rest' g.takes)
