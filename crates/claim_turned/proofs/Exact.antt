-- Another value in one length field is accepted exactly when whole unlisted chunks change their parent by it.
use mathlib.Core.Path.{◌≡◌, refl, sym, ap, ◌∙◌}
use mathlib.Core.Logic.{◌⊎◌, inl, inr}
use Prim.Native.Nat.{ℕ, ◌+◌, ◌≤◌}
use native.Mathlib.Omega.{arith}
use mathlib.Core.Bool.{Bool, true, false, ◌||◌}
use mathlib.Core.List.{List, []}
use lib.ListN.{length}
use Rattle.shared_words.specs.Refusals.{limit}
use Rattle.studio_rules.specs.declared.Record.{Record}
use Rattle.studio_rules.specs.Table.{plus}
use Rattle.studio_rules.specs.Layout.{Run, known, figure, size, bytes, with_length}
use Rattle.studio_rules.specs.Rules.{file, no_child, version, Meets}
use Rattle.shared_words.specs.Conditions.{accepted}
use Rattle.studio_rules.specs.Walk.{verdict}
use Rattle.studio_rules.specs.Parses.{in_file}
use Rattle.shared_words.proofs.Bools.{or_second}
use Rattle.studio_rules.proofs.Complete.{no_bytes}
use Rattle.studio_rules.proofs.Sound.{length-bytes}
use Rattle.studio_rules.proofs.Verdict.{verdict-good}
use Rattle.claim_turned.specs.Turned.{OtherLength}
use Rattle.claim_turned.specs.Exact.{TakesIn, GivesUp, Exact}
use Rattle.studio_rules.proofs.Then.{size_then}
use Rattle.claim_turned.proofs.TwoWays.{Takes}
use Rattle.claim_turned.proofs.Number.{Found}
use Rattle.claim_turned.proofs.Chunk.{meets, len_is, with-length}
use Rattle.claim_turned.proofs.Reread.{Reread}
use Rattle.claim_turned.proofs.Turned.{at, read_again}
use Rattle.claim_turned.proofs.Figure.{first_alone}
use Rattle.claim_turned.proofs.Allowed.{parent_at, seen_at, obeys-there}
use Rattle.claim_turned.proofs.Accepted.{by_either, again, obeys-again, size-again, bytes-again}

-- ---- accepted, so chunks change their parent

-- a chunk that takes bytes in has children, so its row ends in "+"
row-plus : (id : ℕ) (kids : Run) → (plus id || no_child kids) ≡ true → ¬ (size kids ≡ 0) → plus id ≡ true
row-plus id kids l h = go (plus id) refl
  where
    go : (b : Bool) → plus id ≡ b → b ≡ true
    go true e = refl
    go false e = absurd (h (omega (arith, length-bytes kids, ap length (no_bytes kids (or_second (plus id) (no_child kids) l e)))))

module _ (i len n : ℕ) (kids kids₁ : Run) (f : Found i (figure kids)) (q : Reread in_file f.context f.id f.own f.kids f.rest n (figure kids₁))
    (long : len ≡ 6 + length f.own + size f.kids) (another : ¬ (n ≡ len)) where
  gives_up : Takes q.kids' q.rest' f.kids f.rest → GivesUp i len n f.kids
  gives_up h =
      let z = ap size h.more in
      let m = size_then q.kids' h.w in
      let alone : i ≡ 0 → ⊥ = λ e.
      another (omega (arith, q.len_is, ap size (first_alone f.context kids₁ f.id f.own q.kids' q.rest' (sym q.is) (f.number ∙ e)), ap size h.fewer, size_then h.w f.rest)) in
      record { not_first = omega (arith, alone); kept = q.kids'; given = h.w; last = h.more; none-known = h.none-known; new-end = omega (arith, q.len_is) }

  takes_in : Takes f.kids f.rest q.kids' q.rest' → TakesIn f.id len n f.rest
  takes_in h =
      let z = ap size h.more in
      let m = size_then f.kids h.w in
      record {
        taken = h.w;
        left = q.rest';
        first = h.fewer;
        none-known = h.none-known;
        new-end = omega (arith, q.len_is);
        row-ends_in_plus = row-plus f.id q.kids' q.in_plus (λ e. another (omega (arith, q.len_is)));
      }

  changes : TakesIn f.id len n f.rest ⊎ GivesUp i len n f.kids
  changes = go q.takes
    where
      go : Takes f.kids f.rest q.kids' q.rest' ⊎ Takes q.kids' q.rest' f.kids f.rest → TakesIn f.id len n f.rest ⊎ GivesUp i len n f.kids
      go (inl h) = inl (takes_in h)
      go (inr h) = inr (gives_up h)

-- ---- chunks change their parent, so it is accepted

module _ (s : List ℕ) (kids : Run) (i : ℕ) (r : Record) (n : ℕ) (h : OtherLength s kids i r n) where
  abbrev f : Found i (figure kids)
  f = at s kids i r n h

  m : Meets s kids
  m = meets s kids i r h.are_bytes h.reads h.in_list

  long : r.len ≡ 6 + length f.own + size f.kids
  long = len_is s kids i r h.are_bytes h.reads h.in_list

  accepted-again : TakesIn f.id r.len n f.rest ⊎ GivesUp i r.len n f.kids → (kids₁ : Run) × (verdict (with_length r.offset n s) ≡ accepted kids₁)
  accepted-again x =
      let o = obeys-there (file (version kids)) [] f.context (known f.id f.own f.kids f.rest) (rw f.is m.chunks) in
      let g = by_either (parent_at (file (version kids)) [] f.context) (seen_at [] f.context) i f.id f.own f.kids f.rest r.len n long o x in
      let kids₁ : Run = (again kids i n f m.chunks g).0 in
      let is : bytes (figure kids₁) ≡ with_length r.offset n s = bytes-again kids i n f m.chunks g ∙ sym (with-length s kids i r h.are_bytes h.reads h.in_list n) in
      let l : length (with_length r.offset n s) ≤ limit = omega (arith, m.within-limit, ap length m.is, length-bytes (figure kids), ap length is, length-bytes (figure kids₁), size-again kids i n f m.chunks g) in
      (kids₁, verdict-good (with_length r.offset n s) kids₁ record { is = is; within-limit = l; chunks = obeys-again kids i n f m.chunks g })

-- EXACTLY WHEN
pub exact : Exact
exact s kids i r n h id own inner rest e =
    let f = at s kids i r n h in
    let d : known f.id f.own f.kids f.rest ≡ known id own inner rest = sym f.is-from ∙ e in
    let d₁ : f.id ≡ id = cc in
    let d₂ : f.kids ≡ inner = cc in
    let d₃ : f.rest ≡ rest = cc in (
      λ x. rw (← d₁, ← d₂, ← d₃) (changes i r.len n kids x.0 f (read_again s kids i r n h x.0 x.1) (long s kids i r n h) h.another),
      λ x. accepted-again s kids i r n h (rw (d₁, d₂, d₃) x),
    )
