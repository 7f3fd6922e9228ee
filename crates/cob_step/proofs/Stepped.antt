-- What a chunk comes to: by its body, and with its identifier in the search tree.
use mathlib.Core.Path.{◌≡◌, sym, ap, subst, ◌∙◌}
use Prim.Native.Nat.{ℕ, suc, ◌+◌, ◌-◌, ◌*◌, ◌<◌, ◌≤◌, ◌^◌}
use native.Mathlib.Omega.{arith}
use mathlib.Core.Bool.{Bool, true, false, ◌&&◌, ◌||◌, cond}
use mathlib.Core.List.{List, ◌∷◌}
use mathlib.Core.Option.{none, some}
use lib.Dec.{leb}
use lib.ListN.{length, drop, length-drop, length-append}
use borrow.Author.Tests.{le-leb, lt-leb}
use Rattle.shared_words.specs.declared.Refusal.{Refusal}
use Rattle.cob_rules.specs.Kinds.{is_end, listed}
use Rattle.cob_rules.specs.Layout.{Chunk, kind, identifier, parent, size_field}
use Rattle.cob_rules.specs.Rules.{owner_known, size_allowed, body_exact, numbers_finite, holes_in_faces, indices_below}
use Rattle.cob_rules.specs.Walk.{chunk_at}
use Rattle.cob_rules.proofs.Body.{body-whole}
use Rattle.cob_seen.specs.Tree.{Represents, Admitted}
use Rattle.cob_chunk.specs.declared.Fault.{Fault}
use Rattle.std.specs.Prelude.{Result, Ok, Err, MatchResult}
use Rattle.cob_chunk.specs.Chunks.{chunk_in, judged_of}
use Rattle.cob_chunk.proofs.Fields.{head_in}
use Rattle.cob_step.specs.Steps.{within, EndsAt, BodyTold, BodyIs, Holds, fault_at, Goes}
use Rattle.cob_step.proofs.Faults.{judged-fault, owner_by, holds_more}

-- an Ok behind `map_err` was one before it
pub ok-before : {A E : Type 0} (r : Result A E) (x : A) (Q : E → Type 0) → MatchResult r (λ y. ◌≡◌ {A = Result A Refusal} (Ok x) (Ok y)) Q → ((e : E) → Q e → ⊥) → r ≡ Ok x
ok-before (Ok y) x Q h n = cc
ok-before (Err e) x Q h n = absurd (n e h)

-- ---- within the file

module _ (s : List ℕ) (at : ℕ) where
  abbrev here : Chunk
  here = chunk_in s at

  pub within-short : length s - at < 20 → within s at ≡ false
  within-short l = rw (lt-leb 20 (length (drop at s)) (omega (arith, length-drop at s)))

  header-fits : at + 20 ≤ length s → leb 20 (length (drop at s)) ≡ true
  header-fits l = le-leb 20 (length (drop at s)) (omega (arith, length-drop at s))

  pub within-negative : (z : ℕ) → at + 20 ≤ length s → size_field here ≡ z → 0x8000_0000 ≤ z → within s at ≡ true
  within-negative z l e n = rw (header-fits l, e, le-leb (256 ^ 4) (2 * z) (omega arith))

  pub within-stated : (z : ℕ) → at + 20 ≤ length s → size_field here ≡ z → z < 0x8000_0000 → leb (20 + z) (length s - at) ≡ within s at
  within-stated z l e n = rw (header-fits l, e, lt-leb (256 ^ 4) (2 * z) (omega arith), length-drop at s)

  -- ---- the body

  pub body-inside : length here.body ≤ length s - (at + 20)
  unfolding chunk_at
  body-inside =
      let t = drop 20 (drop at s) in
      let w = ap length (body-whole (kind here) (size_field here) t) in
      omega (arith, length-append here.body (drop (length here.body) t), length-drop at s, length-drop 20 (drop at s))

  good-is : (n : ℕ) → judged_of here ≡ Ok n → length here.body ≡ n
  good-is n = go (size_allowed here) (body_exact here) (numbers_finite here) (holes_in_faces here && indices_below here)
    where
      go : (a b f h : Bool) →
          cond a (cond b (cond f (cond h (Ok (length here.body)) (Err Fault.Index)) (Err Fault.Number)) (Err Fault.Length)) (Err Fault.Size) ≡ Ok n →
          length here.body ≡ n
      go false b f h e = cc
      go true false f h e = cc
      go true true false h e = cc
      go true true true false e = cc
      go true true true true e = cc

  pub good-ends : (n : ℕ) → at + 20 ≤ length s → judged_of here ≡ Ok n → EndsAt s at (at + 20 + n)
  good-ends n l e =
      let b = good-is n e in
      let k = body-inside in
      let h = head_in s at l in
      record { is = omega arith; inside = omega arith; later = omega arith }

  module _ (seen : List Chunk) (w : within s at ≡ true) (o : (is_end (kind here) || owner_known seen here) ≡ true) {b : Result ℕ Refusal} (h : BodyIs s at b) where
    pub body_refused : {q : Refusal} → b ≡ Err q → fault_at seen s at ≡ some q
    body_refused e = judged-fault seen s at w o ∙ subst (BodyTold s at) e h.told

    pub body-good : {next : ℕ} → b ≡ Ok next → (fault_at seen s at ≡ none) × EndsAt s at next
    body-good e = let t = subst (BodyTold s at) e h.told in (judged-fault seen s at w o ∙ t.0, t.1)

-- ---- the search tree

module _ (s : List ℕ) (at : ℕ) {ids : List ℕ} {count id up : ℕ} (i : identifier (chunk_in s at) ≡ id) (p : parent (chunk_in s at) ≡ up)
    {b : Bool} {ids' links' : List ℕ} (a : Admitted ids count id up b ids' links') (seen : List Chunk) (n : suc (length seen) ≡ count) (h : Holds ids seen) where
  pub owner_is : owner_known seen (chunk_in s at) ≡ b
  owner_is = sym (owner_by ids seen (chunk_in s at) h) ∙ rw (n, i, p) (sym a.answer)

  pub tree_grows : b ≡ true → count < length ids → Represents ids' links' (suc (suc (length seen))) × Holds ids' (chunk_in s at ∷ seen)
  tree_grows t l =
      let g = a.new t in
      let m : count + 1 ≡ suc (suc (length seen)) = omega arith in
      let e = rw (← n, ← i) at g.0 in (
        subst (Represents ids' links') m g.1,
        subst (λ (l : List ℕ). Holds l (chunk_in s at ∷ seen)) (sym e) (holds_more ids seen (chunk_in s at) (omega arith) h),
      )

  -- a good chunk before END
  pub goes : within s at ≡ true → is_end (kind (chunk_in s at)) ≡ false → b ≡ true → count < length ids → {body : Result ℕ Refusal} {next : ℕ} → BodyIs s at body → body ≡ Ok next →
      {is_listed : Bool} → listed (kind (chunk_in s at)) ≡ is_listed → Goes seen s at next is_listed ids' links'
  goes w e t l k q y =
      let o = owner_is ∙ t in
      let g = body-good s at seen w (rw (e, o)) k q in
      let r = tree_grows t l in
      record { good = g.0; not_end = e; listed-is = y; ends = g.1; tree = r.0; holds = r.1 }
