-- What a body is judged, by where it ends; and a chunk by its size.
use mathlib.Core.Path.{◌≡◌, refl, sym, ap, ◌∙◌}
use Prim.Native.Nat.{ℕ, ◌+◌, ◌-◌, ◌*◌, ◌<◌, ◌≤◌, ◌^◌}
use native.Mathlib.Omega.{arith}
use mathlib.Core.Bool.{true, false, not, false≢true, and-false}
use mathlib.Core.List.{List}
use lib.Dec.{eqb, leb}
use lib.ListN.{length, take, drop, length-drop}
use lib.Seq.{drop-cons, drop-drop, length-take-le}
use borrow.Author.Tests.{ne_eqb, eq-eqb, eqb-false, not-true, le-leb, lt-leb, leb-true}
use Rattle.shared_words.specs.Bytes.{minus_one, negative}
use Rattle.shared_words.proofs.Bools.{or_second}
use Rattle.cob_rules.specs.declared.Kind.{Kind}
use Rattle.cob_rules.specs.Kinds.{is_mesh, tells_end, parts}
use Rattle.cob_rules.specs.Body.{behind_all, exact, up_to, body_at}
use Rattle.cob_rules.specs.Layout.{Chunk, kind, size_field, size}
use Rattle.cob_rules.specs.Rules.{size_allowed}
use Rattle.cob_rules.specs.Walk.{chunk_at}
use Rattle.cob_rules.proofs.Body.{told_exactly}
use Rattle.std.specs.Prelude.{Option, Some, None, Err}
use Rattle.std.specs.Option.{option_eq}
use Rattle.cob_body.specs.Ends.{Ends}
use Rattle.cob_chunk.specs.declared.Fault.{Fault}
use Rattle.cob_chunk.specs.Chunks.{chunk_in, Stated, parts_judged, body_judged, judged_of}
use Rattle.cob_chunk.proofs.Fields.{head_in}

-- ---- a body that is exact

pub mesh-kind : (k : Kind) → is_mesh k ≡ true → k ≡ Kind.PolH
mesh-kind Kind.End h = absurd (false≢true h)
mesh-kind Kind.Grou h = absurd (false≢true h)
mesh-kind Kind.PolH h = refl
mesh-kind Kind.Mat1 h = absurd (false≢true h)
mesh-kind Kind.Other h = absurd (false≢true h)

-- ---- a stated size

module _ (k : Kind) (body : List ℕ) where
  stated-not : Ends (behind_all (parts k)) body 0 None → Err Fault.Length ≡ body_judged k body
  stated-not h = rw h.is

  stated-more : (n : ℕ) → Ends (behind_all (parts k)) body 0 (Some n) → (n ≡ length body → ⊥) → Err Fault.Length ≡ body_judged k body
  stated-more n h d =
      let w = h.within.1 in
      let l : n < length body = omega arith in
      rw (h.is, drop-cons body n 0 l)

  pub stated-other : (r : Option ℕ) → Ends (behind_all (parts k)) body 0 r → not (option_eq eqb r (Some (length body))) ≡ true → Err Fault.Length ≡ body_judged k body
  stated-other (Some n) h e = stated-more n h (eqb-false n (length body) (not-true (eqb n (length body)) e))
  stated-other None h e = stated-not h

-- ---- a body that tells its own end

module _ (k : Kind) (rest : List ℕ) (t : tells_end k ≡ true) where
  pub told_is : (n : ℕ) → Ends (behind_all (parts k)) rest 0 (Some n) → up_to rest (behind_all (parts k) rest) ≡ take n rest
  told_is n h =
      let w = h.within.1 in
      let e : length rest - length (drop n rest) ≡ n = omega (arith, length-drop n rest) in
      rw (h.is, e)

  pub told-exact : (n : ℕ) → Ends (behind_all (parts k)) rest 0 (Some n) → exact k (take n rest) ≡ true
  told-exact n h = ap (exact k) (sym (told_is n h)) ∙ told_exactly k rest t ∙ rw h.is

-- an exact body is judged by its parts
pub exact-judged : (k : Kind) (body : List ℕ) → exact k body ≡ true → parts_judged k body ≡ body_judged k body
exact-judged k body e = rw e

-- ---- a chunk by its size

module _ (s : List ℕ) (at : ℕ) where
  abbrev here : Chunk
  here = chunk_in s at

  pub not_negative : (z : ℕ) → size_field here ≡ z → z < 0x8000_0000 → negative 4 (size_field here) ≡ false
  not_negative z e l = rw e (lt-leb (256 ^ 4) (2 * z) (omega arith))

  pub is_negative : (z : ℕ) → size_field here ≡ z → 0x8000_0000 ≤ z → negative 4 (size_field here) ≡ true
  is_negative z e l = rw e (le-leb (256 ^ 4) (2 * z) (omega arith))

  -- a stated size is within the file
  pub stated-fits : Stated s at → negative 4 (size_field here) ≡ false → at + 20 + size_field here ≤ length s
  stated-fits h n =
      let l = h.header in
      let k = leb-true (20 + size_field here) (length (drop at s)) (or_second (negative 4 (size_field here)) (leb (20 + size_field here) (length (drop at s))) h.body n) in
      omega (arith, length-drop at s)

  body_in_lem : here.body ≡ body_at (kind here) (size_field here) (drop (at + 20) s)
  unfolding chunk_at
  body_in_lem = rw (drop-drop 20 at s)

  pub chunk-stated : negative 4 (size_field here) ≡ false → body_judged (kind here) (take (size_field here) (drop (at + 20) s)) ≡ judged_of here
  chunk-stated n = rw (n, body_in_lem, n)

  pub chunk-told : negative 4 (size_field here) ≡ true → size_field here ≡ minus_one → tells_end (kind here) ≡ true →
      body_judged (kind here) (up_to (drop (at + 20) s) (behind_all (parts (kind here)) (drop (at + 20) s))) ≡ judged_of here
  chunk-told n e t =
      let a : size_allowed here ≡ true = rw (n, eq-eqb (size_field here) minus_one e, t) in
      let b : here.body ≡ up_to (drop (at + 20) s) (behind_all (parts (kind here)) (drop (at + 20) s)) = body_in_lem ∙ rw n in
      rw a (ap (body_judged (kind here)) (sym b))

  pub chunk_other : negative 4 (size_field here) ≡ true → (size_field here ≡ minus_one → ⊥) → Err Fault.Size ≡ judged_of here
  chunk_other n d =
      let a : size_allowed here ≡ false = rw (n, ne_eqb (size_field here) minus_one d) in
      rw a

  pub chunk_silent : negative 4 (size_field here) ≡ true → tells_end (kind here) ≡ false → Err Fault.Size ≡ judged_of here
  chunk_silent n t =
      let a : size_allowed here ≡ false = rw (n, t) (and-false (eqb (size_field here) minus_one)) in
      rw a

  -- ---- where it ends

  module _ (l : at + 20 ≤ length s) where
    sized : (n : ℕ) → length here.body ≡ n → at + 20 + n ≡ at + size here
    sized n e = omega (arith, head_in s at l)

    pub ends-stated : Stated s at → negative 4 (size_field here) ≡ false → at + 20 + size_field here ≡ at + size here
    ends-stated h n =
        let f = stated-fits h n in
        let b : here.body ≡ take (size_field here) (drop (at + 20) s) = body_in_lem ∙ rw n in
        sized (size_field here) (ap length b ∙ length-take-le (size_field here) (drop (at + 20) s) (omega (arith, length-drop (at + 20) s)))

    pub ends-told : (n : ℕ) → negative 4 (size_field here) ≡ true → Ends (behind_all (parts (kind here))) (drop (at + 20) s) 0 (Some n) → at + 20 + n ≡ at + size here
    ends-told n g h =
        let t = drop (at + 20) s in
        let w = h.within.1 in
        let e : length t - length (drop n t) ≡ n = omega (arith, length-drop n t) in
        let b : here.body ≡ take n t = body_in_lem ∙ rw (g, h.is, e) in
        sized n (ap length b ∙ length-take-le n t w)

    pub ends_nowhere : negative 4 (size_field here) ≡ true → Ends (behind_all (parts (kind here))) (drop (at + 20) s) 0 None → length s ≡ at + size here
    ends_nowhere g h =
        let b : here.body ≡ drop (at + 20) s = body_in_lem ∙ rw (g, h.is) in
        omega (arith, ap length b, length-drop (at + 20) s, sized (length here.body) refl)
