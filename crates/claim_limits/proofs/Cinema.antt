-- Cinema 4D figures: nothing that is read is refused with 1, and each header takes four bytes at least.
use mathlib.Core.Bool.{false}
use mathlib.Core.List.{List, [], ◌∷◌}
use mathlib.Core.Option.{Option, none}
use Prim.Native.Nat.{ℕ, zero, suc, ◌+◌, ◌≤◌, ◌<◌}
use native.Mathlib.Omega.{arith}
use lib.ListN.{length, drop, length-take, length-drop}
use borrow.Author.Tests.{leb-true}
use borrow.Author.Rules.{rules}
use Rattle.shared_words.specs.Conditions.{Answer, refused, accepted}
use Rattle.c4d_rules.specs.Blocks.{Block, width, size}
use Rattle.c4d_rules.specs.Kinds.{Kind, Platform, Materials, Objects, Other as OtherKind}
use Rattle.c4d_rules.specs.Rules.{Before}
use Rattle.c4d_rules.specs.Read.{Grammar, block_at, block_conditions, with_more, taken, run, walk}
use Rattle.c4d_rules.specs.Walk.{material_conditions, material_grammar, object_conditions, object_grammar, chunk_conditions, with_subs, look_inside, block_kind, chunk_grammar}
use Rattle.claim_limits.proofs.Other.{NotLong, Others, unless_not}

-- ---- things one after another

pub record Reads {S A : Type 0} (G : Grammar S A) : Type 0 where
  pub wide : 1 ≤ width G.header
  pub looked : (s : S) (o : ℕ) (b : Block) → NotLong (G.look s o b)
  pub closed : (s : S) → Others (G.close s)

module _ {S A : Type 0} (G : Grammar S A) (w : Reads G) where
  more-not : (a : A) (x : Answer (List A)) → NotLong x → NotLong (with_more a x)
  more-not a (refused r) h = h
  more-not a (accepted rest) h = tt

  taken_not : (go : S → ℕ → List ℕ → Answer (List A)) (s : S) (o : ℕ) (left : List ℕ) → ((t : S) → NotLong (go t o left)) → (a : Answer A) → NotLong a → NotLong (taken G go s o left a)
  taken_not go s o left h (refused r) l = l
  taken_not go s o left h (accepted a) l = more-not a (go (G.after s a) o left) (h (G.after s a))

  block-long : (bs : List ℕ) → width G.header ≤ length bs → 1 ≤ size (block_at G.header bs)
  unfolding block_at
  block-long bs l = omega (arith, w.wide, length-take (width G.header) bs)

  run-not : (k : ℕ) (s : S) (o : ℕ) (bs : List ℕ) → length bs < k → NotLong (run G k s o bs)
  run-not zero s o bs h = absurd (omega arith)
  run-not (suc k) s o [] h = unless_not (G.close s) (accepted []) (w.closed s) (λ _. tt)
  run-not (suc k) s o (c ∷ cs) h =
      let bs : List ℕ = c ∷ cs in
      let b : Block = block_at G.header bs in
      let left = drop (size b) bs in
      unless_not (block_conditions G.header o (length bs) b) (taken G (run G k) s (o + size b) left (G.look s o b)) (search rules)
      (λ m. taken_not (run G k) s (o + size b) left
      (λ t. run-not k t (o + size b) left (omega (arith, block-long bs (leb-true (width G.header) (length bs) m.0), length-drop (size b) bs)))
      (G.look s o b) (w.looked s o b))

  pub walk-not : (s : S) (o : ℕ) (bs : List ℕ) → NotLong (walk G s o bs)
  unfolding walk
  walk-not s o bs = run-not (suc (length bs)) s o bs (omega arith)

-- ---- MAT4, OBJ5 and the chunks

material-reads : (at : ℕ) → Reads (material_grammar at)
material-reads at = record {
  wide = omega arith;
  looked = λ ended o b. unless_not (material_conditions ended o) (accepted b) (search rules) (λ _. tt);
  closed = λ ended. (omega arith, tt);
}

object-reads : (last : Option ℕ) (at : ℕ) → Reads (object_grammar last at)
object-reads last at = record {
  wide = omega arith;
  looked = λ held o b. unless_not (object_conditions last held o b) (accepted b) (search rules) (λ _. tt);
  closed = λ held. (omega arith, tt);
}

subs-not : (head : List ℕ) (a : Answer (List Block)) → NotLong a → NotLong (with_subs head a)
subs-not head (refused r) h = h
subs-not head (accepted bs) h = tt

inside-not : (p : Before) (o : ℕ) (b : Block) (k : Kind) → NotLong (look_inside p o b k)
inside-not p o b Platform = tt
inside-not p o b Materials = subs-not b.head (walk (material_grammar o) false (o + 8) b.body) (walk-not (material_grammar o) (material-reads o) false (o + 8) b.body)
inside-not p o b Objects = subs-not b.head (walk (object_grammar p.last o) none (o + 8) b.body) (walk-not (object_grammar p.last o) (object-reads p.last o) none (o + 8) b.body)
inside-not p o b OtherKind = tt

pub chunk-reads : Reads chunk_grammar
chunk-reads = record {
  wide = omega arith;
  looked = λ p o b. unless_not (chunk_conditions p o (block_kind b)) (look_inside p o b (block_kind b)) (search rules) (λ _. inside-not p o b (block_kind b));
  closed = λ p. tt;
}
