-- A refusal's place lies in the Cinema 4D file: by the walk, whatever is read and whatever the bytes are.
use Prim.Native.Nat.{ℕ, zero, suc, ◌+◌, ◌≤◌}
use native.Mathlib.Omega.{arith}
use mathlib.Core.Bool.{false}
use mathlib.Core.List.{List, [], ◌∷◌}
use mathlib.Core.Option.{Option, none}
use lib.ListN.{length, take, drop, length-take, length-drop}
use borrow.Author.Tests.{leb-true}
use borrow.Author.Rules.{rules}
use Rattle.shared_words.specs.Conditions.{Answer, refused, accepted}
use Rattle.shared_words.specs.Refusals.{limit}
use Rattle.c4d_rules.specs.Blocks.{Block, width, told, size}
use Rattle.c4d_rules.specs.Kinds.{Kind, Platform, Materials, Objects, Other}
use Rattle.c4d_rules.specs.Rules.{Before, start}
use Rattle.c4d_rules.specs.Read.{Grammar, block_at, block_conditions, with_more, taken, run, walk}
use Rattle.c4d_rules.specs.Walk.{material_conditions, material_grammar, object_conditions, object_grammar, chunk_conditions, with_subs, look_inside, block_kind, chunk_grammar, file_conditions, verdict}
use Rattle.claim_numbers.proofs.Conditions.{PlacesTo, PlacedTo, placed}

-- ---- things one after another: the places are up to m, where those of a block that lies below m, and of the end, are

record Below {S A : Type 0} (G : Grammar S A) (m : ℕ) : Type 0 where
  looked : (s : S) (o : ℕ) (b : Block) → o + (width G.header + length b.body) ≤ m → PlacedTo m (G.look s o b)
  closed : (s : S) → PlacesTo m (G.close s)

module _ {S A : Type 0} (G : Grammar S A) (m : ℕ) (w : Below G m) where
  more_to : (a : A) (x : Answer (List A)) → PlacedTo m x → PlacedTo m (with_more a x)
  more_to a (refused r) h = h
  more_to a (accepted rest) h = tt

  taken_to : (go : S → ℕ → List ℕ → Answer (List A)) (s : S) (o : ℕ) (left : List ℕ) → ((t : S) → PlacedTo m (go t o left)) → (a : Answer A) → PlacedTo m a → PlacedTo m (taken G go s o left a)
  taken_to go s o left h (refused r) l = l
  taken_to go s o left h (accepted a) l = more_to a (go (G.after s a) o left) (h (G.after s a))

  run_to : (k : ℕ) (s : S) (o : ℕ) (bs : List ℕ) → o + length bs ≤ m → PlacedTo m (run G k s o bs)
  unfolding block_at
  run_to zero s o bs l = omega arith
  run_to (suc k) s o [] l = placed m (G.close s) (accepted []) (w.closed s) (λ _. tt)
  run_to (suc k) s o (c ∷ cs) l =
      let h = G.header in
      let bs : List ℕ = c ∷ cs in
      let b : Block = block_at h bs in
      let left = drop (size b) bs in
      let n₁ = length-take (width h) bs in
      let n₂ = length-take (told h (take (width h) bs)) (drop (width h) bs) in
      let n₃ = length-drop (width h) bs in
      let n₄ = length-drop (size b) bs in
      let rest : (t : S) → PlacedTo m (run G k t (o + size b) left) = λ t. run_to k t (o + size b) left (omega arith) in
      placed m (block_conditions h o (length bs) b) (taken G (run G k) s (o + size b) left (G.look s o b)) (search rules)
      (λ t. taken_to (run G k) s (o + size b) left rest (G.look s o b) (w.looked s o b (omega (arith, leb-true (width h) (length bs) t.0))))

  walk_to : (s : S) (o : ℕ) (bs : List ℕ) → o + length bs ≤ m → PlacedTo m (walk G s o bs)
  unfolding walk
  walk_to s o bs l = run_to (suc (length bs)) s o bs l

-- ---- MAT4 and OBJ5, which stand at `at`

material-below : (m at : ℕ) → at ≤ m → Below (material_grammar at) m
material-below m at l = record {
  looked = λ ended o b k. placed m (material_conditions ended o) (accepted b) (search rules) (λ _. tt);
  closed = λ ended. (l, tt);
}

object-below : (last : Option ℕ) (m at : ℕ) → at ≤ m → Below (object_grammar last at) m
object-below last m at l = record {
  looked = λ held o b k. placed m (object_conditions last held o b) (accepted b) (search rules) (λ _. tt);
  closed = λ held. (l, tt);
}

-- ---- chunks

subs_to : (m : ℕ) (head : List ℕ) (a : Answer (List Block)) → PlacedTo m a → PlacedTo m (with_subs head a)
subs_to m head (refused r) h = h
subs_to m head (accepted bs) h = tt

inside_to : (m : ℕ) (p : Before) (o : ℕ) (b : Block) (k : Kind) → o + (8 + length b.body) ≤ m → PlacedTo m (look_inside p o b k)
inside_to m p o b Platform l = tt
inside_to m p o b Materials l =
    let G = material_grammar o in
    subs_to m b.head (walk G false (o + 8) b.body) (walk_to G m (material-below m o (omega arith)) false (o + 8) b.body (omega arith))
inside_to m p o b Objects l =
    let G = object_grammar p.last o in
    subs_to m b.head (walk G none (o + 8) b.body) (walk_to G m (object-below p.last m o (omega arith)) none (o + 8) b.body (omega arith))
inside_to m p o b Other l = tt

chunk-below : (m : ℕ) → Below chunk_grammar m
chunk-below m = record {
  looked = λ p o b l. placed m (chunk_conditions p o (block_kind b)) (look_inside p o b (block_kind b)) (search rules) (λ _. inside_to m p o b (block_kind b) l);
  closed = λ p. tt;
}

-- ---- the file

pub verdict_to : (s : List ℕ) → PlacedTo limit (verdict s)
unfolding verdict
verdict_to s =
    let left = drop 12 s in
    placed limit (file_conditions s) (walk chunk_grammar start 12 left) (search rules)
    (λ t. walk_to chunk_grammar limit (chunk-below limit) start 12 left (omega (arith, leb-true (length s) limit t.0, length-drop 12 s)))
