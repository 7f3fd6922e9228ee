-- A refusal's place lies in the Caligari file: by the walk, whatever the bytes are.
use mathlib.Core.Path.{ap}
use Prim.Native.Nat.{ℕ, zero, suc, ◌+◌, ◌≤◌}
use native.Mathlib.Omega.{arith}
use mathlib.Core.Bool.{Bool, true, false}
use mathlib.Core.List.{List, [], ◌∷◌}
use lib.ListN.{length, take, drop, length-append, length-take, length-drop}
use borrow.Author.Tests.{leb-true}
use borrow.Author.Rules.{rules}
use Rattle.shared_words.specs.Conditions.{refused, accepted}
use Rattle.shared_words.specs.Refusals.{limit}
use Rattle.cob_rules.specs.declared.Kind.{Kind}
use Rattle.cob_rules.specs.Fields.{field}
use Rattle.cob_rules.specs.Kinds.{kind_of, is_end}
use Rattle.cob_rules.specs.Body.{body_at}
use Rattle.cob_rules.specs.Layout.{Chunk, kind, size}
use Rattle.cob_rules.specs.Walk.{file_conditions, chunk_conditions, end_conditions, Verdict, with_chunk, chunk_at, go_on, step, run, walk, verdict}
use Rattle.cob_rules.proofs.Body.{body-whole}
use Rattle.claim_numbers.proofs.Conditions.{PlacedTo, placed}

-- ---- a chunk

body-short : (k : Kind) (n : ℕ) (s : List ℕ) → length (body_at k n s) ≤ length s
body-short k n s = let b = body_at k n s in omega (arith, ap length (body-whole k n s), length-append b (drop (length b) s))

chunk-short : (s : List ℕ) → size (chunk_at s) ≤ length s
unfolding chunk_at
chunk-short s =
    let head = take 20 s in
    omega (arith, length-take 20 s, length-drop 20 s, body-short (kind_of (take 8 head)) (field 16 4 head) (drop 20 s))

-- ---- the walk, where it ends by m

module _ (m : ℕ) where
  with_to : (c : Chunk) (v : Verdict) → PlacedTo m v → PlacedTo m (with_chunk c v)
  with_to c (refused r) h = h
  with_to c (accepted l) h = tt

  module _ (go : List Chunk → ℕ → List ℕ → Verdict) (w : (seen : List Chunk) (o : ℕ) (s : List ℕ) → o + length s ≤ m → PlacedTo m (go seen o s)) where
    on_to : (seen : List Chunk) (o : ℕ) (c : Chunk) (left : List ℕ) (e : Bool) → o + size c + length left ≤ m → PlacedTo m (go_on go seen o c left e)
    on_to seen o c left true l = placed m (end_conditions (o + size c) left) (accepted record { chunks = []; last = c }) (omega arith, tt) (λ _. tt)
    on_to seen o c left false l = with_to c (go (c ∷ seen) (o + size c) left) (w (c ∷ seen) (o + size c) left l)

    step_to : (seen : List Chunk) (o : ℕ) (s : List ℕ) (c : Chunk) → o + length s ≤ m → size c ≤ length s → PlacedTo m (step go seen o s c)
    step_to seen o s c l k =
        let left = drop (size c) s in
        placed m (chunk_conditions seen o (length s) c) (go_on go seen o c left (is_end (kind c))) (search rules)
        (λ _. on_to seen o c left (is_end (kind c)) (omega (arith, length-drop (size c) s)))

  run_to : (k : ℕ) (seen : List Chunk) (o : ℕ) (s : List ℕ) → o + length s ≤ m → PlacedTo m (run k seen o s)
  run_to zero seen o s l = omega arith
  run_to (suc k) seen o [] l = omega arith
  run_to (suc k) seen o (b ∷ bs) l = step_to (run k) (run_to k) seen o (b ∷ bs) (chunk_at (b ∷ bs)) l (chunk-short (b ∷ bs))

-- ---- the file

pub verdict_to : (s : List ℕ) → PlacedTo limit (verdict s)
unfolding verdict walk
verdict_to s =
    let left = drop 32 s in
    placed limit (file_conditions s) (walk [] 32 left) (search rules)
    (λ t. run_to limit (suc (length left)) [] 32 left (omega (arith, leb-true (length s) limit t.0, length-drop 32 s)))
