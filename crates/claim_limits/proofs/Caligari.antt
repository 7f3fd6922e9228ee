-- Caligari figures: no chunk is refused with 1, and each takes 20 bytes at least.
use mathlib.Core.Bool.{Bool, true, false}
use mathlib.Core.List.{List, [], ◌∷◌}
use Prim.Native.Nat.{ℕ, zero, suc, ◌+◌, ◌≤◌, ◌<◌}
use native.Mathlib.Omega.{arith}
use lib.ListN.{length, drop, length-take, length-drop}
use borrow.Author.Tests.{leb-true}
use borrow.Author.Rules.{rules}
use Rattle.shared_words.specs.Conditions.{refused, accepted}
use Rattle.cob_rules.specs.Kinds.{is_end}
use Rattle.cob_rules.specs.Layout.{Chunk, kind, size}
use Rattle.cob_rules.specs.Walk.{chunk_conditions, end_conditions, Verdict, with_chunk, chunk_at, go_on, run, walk}
use Rattle.claim_limits.proofs.Other.{NotLong, unless_not}

with-not : (c : Chunk) (v : Verdict) → NotLong v → NotLong (with_chunk c v)
with-not c (refused r) h = h
with-not c (accepted l) h = tt

on-not : (go : List Chunk → ℕ → List ℕ → Verdict) (seen : List Chunk) (o : ℕ) (c : Chunk) (left : List ℕ) (e : Bool) →
    NotLong (go (c ∷ seen) (o + size c) left) → NotLong (go_on go seen o c left e)
on-not go seen o c left true h = unless_not (end_conditions (o + size c) left) (accepted record { chunks = []; last = c }) (search rules) (λ _. tt)
on-not go seen o c left false h = with-not c (go (c ∷ seen) (o + size c) left) h

-- a chunk has a whole header, where there are the bytes for one
chunk-long : (s : List ℕ) → 20 ≤ length s → 20 ≤ size (chunk_at s)
unfolding chunk_at
chunk-long s l = omega (arith, length-take 20 s)

run-not : (k : ℕ) (seen : List Chunk) (o : ℕ) (s : List ℕ) → length s < k → NotLong (run k seen o s)
run-not zero seen o s h = absurd (omega arith)
run-not (suc k) seen o [] h = omega arith
run-not (suc k) seen o (b ∷ bs) h =
    let s : List ℕ = b ∷ bs in
    let c = chunk_at s in
    let left = drop (size c) s in
    unless_not (chunk_conditions seen o (length s) c) (go_on (run k) seen o c left (is_end (kind c))) (search rules)
    (λ m. on-not (run k) seen o c left (is_end (kind c)) (run-not k (c ∷ seen) (o + size c) left (omega (arith, chunk-long s (leb-true 20 (length s) m.0), length-drop (size c) s))))

pub walk-not : (seen : List Chunk) (o : ℕ) (s : List ℕ) → NotLong (walk seen o s)
unfolding walk
walk-not seen o s = run-not (suc (length s)) seen o s (omega arith)
