-- The walk's equations, in which no bound on its steps stands: what a loop of the code is proved against.
-- What a step leaves to walk is shorter, so that any two bounds above the length give one answer.
use mathlib.Core.Path.{◌≡◌, refl}
use Prim.Native.Nat.{ℕ, zero, suc, ◌+◌, ◌<◌, ◌≤◌}
use native.Mathlib.Omega.{arith}
use mathlib.Core.List.{List, [], ◌∷◌}
use lib.ListN.{length, drop, length-take, length-drop}
use Rattle.c4d_rules.specs.Blocks.{Header, width, size}
use Rattle.shared_words.specs.Conditions.{broken, Answer, refused, accepted, unless}
use Rattle.c4d_rules.specs.Read.{Grammar, block_at, taken, step, run, walk}

block-some : (h : Header) (x : ℕ) (bs : List ℕ) → 1 ≤ width h → 1 ≤ size (block_at h (x ∷ bs))
unfolding block_at
block-some h x bs w = omega (arith, length-take (width h) (x ∷ bs))

module _ {S A : Type 0} (G : Grammar S A) (wide : 1 ≤ width G.header) where
  -- two walks that agree on all that is shorter go on alike
  taken-same : (go go' : S → ℕ → List ℕ → Answer (List A)) (s : S) (o : ℕ) (left : List ℕ) → ((s : S) (o : ℕ) → go s o left ≡ go' s o left) →
      (x : Answer A) → taken G go s o left x ≡ taken G go' s o left x
  taken-same go go' s o left h (refused r) = refl
  taken-same go go' s o left h (accepted a) = rw (h (G.after s a) o)

  step_same : (go go' : S → ℕ → List ℕ → Answer (List A)) (s : S) (o x : ℕ) (bs : List ℕ) →
      ((s : S) (o : ℕ) (t : List ℕ) → length t < length (x ∷ bs) → go s o t ≡ go' s o t) →
      step G go s o (x ∷ bs) (block_at G.header (x ∷ bs)) ≡ step G go' s o (x ∷ bs) (block_at G.header (x ∷ bs))
  step_same go go' s o x bs h =
      let b = block_at G.header (x ∷ bs) in
      let left = drop (size b) (x ∷ bs) in
      let short : length left < length (x ∷ bs) = omega (arith, length-drop (size b) (x ∷ bs), block-some G.header x bs wide) in
      rw (taken-same go go' s (o + size b) left (λ s o. h s o left short) (G.look s o b))

  run-same : (k k' : ℕ) (s : S) (o : ℕ) (bs : List ℕ) → length bs < k → length bs < k' → run G k s o bs ≡ run G k' s o bs
  run-same zero k' s o bs h h' = absurd (omega arith)
  run-same (suc k) zero s o bs h h' = absurd (omega arith)
  run-same (suc k) (suc k') s o [] h h' = refl
  run-same (suc k) (suc k') s o (x ∷ bs) h h' =
      step_same (run G k) (run G k') s o x bs (λ s o t l. run-same k k' s o t (omega arith) (omega arith))

  -- THE EQUATIONS
  pub walk_nil : (s : S) (o : ℕ) → walk G s o [] ≡ unless (broken (G.close s)) (accepted [])
  unfolding walk
  walk_nil s o = refl

  pub walk_cons : (s : S) (o x : ℕ) (bs : List ℕ) → walk G s o (x ∷ bs) ≡ step G (walk G) s o (x ∷ bs) (block_at G.header (x ∷ bs))
  unfolding walk
  walk_cons s o x bs =
      step_same (run G (length (x ∷ bs))) (walk G) s o x bs (λ s o t l. run-same (length (x ∷ bs)) (suc (length t)) s o t l (omega arith))
