-- The walk's equations, in which no bound on its steps stands: what the code's loop is to be proved against.
-- What a step leaves to walk is shorter, so that any two bounds above the length give one answer.
use mathlib.Core.Path.{◌≡◌, refl}
use Prim.Native.Nat.{ℕ, zero, suc, ◌+◌, ◌<◌, ◌≤◌}
use native.Mathlib.Omega.{arith}
use mathlib.Core.Bool.{Bool, true, false}
use mathlib.Core.List.{List, [], ◌∷◌}
use mathlib.Core.Option.{Option, none, some}
use lib.ListN.{length, drop, length-drop}
use lib.Seq.{length-take-le}
use borrow.Author.Tests.{leb-true}
use Rattle.shared_words.specs.Conditions.{broken, refused, unless}
use Rattle.shared_words.proofs.Conditions.{met}
use Rattle.shared_words.specs.declared.Refusal.{Refusal}
use Rattle.shared_words.specs.declared.Refusal.TheVariants.{Missing}
use Rattle.cob_rules.specs.Kinds.{is_end}
use Rattle.cob_rules.specs.Layout.{Chunk, kind, size}
use Rattle.cob_rules.specs.Walk.{Verdict, chunk_conditions, chunk_at, go_on, step, run, walk}

abbrev Walk : Type 0
Walk = List Chunk → ℕ → List ℕ → Verdict

size-some : (s : List ℕ) → 20 ≤ length s → 20 ≤ size (chunk_at s)
unfolding chunk_at
size-some s l = omega (arith, length-take-le 20 s l)

-- two walks that agree on all that is shorter go on alike
module _ (go go' : Walk) (n : ℕ) (h : (seen : List Chunk) (o : ℕ) (s : List ℕ) → length s < n → go seen o s ≡ go' seen o s) where
  on_same : (seen : List Chunk) (o : ℕ) (c : Chunk) (left : List ℕ) → length left < n → (e : Bool) → go_on go seen o c left e ≡ go_on go' seen o c left e
  on_same seen o c left l true = refl
  on_same seen o c left l false = rw (h (c ∷ seen) (o + size c) left l)

  step_same : (seen : List Chunk) (o : ℕ) (s : List ℕ) → length s ≤ n → step go seen o s (chunk_at s) ≡ step go' seen o s (chunk_at s)
  step_same seen o s k = test (broken (chunk_conditions seen o (length s) (chunk_at s))) refl
    where
      test : (r : Option Refusal) → broken (chunk_conditions seen o (length s) (chunk_at s)) ≡ r →
          unless r (go_on go seen o (chunk_at s) (drop (size (chunk_at s)) s) (is_end (kind (chunk_at s)))) ≡
          unless r (go_on go' seen o (chunk_at s) (drop (size (chunk_at s)) s) (is_end (kind (chunk_at s))))
      test (some r) e = refl
      test none e =
          let l : 20 ≤ length s = leb-true _ _ (met _ e).0 in
          on_same seen o (chunk_at s) (drop (size (chunk_at s)) s) (omega (arith, size-some s l, length-drop (size (chunk_at s)) s)) (is_end (kind (chunk_at s)))

run-same : (k k' : ℕ) (seen : List Chunk) (o : ℕ) (s : List ℕ) → length s < k → length s < k' → run k seen o s ≡ run k' seen o s
run-same zero k' seen o s l l' = absurd (omega arith)
run-same (suc k) zero seen o s l l' = absurd (omega arith)
run-same (suc k) (suc k') seen o [] l l' = refl
run-same (suc k) (suc k') seen o (b ∷ s) l l' =
    step_same (run k) (run k') (length (b ∷ s)) (λ seen o t q. run-same k k' seen o t (omega arith) (omega arith)) seen o (b ∷ s) (omega arith)

-- THE EQUATIONS
pub walk_nil : (seen : List Chunk) (o : ℕ) → walk seen o [] ≡ refused (Missing o)
unfolding walk
walk_nil seen o = refl

pub walk_cons : (seen : List Chunk) (o b : ℕ) (s : List ℕ) → walk seen o (b ∷ s) ≡ step walk seen o (b ∷ s) (chunk_at (b ∷ s))
unfolding walk
walk_cons seen o b s =
    step_same (run (length (b ∷ s))) walk (length (b ∷ s)) (λ seen o t q. run-same (length (b ∷ s)) (suc (length t)) seen o t q (omega arith)) seen o (b ∷ s) (omega arith)
