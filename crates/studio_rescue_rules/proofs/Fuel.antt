-- The equations of the sifting and of the mending, in which no bound on their depth stands: what functions of a code are
-- proved against.
use mathlib.Core.Path.{◌≡◌, refl}
use Prim.Native.Nat.{ℕ, zero, suc, ◌+◌, ◌≤◌, ◌<◌}
use native.Mathlib.Omega.{arith}
use mathlib.Core.Bool.{Bool, true, false}
use mathlib.Core.List.{List, [], ◌∷◌}
use mathlib.Core.Option.{Option, none, some}
use lib.Dec.{eqb}
use lib.ListN.{length, drop, length-drop}
use borrow.Author.Tests.{leb-true}
use Rattle.shared_words.specs.declared.Refusal.{Refusal}
use Rattle.studio_rules.specs.Layout.{Run, end}
use Rattle.shared_words.specs.Conditions.{broken, Answer, accepted}
use Rattle.studio_rules.specs.Walk.{header_conditions, length_field, Step, stop, pass, enter, step, top}
use Rattle.shared_words.proofs.Conditions.{met}
use Rattle.studio_rules.proofs.Fuel.{Shorter, step-short}
use Rattle.studio_rescue_rules.specs.Rescue.{Sifted, nothing, sifted, sift_run, sift, around, mend_step, mend_run, mend}

module _ (v : ℕ) where
  -- ---- the sifting

  -- two that agree on all that is shorter go on alike
  sifted-same : (go go' : ℕ → List ℕ → Sifted) (o : ℕ) (s : List ℕ) (n : ℕ) → ((o : ℕ) (t : List ℕ) → length t < length s → go o t ≡ go' o t) → 0 < length s →
      (r : Option Refusal) → broken (header_conditions o s n) ≡ r → sifted v go o s n r ≡ sifted v go' o s n r
  sifted-same go go' o s n h l (some r) e = refl
  sifted-same go go' o s n h l none e = let l₂ : 6 ≤ n = leb-true _ _ (met _ e).1.0 in rw (h (o + n) (drop n s) (omega (arith, length-drop n s)))

  sift-same : (k k' o : ℕ) (s : List ℕ) → length s < k → length s < k' → sift_run v k o s ≡ sift_run v k' o s
  sift-same zero k' o s h h' = absurd (omega arith)
  sift-same (suc k) zero o s h h' = absurd (omega arith)
  sift-same (suc k) (suc k') o [] h h' = refl
  sift-same (suc k) (suc k') o (x ∷ s) h h' =
      sifted-same (sift_run v k) (sift_run v k') o (x ∷ s) (length_field (x ∷ s)) (λ o t l. sift-same k k' o t (omega arith) (omega arith)) (omega arith) _ refl

  pub sift_nil : (o : ℕ) → sift v o [] ≡ nothing
  unfolding sift
  sift_nil o = refl

  pub sift_cons : (o x : ℕ) (s : List ℕ) → sift v o (x ∷ s) ≡ sifted v (sift v) o (x ∷ s) (length_field (x ∷ s)) (broken (header_conditions o (x ∷ s) (length_field (x ∷ s))))
  unfolding sift
  sift_cons o x s =
      sifted-same (sift_run v (length (x ∷ s))) (sift v) o (x ∷ s) (length_field (x ∷ s)) (λ o t l. sift-same (length (x ∷ s)) (suc (length t)) o t l (omega arith)) (omega arith) _ refl

  -- ---- the mending

  around-same : (e : Bool) (go go' : List ℕ → ℕ → List ℕ → Answer Run) (seen : List ℕ) (o id : ℕ) (own kids rest : List ℕ) → ((seen : List ℕ) (o : ℕ) → go seen o rest ≡ go' seen o rest) →
      around v e go seen o id own kids rest ≡ around v e go' seen o id own kids rest
  around-same true go go' seen o id own kids rest h = refl
  around-same false go go' seen o id own kids rest h = rw (h (id ∷ seen) (o + (6 + length own + length kids)))

  step_same : (n : ℕ) (go go' : List ℕ → ℕ → List ℕ → Answer Run) → ((seen : List ℕ) (o : ℕ) (s : List ℕ) → length s < n → go seen o s ≡ go' seen o s) →
      (seen : List ℕ) (o : ℕ) (x : Step) → Shorter n x → mend_step v go seen o x ≡ mend_step v go' seen o x
  step_same n go go' h seen o (stop r) l = refl
  step_same n go go' h seen o (pass id body rest) l = rw (h seen (o + (6 + length body)) rest l)
  step_same n go go' h seen o (enter id own kids rest) l = around-same (eqb id 0x3D3D) go go' seen o id own kids rest (λ seen o. h seen o rest l.1)

  mend-same : (k k' : ℕ) (seen : List ℕ) (o : ℕ) (s : List ℕ) → length s < k → length s < k' → mend_run v k seen o s ≡ mend_run v k' seen o s
  mend-same zero k' seen o s h h' = absurd (omega arith)
  mend-same (suc k) zero seen o s h h' = absurd (omega arith)
  mend-same (suc k) (suc k') seen o [] h h' = refl
  mend-same (suc k) (suc k') seen o (x ∷ s) h h' =
      step_same (length (x ∷ s)) (mend_run v k) (mend_run v k') (λ seen o t l. mend-same k k' seen o t (omega arith) (omega arith)) seen o (step (top v) seen o (x ∷ s)) (step-short (top v) seen o (x ∷ s))

  pub mend_nil : (seen : List ℕ) (o : ℕ) → mend v seen o [] ≡ accepted end
  unfolding mend
  mend_nil seen o = refl

  pub mend_cons : (seen : List ℕ) (o x : ℕ) (s : List ℕ) → mend v seen o (x ∷ s) ≡ mend_step v (mend v) seen o (step (top v) seen o (x ∷ s))
  unfolding mend
  mend_cons seen o x s =
      step_same (length (x ∷ s)) (mend_run v (length (x ∷ s))) (mend v) (λ seen o t l. mend-same (length (x ∷ s)) (suc (length t)) seen o t l (omega arith)) seen o
      (step (top v) seen o (x ∷ s)) (step-short (top v) seen o (x ∷ s))
