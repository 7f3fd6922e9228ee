-- One child: what its run of one comes to.
use mathlib.Core.Path.{◌≡◌, refl, subst}
use Prim.Native.Nat.{ℕ, ◌+◌, ◌-◌, ◌≤◌}
use native.Mathlib.Omega.{arith}
use mathlib.Core.List.{List, []}
use lib.Dec.{leb}
use lib.ListN.{length}
use lib.Seq.{slice}
use Rattle.shared_words.specs.declared.Refusal.{Refusal}
use Rattle.shared_words.specs.Refusals.{number_of}
use Rattle.shared_words.specs.Bytes.{Bytes}
use Rattle.shared_words.specs.Conditions.{Answer, refused, accepted}
use Rattle.studio_rules.specs.Layout.{Run}
use Rattle.studio_rules.specs.Rules.{Parent}
use Rattle.studio_rules.specs.Walk.{walk, top}
use Rattle.studio_rules.proofs.Rows.{scene-listed}
use Rattle.studio_row.specs.Packed.{row_of}
use Rattle.studio_marks.specs.Marks.{no_marks, RuleIs}
use Rattle.studio_head.specs.Contexts.{Context}
use Rattle.studio_head.specs.Passes.{Passes}
use Rattle.studio_walk.specs.declared.Ran.{Ran}
use Rattle.studio_walk.specs.Runs.{RunIs, ran_to}
use Rattle.studio_walk.proofs.Contexts.{context_inside}
use Rattle.studio_walk.proofs.Chunks.{clash}
use Rattle.studio_walk.proofs.Runs.{run_ends}
use Rattle.studio_walk.proofs.Passing.{passed_over}
use Rattle.studio_rescue_rules.specs.Rescue.{scene}
use Rattle.studio_rescue_sift.specs.Children.{child_of}
use Rattle.std.specs.Prelude.{Result, Err, Option, Some, None}

pub scene_context : (v row : ℕ) → row ≡ row_of 0x3D3D → Context (scene v) [] row 0 no_marks
scene_context v row e = context_inside (top v) [] 0x3D3D [] row 0 scene-listed e record { is = refl; small = omega arith }

-- what the code found, said of the walk
pub run-of-one : (s : List ℕ) (v row at stop : ℕ) → row ≡ row_of 0x3D3D → (r : Result Ran Refusal) (ms : List ℕ) →
    ((p : Parent) (seen : List ℕ) → RuleIs p (leb 3 v) → Context p seen row 0 no_marks → RunIs stop 0 0 at no_marks (walk p seen at (slice at stop s)) r ms) →
    {r' : Result Ran Refusal} → r ≡ r' → RunIs stop 0 0 at no_marks (walk (scene v) [] at (slice at stop s)) r' ms
run-of-one s v row at stop e r ms h is = subst (λ z. RunIs stop 0 0 at no_marks (walk (scene v) [] at (slice at stop s)) z ms) is (h (scene v) [] refl (scene_context v row e))

module _ (at stop : ℕ) (ms : List ℕ) where
  pub child-cut : (a : Answer Run) (y : Refusal) (n : ℕ) → RunIs stop 0 0 at no_marks a (Err y) ms → n ≡ number_of y → Some n ≡ child_of a
  child-cut (refused x) y n h e = let z : y ≡ x = cc in rw (e, z)
  child-cut (accepted t) y n h e = let q = h.0 in absurd (clash (cc))

  pub child-kept : (a : Answer Run) (next n k : ℕ) → RunIs stop 0 0 at no_marks a (ran_to next n k) ms → ◌≡◌ {A = Option ℕ} None (child_of a)
  child-kept (refused x) next n k h = absurd (clash (cc))
  child-kept (accepted t) next n k h = refl

-- a child that is passed over
pub child-passed : (s : List ℕ) (v at stop : ℕ) → Bytes s → stop ≤ length s → Passes (scene v) [] s at stop stop → ◌≡◌ {A = Option ℕ} None (child_of (walk (scene v) [] at (slice at stop s)))
child-passed s v at stop b l h =
    let z : 0 + (stop - at) ≡ stop - at = omega arith in
    child-kept at stop no_marks (walk (scene v) [] at (slice at stop s)) stop 0 (stop - at)
    (passed_over (scene v) [] s stop 0 no_marks b l (ran_to stop 0 (stop - at)) no_marks at stop 0 h (rw z (run_ends (scene v) [] s stop stop 0 (stop - at) no_marks (omega arith))))
