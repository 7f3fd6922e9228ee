-- Each call answers its verdict's refusal, and that is 1 exactly where the file is too long.
use Rattle.std.specs.Prelude.{Err}
use mathlib.Core.Path.{◌≡◌, refl, sym, ap, ◌∙◌}
use mathlib.Core.Logic.{◌↔◌, ◌⊎◌, inl, inr}
use mathlib.Core.Bool.{Bool, true, false, cond}
use mathlib.Core.List.{List, [], ◌∷◌}
use Prim.Native.Nat.{ℕ, ◌+◌, ◌<◌}
use native.Mathlib.Omega.{arith}
use lib.Dec.{leb}
use lib.ListN.{length, drop}
use borrow.Author.Rules.{rules}
use Rattle.shared_words.specs.declared.Refusal.TheVariants.{TooLong, NoRoom}
use Rattle.shared_words.specs.Conditions.{Answer, refused, accepted}
use Rattle.shared_words.specs.Effects.{leaving, filled}
use Rattle.shared_words.specs.Encodings.{Encoding}
use Rattle.shared_words.specs.Refusals.{limit}
use Rattle.studio_rules.specs.Layout.{Run, size}
use Rattle.studio_rules.specs.Walk.{walk, version_in, top, figure_at, verdict}
use Rattle.studio_rules.specs.Calls.{check_of, check_call}
use Rattle.studio_scene.specs.Passed.{passed}
use Rattle.studio_rescue_rules.specs.Rescue.{version_of, scene, Cut, Rescued, beyond, saved, mended, rescue_of, rescue}
use Rattle.studio_rescue_rules.specs.Call.{Lent, call_of, rescue_call, mended_answer}
use Rattle.studio_rescue_rules.specs.Theorems.{FaultInScene}
use Rattle.studio_rescue_rules.proofs.First.{first-fault}
use Rattle.cob_rules.specs.Walk.{Verdict, walk as cob_walk, verdict as cob_verdict}
use Rattle.cob_rules.specs.Calls.{check_of as cob_check_of, check_call as cob_check_call}
use Rattle.c4d_rules.specs.Layout.{Layout}
use Rattle.c4d_rules.specs.Rules.{start}
use Rattle.c4d_rules.specs.Read.{walk as c4d_walk}
use Rattle.c4d_rules.specs.Walk.{chunk_grammar, verdict as c4d_verdict}
use Rattle.c4d_rules.specs.Calls.{check_of as c4d_check_of, c4d_check_call}
use Rattle.claim_limits.specs.TooLong.{TooLongExactly}
use Rattle.claim_limits.proofs.Other.{not-long, NotLong, never-long, file_exactly}
use Rattle.claim_limits.proofs.Studio.{ended-not, walk-not}
use Rattle.claim_limits.proofs.Caligari.{walk-not as cob-walk-not}
use Rattle.claim_limits.proofs.Cinema.{walk-not as c4d-walk-not, chunk-reads}

-- ---- the verdicts

studio_exactly : (s : List ℕ) → (verdict s ≡ refused TooLong) ↔ (limit < length s)
unfolding verdict
studio_exactly s =
    let q = top (version_in (drop 6 s)) in
    file_exactly s _ (figure_at q (drop 6 s)) (search rules) (ended-not q 0 (walk q [] 6 (drop 6 s)) (walk-not q [] 6 (drop 6 s)))

cob_exactly : (s : List ℕ) → (cob_verdict s ≡ refused TooLong) ↔ (limit < length s)
unfolding cob_verdict
cob_exactly s = file_exactly s _ (cob_walk [] 32 (drop 32 s)) (search rules) (cob-walk-not [] 32 (drop 32 s))

c4d_exactly : (s : List ℕ) → (c4d_verdict s ≡ refused TooLong) ↔ (limit < length s)
unfolding c4d_verdict
c4d_exactly s = file_exactly s _ (c4d_walk chunk_grammar start 12 (drop 12 s)) (search rules) (c4d-walk-not chunk_grammar chunk-reads start 12 (drop 12 s))

-- ---- the rescue: what it answers is the verdict's refusal, or one of a walk

rescue-there : (s : List ℕ) → (mended s ≡ verdict s) ⊎ FaultInScene s → limit < length s → rescue s ≡ beyond TooLong
unfolding rescue
rescue-there s (inl e) l = ap (rescue_of s) (e ∙ (studio_exactly s).1 l)
rescue-there s (inr w) l =
    let inner = walk (scene (version_of s)) [] (6 + size w.before + 6) w.body in
    let a : refused w.fault ≡ refused TooLong = sym w.answered ∙ (studio_exactly s).1 l in
    absurd (never-long inner (walk-not (scene (version_of s)) [] (6 + size w.before + 6) w.body) (w.refuses ∙ a))

rescue-back : (s : List ℕ) → (mended s ≡ verdict s) ⊎ FaultInScene s → rescue s ≡ beyond TooLong → limit < length s
unfolding rescue
rescue-back s (inl e) h = go (verdict s) refl (ap (rescue_of s) (sym e) ∙ h)
  where
    go : (a : Answer Run) → verdict s ≡ a → rescue_of s a ≡ beyond TooLong → limit < length s
    go (refused r) v q = let z : r ≡ TooLong = cc in (studio_exactly s).0 (v ∙ ap refused z)
    go (accepted kids) v q = let z : ◌≡◌ {A = ℕ} 0 1 = cc in absurd (omega arith)
rescue-back s (inr w) h =
    let seen : List ℕ = 0x3D3D ∷ passed [] w.before in
    let o : ℕ = 6 + size w.before + (6 + length w.body) in
    absurd (go (walk (top (version_of s)) seen o w.back) refl (walk-not (top (version_of s)) seen o w.back))
  where
    go : (a : Answer Run) → walk (top (version_of s)) (0x3D3D ∷ passed [] w.before) (6 + size w.before + (6 + length w.body)) w.back ≡ a → NotLong a → ⊥
    go (refused r) e n = let q : beyond r ≡ beyond TooLong = sym (w.goes_on r e) ∙ h in let z : r ≡ TooLong = cc in not-long r n z
    go (accepted after) e n = let q = sym (w.saves after e).1 ∙ h in let z : ◌≡◌ {A = ℕ} 0 1 = cc in omega arith

module _ {A : Type 0} (e : Encoding Cut A) (rows : Lent A) where
  called : (x : Rescued) → (call_of e rows x).answer ≡ Err TooLong → x ≡ beyond TooLong
  called (beyond r) h = let z : r ≡ TooLong = cc in ap beyond z
  called (saved file cuts) h = go (leb (length cuts) (e.room (length rows.cuts))) (leb (length file) (length rows.out)) h
    where
      go : (a b : Bool) → (cond a (cond b (leaving (mended_answer (length cuts) (length file)) record { cuts = filled (e.encode cuts) rows.cuts; out = filled file rows.out })
          (leaving (Err (NoRoom (length file))) rows)) (leaving (Err (NoRoom (length cuts))) rows)).answer ≡ Err TooLong → saved file cuts ≡ beyond TooLong
      go true true q = let z : ◌≡◌ {A = ℕ} 0 1 = cc in absurd (omega arith)
      go true false q = let z : ◌≡◌ {A = ℕ} 0 1 = cc in absurd (omega arith)
      go false b q = let z : ◌≡◌ {A = ℕ} 0 1 = cc in absurd (omega arith)

-- ---- the calls

checked : (a : Answer Run) → check_of a ≡ Err TooLong → a ≡ refused TooLong
checked (refused r) h = let z : r ≡ TooLong = cc in ap refused z
checked (accepted kids) h = let z : ◌≡◌ {A = ℕ} 0 1 = cc in absurd (omega arith)

cob_checked : (a : Verdict) → cob_check_of a ≡ Err TooLong → a ≡ refused TooLong
cob_checked (refused r) h = let z : r ≡ TooLong = cc in ap refused z
cob_checked (accepted l) h = let z : ◌≡◌ {A = ℕ} 0 1 = cc in absurd (omega arith)

c4d_checked : (a : Answer Layout) → c4d_check_of a ≡ Err TooLong → a ≡ refused TooLong
c4d_checked (refused r) h = let z : r ≡ TooLong = cc in ap refused z
c4d_checked (accepted l) h = let z : ◌≡◌ {A = ℕ} 0 1 = cc in absurd (omega arith)

pub too_long_exactly : TooLongExactly
unfolding check_call rescue_call cob_check_call c4d_check_call
too_long_exactly = record {
  figure = λ s. (λ h. (studio_exactly s).0 (checked (verdict s) h), λ l. ap check_of ((studio_exactly s).1 l));
  rescue = λ e s b rows. (
    λ h. rescue-back s (first-fault s b) (called e rows (rescue s) h),
    λ l. ap (λ (x : Rescued). (call_of e rows x).answer) (rescue-there s (first-fault s b) l),
  );
  caligari = λ s. (λ h. (cob_exactly s).0 (cob_checked (cob_verdict s) h), λ l. ap cob_check_of ((cob_exactly s).1 l));
  cinema = λ s. (λ h. (c4d_exactly s).0 (c4d_checked (c4d_verdict s) h), λ l. ap c4d_check_of ((c4d_exactly s).1 l));
}
