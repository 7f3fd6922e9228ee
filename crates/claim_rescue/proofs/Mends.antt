-- The call is a fold of the rescue's answer: what is proved of the rescue holds of the line that was taken.
use Rattle.std.specs.Prelude.{Ok, Err}
use mathlib.Core.Path.{◌≡◌, refl, sym, ap, ◌∙◌}
use mathlib.Core.Logic.{◌⊎◌, inl, inr}
use mathlib.Core.Bool.{Bool, true, false}
use mathlib.Core.List.{List, []}
use Prim.Native.Nat.{ℕ}
use native.Mathlib.Omega.{arith}
use lib.Dec.{leb}
use lib.ListN.{length, drop}
use lib.Seq.{take_at}
use borrow.Author.Tests.{le-leb}
use Rattle.shared_words.specs.declared.Refusal.{Refusal}
use Rattle.shared_words.specs.declared.Refusal.TheVariants.{NoRoom}
use Rattle.shared_words.specs.Bytes.{Bytes}
use Rattle.shared_words.specs.Conditions.{Answer, refused, accepted}
use Rattle.shared_words.specs.Effects.{leaving, filled}
use Rattle.shared_words.specs.Encodings.{Encoding}
use Rattle.studio_rules.specs.declared.Counts.{Counts}
use Rattle.studio_rules.specs.Layout.{Run, offset_of}
use Rattle.studio_rules.specs.Walk.{verdict}
use Rattle.studio_rules.specs.Calls.{counts_of, check_of, check_call}
use Rattle.studio_rescue_rules.specs.Rescue.{Cut, Rescued, beyond, saved, mended, rescue_of, rescue}
use Rattle.studio_rescue_rules.specs.Call.{Lent, call_of, rescue_call, mended_answer}
use Rattle.studio_rescue_rules.specs.Theorems.{FaultInScene}
use Rattle.studio_rescue_rules.proofs.Theorems.{result-accepted, accepted_unchanged, cuts_restore, cuts_fail, around-kept}
use Rattle.studio_rescue_rules.proofs.First.{first-fault}
use Rattle.claim_rescue.specs.Mends.{Mends, GoesOn, RescueOfCall}
use Rattle.studio_rescue_rules.specs.declared.Mended.{Mended}

-- ---- the check's answer is the verdict's

was-accepted : (a : Answer Run) (counts : Counts) → check_of a ≡ Ok counts → (kids : Run) × (a ≡ accepted kids)
was-accepted (refused r) counts e = let z : ◌≡◌ {A = ℕ} 0 1 = cc in absurd (omega arith)
was-accepted (accepted kids) counts e = (kids, refl)

was-refused : (a : Answer Run) (r : Refusal) → check_of a ≡ Err r → a ≡ refused r
was-refused (refused q) r e = cc
was-refused (accepted kids) r e = let z : ◌≡◌ {A = ℕ} 0 1 = cc in absurd (omega arith)

-- ---- the line that was taken

module _ {A : Type 0} (e : Encoding Cut A) (rows : Lent A) (count size : ℕ) where
  pub record Taken (x : Rescued) : Type 0 where
    pub cuts : List Cut
    pub file : List ℕ
    pub is : x ≡ saved file cuts
    pub cuts-counted : length cuts ≡ count
    pub file-long : length file ≡ size
    pub leaves : (call_of e rows x).rows ≡ record { cuts = filled (e.encode cuts) rows.cuts; out = filled file rows.out }

  taken : (x : Rescued) → (call_of e rows x).answer ≡ mended_answer count size → Taken x
  taken (beyond r) h = let z : ◌≡◌ {A = ℕ} 0 1 = cc in absurd (omega arith)
  taken (saved file cuts) h = go (leb (length cuts) (e.room (length rows.cuts))) (leb (length file) (length rows.out)) refl refl
    where
      go : (a b : Bool) → leb (length cuts) (e.room (length rows.cuts)) ≡ a → leb (length file) (length rows.out) ≡ b → Taken (saved file cuts)
      go true true p q =
          let w : mended_answer (length cuts) (length file) ≡ mended_answer count size = rw (p, q) at h in
          let r : ◌≡◌ {A = Mended} record { cuts = length cuts; size = length file } record { cuts = count; size = size } = cc in
          record { cuts = cuts; file = file; is = refl; cuts-counted = ap (λ (x : Mended). x.cuts) r; file-long = ap (λ (x : Mended). x.size) r; leaves = rw (p, q) }
      go true false p q = let w : Err (NoRoom (length file)) ≡ mended_answer count size = rw (p, q) at h in let z : ◌≡◌ {A = ℕ} 0 1 = cc in absurd (omega arith)
      go false b p q = let w : Err (NoRoom (length cuts)) ≡ mended_answer count size = rw p at h in let z : ◌≡◌ {A = ℕ} 0 1 = cc in absurd (omega arith)

-- ---- the theorem

mends_as : {A : Type 0} (e : Encoding Cut A) (s : List ℕ) → Bytes s → (rows : Lent A) (count size : ℕ) → Taken e rows count size (rescue s) → Mends e s rows count size
unfolding rescue_call check_call
mends_as {A} e s b rows count size t =
    let a = result-accepted s b t.file t.cuts t.is in
    let kids : Run = a.0 in
    record {
      cuts = t.cuts;
      file = t.file;
      cuts-counted = t.cuts-counted;
      cuts_stand = ap (λ (r : Lent A). r.cuts) t.leaves;
      file-long = t.file-long;
      file-stands = ap (λ (r : Lent A). r.out) t.leaves;
      file-read = rw (ap (λ (r : Lent A). r.out) t.leaves) (take_at t.file (drop (length t.file) rows.out) size t.file-long);
      counts = counts_of kids;
      accepted = ap check_of a.1;
      scene-at = offset_of 0x3D3D 6 kids;
      restored = cuts_restore s b t.file t.cuts t.is kids a.1;
      failed = cuts_fail s b t.file t.cuts t.is kids a.1;
      around = around-kept s b t.file t.cuts t.is;
    }

same-call : {A : Type 0} (e : Encoding Cut A) (s : List ℕ) (rows : Lent A) (x : Rescued) → rescue s ≡ x → rescue_call e s rows ≡ call_of e rows x
unfolding rescue_call
same-call e s rows x h = ap (call_of e rows) h

rescue-same : (s : List ℕ) (r : Refusal) → mended s ≡ refused r → rescue s ≡ beyond r
unfolding rescue
rescue-same s r h = ap (rescue_of s) h

by-fault : {A : Type 0} (e : Encoding Cut A) (s : List ℕ) (rows : Lent A) (r : Refusal) → verdict s ≡ refused r → (mended s ≡ verdict s) ⊎ FaultInScene s →
    (rescue_call e s rows ≡ leaving (Err r) rows) ⊎ GoesOn e s rows r
by-fault e s rows r v (inl same) = inl (same-call e s rows (beyond r) (rescue-same s r (same ∙ v)))
by-fault e s rows r v (inr f) =
    let a = f.answered in
    inr record { scene = f; fault-is = cc; behind = λ q w. same-call e s rows (beyond q) (f.goes_on q w) }

pub rescue-of-call : RescueOfCall
unfolding check_call
rescue-of-call = record {
  mends = λ e s b rows count size h. mends_as e s b rows count size (taken e rows count size (rescue s) (sym (ap (λ x. x.answer) (same-call e s rows (rescue s) refl)) ∙ h));
  unchanged = λ e s b rows counts h l.
      let k = was-accepted (verdict s) counts h in
      same-call e s rows (saved s []) (accepted_unchanged s b k.0 k.1) ∙ rw (le-leb (length {A = Cut} []) (e.room (length rows.cuts)) (omega arith), le-leb (length s) (length rows.out) l);
  first-fault = λ e s b rows r h. by-fault e s rows r (was-refused (verdict s) r h) (first-fault s b);
}
