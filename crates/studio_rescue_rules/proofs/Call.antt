-- A refusal of the call leaves what is lent as it was.
use mathlib.Core.Path.{◌≡◌, ap}
use Prim.Native.Nat.{ℕ}
use native.Mathlib.Omega.{arith}
use mathlib.Core.Bool.{Bool, true, false, cond}
use lib.Dec.{leb}
use lib.ListN.{length}
use Rattle.shared_words.specs.declared.Refusal.{Refusal}
use Rattle.shared_words.specs.declared.Refusal.TheVariants.{NoRoom}
use Rattle.shared_words.specs.Encodings.{Encoding}
use Rattle.shared_words.specs.Effects.{leaving}
use Rattle.studio_rescue_rules.specs.declared.Mended.{Mended}
use Rattle.studio_rescue_rules.specs.Rescue.{Cut, Rescued, beyond, saved, rescue}
use Rattle.studio_rescue_rules.specs.Call.{Lent, call_of, rescue_call, RefusalLeaves, mended_answer}
use Rattle.std.specs.Prelude.{Result, Err}

module _ {A : Type 0} (rows : Lent A) (r : Refusal) where
  leaves : (q : Refusal) → ◌≡◌ {A = Result Mended Refusal} (Err q) (Err r) → leaving {A = Result Mended Refusal} (Err q) rows ≡ leaving (Err r) rows
  leaves q k = ap (λ (x : Result Mended Refusal). leaving x rows) k

  by-room : (b₁ b₂ : Bool) (m n k l : ℕ) (new : Lent A) →
      (cond b₁ (cond b₂ (leaving (mended_answer m n) new) (leaving (Err (NoRoom k)) rows)) (leaving (Err (NoRoom l)) rows)).answer ≡ Err r →
      cond b₁ (cond b₂ (leaving (mended_answer m n) new) (leaving (Err (NoRoom k)) rows)) (leaving (Err (NoRoom l)) rows) ≡ leaving (Err r) rows
  by-room true true m n k l new h = let z : ◌≡◌ {A = ℕ} 0 1 = cc in absurd (omega arith)
  by-room true false m n k l new h = leaves (NoRoom k) h
  by-room false b₂ m n k l new h = leaves (NoRoom l) h

  by_answer : (e : Encoding Cut A) (x : Rescued) → (call_of e rows x).answer ≡ Err r → call_of e rows x ≡ leaving (Err r) rows
  by_answer e (beyond q) h = leaves q h
  by_answer e (saved s cuts) h = by-room (leb (length cuts) (e.room (length rows.cuts))) (leb (length s) (length rows.out)) _ _ _ _ _ h

pub refusal_leaves : RefusalLeaves
unfolding rescue_call
refusal_leaves A e s rows r = by_answer rows r e (rescue s)
