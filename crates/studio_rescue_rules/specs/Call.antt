-- What a call of the rescue answers and leaves in the lent rows: one for the cuts and one for the mended file.
-- NO ROOM comes last, that of the cuts before that of the file.
use Rattle.std.specs.Prelude.{Ok, ◌≡◌, ℕ, ◌/◌, cond, List, [], ◌∷◌, leb, length, Result, Err}
use Rattle.shared_words.specs.declared.Refusal.{Refusal}
use Rattle.shared_words.specs.declared.Refusal.TheVariants.{NoRoom}
use Rattle.shared_words.specs.Bytes.{packed}
use Rattle.shared_words.specs.Encodings.{Encoding}
use Rattle.shared_words.specs.Effects.{Effect, leaving, filled}
use Rattle.studio_rescue_rules.specs.declared.Mended.{Mended}
use Rattle.studio_rescue_rules.specs.Rescue.{Cut, Rescued, beyond, saved, rescue}

pub record Lent (A : Type 0) : Type 0 where
  pub cuts : List A
  pub out : List ℕ

-- the cuts as a flat row of numbers: of each its offset, refusal number and bytes removed
abbrev pub flat : List Cut → List ℕ
flat [] = []
flat (c ∷ cs) = c.at ∷ c.number ∷ length c.piece ∷ flat cs

-- four bytes a number
abbrev pub cut_bytes : Encoding Cut ℕ
cut_bytes = record { room = λ n. n / 12; encode = λ cs. packed 4 (flat cs) }

-- so many cuts, and so many bytes of the mended file
abbrev pub mended_answer : ℕ → ℕ → Result Mended Refusal
mended_answer cuts size = Ok record { cuts = cuts; size = size }

abbrev pub call_of : {A : Type 0} → Encoding Cut A → Lent A → Rescued → Effect (Result Mended Refusal) (Lent A)
call_of e rows (beyond r) = leaving (Err r) rows
call_of e rows (saved s cuts) =
    cond (leb (length cuts) (e.room (length rows.cuts)))
    (cond (leb (length s) (length rows.out))
    (leaving (mended_answer (length cuts) (length s)) record { cuts = filled (e.encode cuts) rows.cuts; out = filled s rows.out })
    (leaving (Err (NoRoom (length s))) rows))
    (leaving (Err (NoRoom (length cuts))) rows)

unfoldable pub rescue_call : {A : Type 0} → Encoding Cut A → List ℕ → Lent A → Effect (Result Mended Refusal) (Lent A)
rescue_call e s rows = call_of e rows (rescue s)

-- A REFUSAL LEAVES WHAT IS LENT as it was
abbrev pub RefusalLeaves : Type 1
RefusalLeaves =
    (A : Type 0) (e : Encoding Cut A) (s : List ℕ) (rows : Lent A) (r : Refusal) →
    (rescue_call e s rows).answer ≡ Err r → rescue_call e s rows ≡ leaving (Err r) rows
