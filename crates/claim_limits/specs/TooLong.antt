-- 1 IS ANSWERED EXACTLY WHEN A FILE IS TOO LONG. The walks of the rules count down a number that bounds their steps, and answer 1 where it
-- is spent: it never is, of any bytes.
use Rattle.std.specs.Prelude.{◌≡◌, ◌↔◌, List, ℕ, ◌<◌, length, Err}
use Rattle.shared_words.specs.declared.Refusal.TheVariants.{TooLong}
use Rattle.shared_words.specs.Bytes.{Bytes}
use Rattle.shared_words.specs.Encodings.{Encoding}
use Rattle.shared_words.specs.Refusals.{limit}
use Rattle.studio_rules.specs.Calls.{check_call}
use Rattle.studio_rescue_rules.specs.Rescue.{Cut}
use Rattle.studio_rescue_rules.specs.Call.{Lent, rescue_call}
use Rattle.cob_rules.specs.Calls.{check_call as cob_check_call}
use Rattle.c4d_rules.specs.Calls.{c4d_check_call}

pub record TooLongExactly : Type 1 where
  pub figure : (s : List ℕ) → (check_call s ≡ Err TooLong) ↔ (limit < length s)
  pub rescue : {A : Type 0} (e : Encoding Cut A) (s : List ℕ) → Bytes s → (rows : Lent A) →
      ((rescue_call e s rows).answer ≡ Err TooLong) ↔ (limit < length s)
  pub caligari : (s : List ℕ) → (cob_check_call s ≡ Err TooLong) ↔ (limit < length s)
  pub cinema : (s : List ℕ) → (c4d_check_call s ≡ Err TooLong) ↔ (limit < length s)
