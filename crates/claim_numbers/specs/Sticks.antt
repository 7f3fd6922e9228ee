-- What C is told of a stick, whatever the slip, the names and the items are; and of the evidence for a file, whatever its bytes are.
use Rattle.shared_words.specs.declared.Refusal.{Refusal}
use Rattle.std.specs.Prelude.{◌≡◌, ◌⊎◌, List, ℕ, Result, Ok, Err}
use Rattle.shared_words.specs.declared.Refusal.TheVariants.{NoRoom}
use Rattle.shared_words.specs.Effects.{Effect}
use Rattle.stick_rules.specs.Records.{record_size, judge_call}
use Rattle.stick_evidence.specs.Evidence.{file_call, more_call}
use Rattle.c_stick.specs.Codes.{one_or}
use Rattle.claim_numbers.specs.Tells.{Tells, TellsCapped}

-- ---- by the answer of the call

abbrev pub JudgedTold : Result Unit Refusal → ℕ → Type 0
JudgedTold (Ok tt) n = n ≡ 1
JudgedTold (Err r) n = TellsCapped r n

-- 0; or that an item has another length, and what was lent is as it was
abbrev pub EvidenceTold : List ℕ → Effect ℕ (List ℕ) → Type 0
EvidenceTold item e = (e.answer ≡ 0) ⊎ (Tells (NoRoom record_size) e.answer × (e.rows ≡ item))

-- ---- every call

pub record SticksTold : Type 0 where
  pub judge : (slip names items : List ℕ) → JudgedTold (judge_call slip names items) (one_or (judge_call slip names items))
  pub file : (path : List ℕ) (size : ℕ) (s item : List ℕ) → EvidenceTold item (file_call path size s item)
  pub more : (part item : List ℕ) → EvidenceTold item (more_call part item)
