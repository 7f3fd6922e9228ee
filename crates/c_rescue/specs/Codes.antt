-- The answer of the rescue as one number. (That an answer proper is below 2^32, and so never taken for a refusal, is said in crate
-- claim_numbers.)
use Rattle.std.specs.Prelude.{ℕ, Result, Ok, Err}
use Rattle.studio_rescue_rules.specs.declared.Mended.{Mended}
use Rattle.c_codes.specs.Codes.{refusal_code}
use Rattle.shared_words.specs.declared.Refusal.{Refusal}

-- the count of cuts
abbrev pub cuts_or : Result Mended Refusal → ℕ
cuts_or (Ok m) = m.cuts
cuts_or (Err r) = refusal_code r
