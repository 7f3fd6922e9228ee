-- What C is told of slips and of the sums in them, whatever the bytes and the numbers are.
use Rattle.shared_words.specs.declared.Refusal.{Refusal}
use Rattle.std.specs.Prelude.{◌≡◌, List, ℕ, Result, Ok, Err}
use Rattle.shared_words.specs.Encodings.{Encoding}
use Rattle.slip_sums.specs.declared.Sum.{Sum}
use Rattle.slip_sums.specs.Passes.{sums_call, match_of}
use Rattle.slip_rules.specs.declared.Numbers.{Numbers}
use Rattle.slip_rules.specs.Calls.{slip_read_call, Given, slip_write_call}
use Rattle.c_codes.specs.Codes.{count_or}
use Rattle.c_sums.specs.Numbers.{sums_or, zero_or}
use Rattle.claim_numbers.specs.Tells.{Proper, Tells}

-- ---- by the answer of the call

abbrev pub SumsTold : Result Sum Refusal → ℕ → Type 0
SumsTold (Ok sums) n = Proper n
SumsTold (Err r) n = Tells r n

abbrev pub MatchTold : Result Unit Refusal → ℕ → Type 0
MatchTold (Ok tt) n = n ≡ 0
MatchTold (Err r) n = Tells r n

abbrev pub EntriesTold : Result ℕ Refusal → ℕ → Type 0
EntriesTold (Ok count) n = Proper n
EntriesTold (Err r) n = Tells r n

abbrev pub SizeTold : Result ℕ Refusal → ℕ → Type 0
SizeTold (Ok size) n = Proper n
SizeTold (Err r) n = Tells r n

-- ---- every call; a file or all its parts together against an entry are one definition

pub record SlipsTold : Type 0 where
  pub sums : (file : List ℕ) → SumsTold (sums_call file) (sums_or (sums_call file))
  pub matches : (sum : Sum) (l first second : ℕ) → MatchTold (match_of sum l first second) (zero_or (match_of sum l first second))
  pub read : (e : Encoding Numbers ℕ) (s row : List ℕ) → EntriesTold (slip_read_call e s row).answer (count_or (slip_read_call e s row).answer)
  pub write : (names : List ℕ) (given : Given) (out : List ℕ) →
      SizeTold (slip_write_call names given out).answer (count_or (slip_write_call names given out).answer)
