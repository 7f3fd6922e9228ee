-- What the judge of a stick answers as the one number for C. A pass is 1, which nothing else is: not a number that was never set, and
-- no refusal.
use Rattle.shared_words.specs.declared.Refusal.{Refusal}
use Rattle.std.specs.Prelude.{◌≡◌, ◌↔◌, ℕ, Result, Ok, Err}
use Rattle.c_codes.specs.Codes.{refusal_code}

abbrev pub one_or : Result Unit Refusal → ℕ
one_or (Ok tt) = 1
one_or (Err r) = refusal_code r

-- C IS TOLD of a pass by 1, and by nothing else.
abbrev pub PassIsOne : Type 0
PassIsOne = (j : Result Unit Refusal) → (one_or j ≡ 1) ↔ (j ≡ (Ok tt))
