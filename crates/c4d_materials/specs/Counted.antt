-- What the walk over a MAT4 leaves for the file: the number of its MAT_NEXTs.
use Rattle.std.specs.Prelude.{ℕ, ◌+◌, ◌≤◌, Result, Ok, Err, List}
use Rattle.shared_words.specs.Conditions.{Answer, refused, accepted}
use Rattle.c4d_rules.specs.Blocks.{Block}
use Rattle.c4d_rules.specs.Rules.{nexts}
use Rattle.shared_words.specs.declared.Refusal.{Refusal}

-- where n have been counted before
abbrev pub counted_from : ℕ → Answer (List Block) → Result ℕ Refusal
counted_from n (refused r) = Err r
counted_from n (accepted bs) = Ok (n + nexts bs)

-- there are no more than bytes
abbrev pub Few : ℕ → Result ℕ Refusal → Type 0
Few to (Err r) = Unit
Few to (Ok n) = n ≤ to
