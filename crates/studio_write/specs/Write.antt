-- What the writer answers and leaves in the lent buffer, for every name, rows and buffer: docs/FORMAT.md,
-- "What the writer writes". The contract of `write` is an equation with `write_call`.
use Rattle.shared_words.specs.declared.Refusal.{Refusal}
use Rattle.std.specs.Prelude.{ℕ, List, Float, length, Result, Ok, Err}
use Rattle.shared_words.specs.Effects.{Effect, leaving, filled}
use Rattle.studio_write_judge.specs.Judged.{judged}
use Rattle.studio_write_bytes.specs.Bare.{bare_bytes}

-- the buffer afterwards: a refusal leaves it untouched, and bytes after the size stay
abbrev pub writing : List ℕ → List ℕ → Result ℕ Refusal → Effect (Result ℕ Refusal) (List ℕ)
writing file out (Err r) = leaving (Err r) out
writing file out (Ok size) = leaving (Ok size) (filled file out)

-- THE CALL
unfoldable pub write_call : List ℕ → List Float → List ℕ → List ℕ → Effect (Result ℕ Refusal) (List ℕ)
write_call name vertices corners out = writing (bare_bytes name vertices corners) out (judged name vertices corners (length out))
