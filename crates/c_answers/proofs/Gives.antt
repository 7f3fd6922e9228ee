-- A few numbers given out: there is room for them, or not.
use mathlib.Core.Path.{◌≡◌, ap}
use mathlib.Core.List.{List}
use Prim.Native.Nat.{ℕ, ◌/◌, ◌<◌, ◌≤◌}
use lib.ListN.{length}
use borrow.Author.Tests.{le-leb, lt-leb}
use Rattle.shared_words.specs.declared.Refusal.TheVariants.{NoRoom}
use Rattle.shared_words.specs.Bytes.{packed}
use Rattle.shared_words.specs.Effects.{Effect, leaving, filled}
use Rattle.c_codes.specs.Codes.{refusal_code}
use Rattle.c_answers.specs.Given.{given}

-- what a call answers and leaves, in two parts
pub parts : {x y : Effect ℕ (List ℕ)} → x ≡ y → (x.answer ≡ y.answer) × (x.rows ≡ y.rows)
parts e = (ap (λ (z : Effect ℕ (List ℕ)). z.answer) e, ap (λ (z : Effect ℕ (List ℕ)). z.rows) e)

module _ (ns out : List ℕ) where
  pub no_room : length out / 4 < length ns → leaving (refusal_code (NoRoom (length ns))) out ≡ given out ns
  no_room h = rw (lt-leb (length ns) (length out / 4) h)

  pub has_room : length ns ≤ length out / 4 → leaving (length ns) (filled (packed 4 ns) out) ≡ given out ns
  has_room h = rw (le-leb (length ns) (length out / 4) h)
