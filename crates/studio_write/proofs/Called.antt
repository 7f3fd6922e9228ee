-- The call by what was judged.
use Rattle.shared_words.specs.declared.Refusal.{Refusal}
use Rattle.std.specs.Prelude.{Result, Ok, Err}
use mathlib.Core.Path.{◌≡◌, refl, ap}
use Prim.Native.Nat.{ℕ}
use mathlib.Core.List.{List}
use lib.Ieee.{Float}
use lib.ListN.{length}
use Rattle.studio_write_judge.specs.Judged.{judged}
use Rattle.studio_write_bytes.specs.Bare.{bare_bytes}
use Rattle.studio_write.specs.Write.{writing, write_call}

pub called : (name : List ℕ) (vertices : List Float) (corners out : List ℕ) (w : Result ℕ Refusal) → judged name vertices corners (length out) ≡ w →
    write_call name vertices corners out ≡ writing (bare_bytes name vertices corners) out w
unfolding write_call
called name vertices corners out w e = ap (writing (bare_bytes name vertices corners) out) e

pub answered : (name : List ℕ) (vertices : List Float) (corners out : List ℕ) → (write_call name vertices corners out).answer ≡ judged name vertices corners (length out)
unfolding write_call
answered name vertices corners out = go (judged name vertices corners (length out))
  where
    go : (w : Result ℕ Refusal) → (writing (bare_bytes name vertices corners) out w).answer ≡ w
    go (Err r) = refl
    go (Ok size) = refl
