-- The bytes of a number at a position.
use mathlib.Core.Path.{◌≡◌}
use Prim.Native.Nat.{ℕ, ◌+◌, ◌*◌, ◌≤◌}
use native.Mathlib.Omega.{arith}
use mathlib.Core.List.{List, [], ◌∷◌}
use lib.ListN.{length, take, drop, get_or, length-drop}
use lib.Seq.{get_or-drop}
use Rattle.shared_words.specs.Bytes.{value_be, be_at}
use Rattle.shared_numbers.proofs.At.{head_is}

two_is : (t : List ℕ) → 2 ≤ length t → value_be (take 2 t) ≡ 256 * get_or t 0 0 + get_or t 1 0
two_is [] l = absurd (omega arith)
two_is (a ∷ []) l = absurd (omega arith)
two_is (a ∷ b ∷ t) l = omega arith

four_is : (t : List ℕ) → 4 ≤ length t → value_be (take 4 t) ≡ 16777216 * get_or t 0 0 + 65536 * get_or t 1 0 + 256 * get_or t 2 0 + get_or t 3 0
four_is [] l = absurd (omega arith)
four_is (a ∷ []) l = absurd (omega arith)
four_is (a ∷ b ∷ []) l = absurd (omega arith)
four_is (a ∷ b ∷ c ∷ []) l = absurd (omega arith)
four_is (a ∷ b ∷ c ∷ d ∷ t) l = omega arith

pub word_is : (s : List ℕ) (at : ℕ) → at + 2 ≤ length s → be_at at 2 s ≡ 256 * get_or s at 0 + get_or s (at + 1) 0
word_is s at l = omega (arith, two_is (drop at s) (omega (arith, length-drop at s)), head_is s at, get_or-drop at s 1 0)

pub long-is : (s : List ℕ) (at : ℕ) → at + 4 ≤ length s →
    be_at at 4 s ≡ 16777216 * get_or s at 0 + 65536 * get_or s (at + 1) 0 + 256 * get_or s (at + 2) 0 + get_or s (at + 3) 0
long-is s at l =
    omega (arith, four_is (drop at s) (omega (arith, length-drop at s)), head_is s at, get_or-drop at s 1 0, get_or-drop at s 2 0, get_or-drop at s 3 0)
