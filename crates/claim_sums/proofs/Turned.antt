-- One turned bit, and two of one byte: the first sum tells.
use mathlib.Core.Path.{◌≡◌, sym}
use mathlib.Core.List.{List}
use mathlib.Core.Logic.{inl, inr}
use Prim.Native.Nat.{ℕ, ◌+◌}
use native.Mathlib.Omega.{arith}
use lib.ListN.{get_or, length-set}
use lib.Seq.{get_or-set_same}
use Rattle.slip_sums.specs.Fletcher.{total}
use Rattle.claim_sums.specs.Damage.{flip, turn, OneBit, TwoBitsOfAByte}
use Rattle.claim_sums.proofs.Bits.{Turned, turned}
use Rattle.claim_sums.proofs.Changed.{total-set, first-same}
use Rattle.claim_sums.proofs.Weights.{up, up_up, up-down}

pub one_bit : OneBit
one_bit s i k h small e = go (turned k b)
  where
    b : ℕ
    b = get_or s i 0

    s' : List ℕ
    s' = turn i k s

    move : total s' + b ≡ total s + flip k b
    move = total-set s i (flip k b) h

    go : Turned k b (flip k b) → ⊥
    go (inl (z, f)) = up k (total s) (total s') small (omega (arith, move)) (first-same s' s e)
    go (inr (z, f)) = up k (total s') (total s) small (omega (arith, move)) (sym (first-same s' s e))

pub two-bits-of-a_byte : TwoBitsOfAByte
two-bits-of-a_byte s i k m h k-small m-small apart e = go (turned k b) (turned m c)
  where
    b : ℕ
    b = get_or s i 0

    s₁ : List ℕ
    s₁ = turn i k s

    c : ℕ
    c = get_or s₁ i 0

    s₂ : List ℕ
    s₂ = turn i m s₁

    between : c ≡ flip k b
    between = get_or-set_same s i (flip k b) 0 h

    move₁ : total s₁ + b ≡ total s + flip k b
    move₁ = total-set s i (flip k b) h

    move₂ : total s₂ + c ≡ total s₁ + flip m c
    move₂ = total-set s₁ i (flip m c) (omega (arith, length-set s i (flip k b)))

    go : Turned k b (flip k b) → Turned m c (flip m c) → ⊥
    go (inl (z, f)) (inl (y, g)) = up_up k m (total s) (total s₂) k-small m-small (omega (arith, move₁, move₂, between)) (first-same s₂ s e)
    go (inr (z, f)) (inr (y, g)) = up_up k m (total s₂) (total s) k-small m-small (omega (arith, move₁, move₂, between)) (sym (first-same s₂ s e))
    go (inl (z, f)) (inr (y, g)) = apart (up-down k m (total s) (total s₂) k-small m-small (omega (arith, move₁, move₂, between)) (first-same s₂ s e))
    go (inr (z, f)) (inl (y, g)) = apart (up-down k m (total s₂) (total s) k-small m-small (omega (arith, move₁, move₂, between)) (sym (first-same s₂ s e)))
