-- Damage against an entry.
use mathlib.Core.Path.{refl}
use mathlib.Core.Logic.{inl}
use native.Mathlib.Omega.{arith}
use lib.ListN.{get_or, set, length-set}
use Rattle.slip_sums.specs.Fletcher.{sum_of}
use Rattle.slip_sums.proofs.Passes.{passes_exactly, differs}
use Rattle.claim_sums.specs.Damage.{flip, turn, OneBitNeverPasses, ZeroTo255Passes}
use Rattle.claim_sums.proofs.Turned.{one_bit}
use Rattle.claim_sums.proofs.Changed.{one_byte}

pub one-bit-never-passes : OneBitNeverPasses
one-bit-never-passes s i k h l = differs (sum_of (turn i k s)) (sum_of s) (length-set s i (flip k (get_or s i 0))) (one_bit s i k h l)

pub zero_to_255_passes : ZeroTo255Passes
zero_to_255_passes s i bytes h z = (passes_exactly (set s i 255) s).1 ((one_byte s i 255 bytes h (omega arith) (omega arith)).1 (inl (z, refl)))
