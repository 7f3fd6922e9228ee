-- A row of floats is the file's bits: the float of a finite pattern has that pattern.
use mathlib.Core.Path.{◌≡◌, refl}
use mathlib.Core.Bool.{true}
use mathlib.Core.List.{List, map}
use Prim.Native.Nat.{ℕ, zero, suc, ◌<◌, ◌^◌}
use lib.ListN.{take, drop}
use lib.Ieee.{binary32, to_bits}
use lib.Ieee.Bits.{nan_bits_is, to_bits-of_bits}
use Rattle.shared_words.specs.Bytes.{Bytes, value, numbers}
use Rattle.shared_words.specs.Lists.{every}
use Rattle.shared_words.specs.Floats.{finite}
use Rattle.shared_words.specs.Floats.{float}
use Rattle.shared_words.proofs.Bools.{and_parts}
use Rattle.shared_words.proofs.Bytes.{bytes_drop, taken_small}
use Rattle.shared_numbers.proofs.Finite.{not-nan}
use Rattle.studio_mesh_rows.specs.BitForBit.{BitForBit}

bits_back : (b : ℕ) → b < 2 ^ 32 → finite b ≡ true → to_bits binary32 (float b) ≡ b
bits_back b l h = to_bits-of_bits binary32 b l (rw (← nan_bits_is binary32 b) (not-nan b h))

numbers-back : (n : ℕ) (s : List ℕ) → Bytes s → every finite (numbers 4 n s) ≡ true → map (to_bits binary32) (map float (numbers 4 n s)) ≡ numbers 4 n s
unfolding every
numbers-back zero s b h = refl
numbers-back (suc n) s b h =
    let k = and_parts (finite (value (take 4 s))) (every finite (numbers 4 n (drop 4 s))) h in
    rw (bits_back (value (take 4 s)) (taken_small 4 s b) k.0, numbers-back n (drop 4 s) (bytes_drop 4 s b) k.1)

pub bit_for_bit : BitForBit
bit_for_bit s b at n h = numbers-back n (drop at s) (bytes_drop at s b) h
