-- Worked cases: well-known sums of short texts, files against entries (19), and damage that is missed.
use Rattle.std.specs.Prelude.{◌≡◌, List, [], ◌∷◌, ◌++◌, ℕ, replicate, Ok}
use Rattle.slip_sums.specs.declared.Sum.{Sum}
use Rattle.slip_sums.specs.Fletcher.{sum_of}
use Rattle.slip_sums.specs.Passes.{length_fault, other_sums, against}

abbrev pub sum : ℕ → ℕ → ℕ → Sum
sum l f s = record { len = l; first = f; second = s }

abbrev pub abcde : List ℕ
abcde = 0x61 ∷ 0x62 ∷ 0x63 ∷ 0x64 ∷ 0x65 ∷ []

pub record Samples : Type 0 where
  pub empty : sum_of [] ≡ sum 0 0 0
  pub five : sum_of abcde ≡ sum 5 0xF0 0xC8
  pub six : sum_of (abcde ++ (0x66 ∷ [])) ≡ sum 6 0x57 0x20
  pub eight : sum_of (abcde ++ (0x66 ∷ 0x67 ∷ 0x68 ∷ [])) ≡ sum 8 0x27 0x06
  -- order tells in the second sum
  pub turned_round : sum_of (0x62 ∷ 0x61 ∷ []) ≡ sum 2 0xC3 0x26
  pub in_order : sum_of (0x61 ∷ 0x62 ∷ []) ≡ sum 2 0xC3 0x25
  -- against an entry: the file itself; one byte more, which is 19 at 0; two bytes exchanged, which is 19 at 1
  pub passes : against abcde (sum 5 0xF0 0xC8) ≡ (Ok tt)
  pub one_more : against (abcde ++ (0 ∷ [])) (sum 5 0xF0 0xC8) ≡ length_fault
  pub exchanged : against (0x62 ∷ 0x61 ∷ []) (sum 2 0xC3 0x25) ≡ other_sums
  -- a byte 0 turned into 255
  pub byte_zero_lem : sum_of (7 ∷ 0 ∷ 9 ∷ []) ≡ sum 3 16 30
  pub byte_255 : sum_of (7 ∷ 255 ∷ 9 ∷ []) ≡ sum 3 16 30
  -- bit 0 cleared, and set 255 bytes on
  pub two-bits : sum_of (1 ∷ replicate 254 0 ++ (0 ∷ [])) ≡ sum 256 1 1
  pub for_two_bits : sum_of (0 ∷ replicate 254 0 ++ (1 ∷ [])) ≡ sum 256 1 1
