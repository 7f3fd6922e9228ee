-- Worked numbers: a few values of each definition that the formats share.
use Rattle.std.specs.Prelude.{◌≡◌, true, false, [], ◌∷◌, ◌++◌, ℕ, replicate}
use Rattle.std.proofs.Math.Option.{some}
use Rattle.shared_words.specs.declared.Refusal.TheVariants.{Overrun, NoRoom, Differs}
use Rattle.shared_words.specs.Refusals.{code, code_of}
use Rattle.shared_words.specs.Lists.{among, same}
use Rattle.shared_words.specs.Bytes.{value, le, packed, numbers, value_be, be}
use Rattle.shared_words.specs.Floats.{finite}
use Rattle.shared_words.specs.Labels.{fits_label, label_fault}
use Rattle.shared_words.specs.Conditions.{must, broken}
use Rattle.shared_words.specs.Effects.{filled}
use Rattle.shared_words.specs.Encodings.{number_bytes}

pub record Worked : Type 0 where
  pub room-is_15 : code_of (NoRoom 6) ≡ code 15 6
  pub sums_differ : code_of (Differs 1) ≡ code 19 1
  pub least_first : le 4 0x0102_0304 ≡ 4 ∷ 3 ∷ 2 ∷ 1 ∷ []
  pub highest-first : be 4 0x0102_0304 ≡ 1 ∷ 2 ∷ 3 ∷ 4 ∷ []
  pub read_least_first : value (0x4D ∷ 0x3D ∷ []) ≡ 0x3D4D
  pub read-highest-first : value_be (0x4D ∷ 0x3D ∷ []) ≡ 0x4D3D
  pub one-after-another : packed 2 (1 ∷ 0x203 ∷ []) ≡ 1 ∷ 0 ∷ 3 ∷ 2 ∷ []
  pub two-numbers : numbers 2 2 (1 ∷ 0 ∷ 3 ∷ 2 ∷ 9 ∷ []) ≡ 1 ∷ 0x203 ∷ []
  -- the largest float, infinity, minus infinity, one that is not a number
  pub largest : finite 0x7F7F_FFFF ≡ true
  pub infinite : finite 0x7F80_0000 ≡ false
  pub minus_infinite : finite 0xFF80_0000 ≡ false
  pub not-a_number : finite 0x7FC0_0000 ≡ false
  pub is_among : among 3 (1 ∷ 3 ∷ []) ≡ true
  pub longer_is_another : same (1 ∷ []) (1 ∷ 2 ∷ []) ≡ false
  pub first-broken : broken (must true (Overrun 1) ∷ must false (Overrun 2) ∷ must false (Overrun 3) ∷ []) ≡ some (Overrun 2)
  pub rest-stays : filled {A = ℕ} (1 ∷ 2 ∷ []) (7 ∷ 8 ∷ 9 ∷ []) ≡ 1 ∷ 2 ∷ 9 ∷ []
  pub part-is-no-room : (number_bytes 4).room 7 ≡ 1
  -- 63 bytes fit a label and 64 do not; neither does a byte 31 or 127
  pub empty-fits : fits_label [] ≡ true
  pub sixty_three_fit : fits_label (32 ∷ replicate 62 126) ≡ true
  pub sixty_four : fits_label (replicate 64 65) ≡ false
  pub thirty_one : fits_label (31 ∷ []) ≡ false
  pub one-two-seven : fits_label (65 ∷ 127 ∷ []) ≡ false
  pub first-bad_byte : label_fault (65 ∷ 31 ∷ 127 ∷ []) ≡ 1
  pub lesser-is_63 : label_fault (replicate 64 65 ++ (31 ∷ [])) ≡ 63
