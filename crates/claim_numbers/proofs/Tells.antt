-- A refusal's number and place are read off the number that tells it: whole, where the place is within the limit of a file.
use mathlib.Core.Path.{◌≡◌, ◌∙◌}
use Prim.Native.Nat.{ℕ, ◌+◌, ◌-◌, ◌*◌, ◌/◌, ◌%◌, ◌≤◌, ◌<◌, ◌^◌, min}
use native.Mathlib.Omega.{arith}
use Rattle.shared_words.specs.declared.Refusal.{Refusal}
use Rattle.shared_words.specs.Refusals.{limit, number_of, place_of}
use Rattle.c_codes.specs.Codes.{refusal_code}
use Rattle.claim_numbers.specs.Tells.{Tells, TellsCapped}

number_off : (a p : ℕ) → p < 2 ^ 32 → (a * 2 ^ 32 + p) / 2 ^ 32 ≡ a
number_off a p h = omega arith

place_off : (a p : ℕ) → p < 2 ^ 32 → (a * 2 ^ 32 + p) % 2 ^ 32 ≡ p
place_off a p h = omega arith

pub capped : (r : Refusal) → TellsCapped r (refusal_code r)
capped r =
    record {
      number = number_off (number_of r) (min (place_of r) (2 ^ 32 - 1)) (omega arith);
      place = place_off (number_of r) (min (place_of r) (2 ^ 32 - 1)) (omega arith);
    }

pub tells : (r : Refusal) → place_of r ≤ limit → Tells r (refusal_code r)
tells r h =
    let m : min (place_of r) (2 ^ 32 - 1) ≡ place_of r = omega arith in
    record { number = (capped r).number; place = (capped r).place ∙ m }
