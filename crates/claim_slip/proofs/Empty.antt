-- The empty part: joined with it a sum stays, and is handed on as it was.
use mathlib.Core.Path.{◌≡◌, refl, ap, ◌∙◌}
use mathlib.Core.List.{[]}
use native.Mathlib.Omega.{arith}
use Rattle.slip_sums.specs.declared.Sum.{Sum}
use Rattle.slip_sums.specs.Fletcher.{sum_of}
use Rattle.slip_sums.specs.Joined.{join, capped}
use Rattle.slip_sums.proofs.Remainders.{sum_same}
use Rattle.slip_sums.proofs.Joined.{neutral}
use Rattle.c_sums.specs.Numbers.{number_of, Handed}
use Rattle.c_sums.proofs.Numbers.{reads-back}
use Rattle.claim_slip.specs.Empty.{EmptyPart, EmptyBeside}

-- what is handed on needs no cap
uncapped : (a : Sum) → Handed a → capped a ≡ a
uncapped a h = let l = h.length_small in sum_same (omega arith) refl refl

pub empty-part : EmptyPart
empty-part a h =
    let back = reads-back a h in
    let n = neutral a h.proper in (
      ap (λ (x : Sum). number_of (capped (join (sum_of []) x))) back ∙ ap (λ (x : Sum). number_of (capped x)) n.0 ∙ ap number_of (uncapped a h),
      ap (λ (x : Sum). number_of (capped (join x (sum_of [])))) back ∙ ap (λ (x : Sum). number_of (capped x)) n.1 ∙ ap number_of (uncapped a h),
    )

pub empty-beside : EmptyBeside
empty-beside part = empty-part (capped (sum_of part)) record { proper = record { first_small = omega arith; second_small = omega arith }; length_small = omega arith }
