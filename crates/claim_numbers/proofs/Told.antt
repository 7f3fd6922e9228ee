-- What C is told, of every format.
use Rattle.claim_numbers.specs.Told.{Told}
use Rattle.claim_numbers.proofs.Studio.{studio_told}
use Rattle.claim_numbers.proofs.Slips.{slips_told}
use Rattle.claim_numbers.proofs.Sticks.{sticks_told}
use Rattle.claim_numbers.proofs.Caligari.{caligari-told}
use Rattle.claim_numbers.proofs.Cinema.{cinema-told}

-- ---- THE THEOREM

pub told : Told
told = record { studio = studio_told; slips = slips_told; sticks = sticks_told; caligari = caligari-told; cinema = cinema-told }
