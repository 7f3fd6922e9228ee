-- The same, with a row for the topmost owners.
use native.Mathlib.Omega.{arith}
use Rattle.cob_seen.proofs.Search.{fits_in}
use Rattle.cob_list.proofs.Rounds.{few}
use Rattle.cob_list.proofs.fill_records.Goals as goal

pub fill-requires : goal.fill-requires
fill-requires c = (c.requires, fits_in 52429 (omega (arith, few c.requires)))
