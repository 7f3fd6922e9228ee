-- WHAT C IS TOLD by every call of the boundary that can refuse: an answer proper, or the refusal with its place. (The version, and
-- the number of a part, added to or joined, are never refused.)
use Rattle.claim_numbers.specs.Studio.{StudioTold}
use Rattle.claim_numbers.specs.Slips.{SlipsTold}
use Rattle.claim_numbers.specs.Sticks.{SticksTold}
use Rattle.claim_numbers.specs.Caligari.{CaligariTold}
use Rattle.claim_numbers.specs.Cinema.{CinemaTold}

pub record Told : Type 1 where
  pub studio : StudioTold
  pub slips : SlipsTold
  pub sticks : SticksTold
  pub caligari : CaligariTold
  pub cinema : CinemaTold
