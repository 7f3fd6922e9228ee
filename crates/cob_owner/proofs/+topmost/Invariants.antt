-- Each step goes to a record of a lower number.
use Rattle.cob_owner.proofs.+topmost.Given as goal

abbrev pub decreases-topmost : goal.decreases-topmost
decreases-topmost l = l.k
