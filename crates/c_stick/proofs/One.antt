-- A refusal is told by a number of 2^32 or more.
use Rattle.std.specs.Prelude.{Ok, Err}
use mathlib.Core.Path.{refl, ap}
use native.Mathlib.Omega.{arith}
use Rattle.shared_words.proofs.Refusals.{numbered}
use Rattle.c_stick.specs.Codes.{one_or, PassIsOne}

pub pass-is-one : PassIsOne
pass-is-one (Ok tt) = ((λ e. refl), (λ e. refl))
pass-is-one (Err r) = ((λ e. absurd (omega (arith, e, (numbered r).from))), (λ q. ap one_or q))
