-- The difference does not wrap, where the sum may.
use Prim.Native.Nat.{◌+◌, ◌-◌}
use lib.ListN.{length}
use Rattle.stick_records.proofs.Walk.{leb_as}
use mathlib.Core.Path.{sym}
use native.Mathlib.Omega.{arith}
use borrow.Author.Tests.{lt-leb}
use Rattle.stick_records.proofs.is_within.Goals as goal

pub returns-then-room-len : goal.returns-then-room-len
returns-then-room-len c = let a = c.args in sym (lt-leb (a.name + a.len) (length a.names.now) (omega arith))

pub returns : goal.returns
returns c = let a = c.args in leb_as a.name (length a.names.now - a.len) (a.name + a.len) (length a.names.now) (λ h. omega arith) (λ h. omega arith)
