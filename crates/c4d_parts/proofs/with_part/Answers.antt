-- A bit that is set stays; one that is not is added.
use mathlib.Core.Path.{◌≡◌, sym, ◌∙◌}
use Prim.Native.Nat.{◌-◌, ◌*◌, ◌%◌, ◌^◌}
use native.Mathlib.Omega.{arith}
use Rattle.c4d_parts.proofs.Bits.{bits-again, bits-more, shift_small}
use Rattle.c4d_parts.proofs.with_part.Goals as goal

pub returns-then-is_there : goal.returns-then-is_there
returns-then-is_there c = λ ids e.
    let a = c.args in
    e ∙ sym (bits-again ids a.id (sym (c.is_there.ensures ids e) ∙ c.if-is_there.true))

pub overflow_add-result : goal.overflow_add-result
overflow_add-result c =
    let a = c.args in
    omega (arith, shift_small a.id (omega arith) (omega arith))

pub returns : goal.returns
returns c = λ ids e.
    let a = c.args in
    let k = shift_small a.id (omega arith) (omega arith) in
    let z : 1 * 2 ^ (a.id - 16) % 18446744073709551616 ≡ 2 ^ (a.id - 16) = omega arith in
    rw (z, e) (bits-more ids a.id (omega arith) (omega arith) (sym (c.is_there.ensures ids e) ∙ c.if-is_there.false))
