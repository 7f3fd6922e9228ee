-- Its two parts; an unknown sub-chunk changes neither.
use mathlib.Core.Path.{◌≡◌, sym, ap, ◌∙◌}
use mathlib.Core.List.{List, [], ◌∷◌, ◌++◌}
use Prim.Native.Nat.{ℕ, ◌<◌, ◌≤◌}
use native.Mathlib.Omega.{arith}
use Rattle.c4d_parts.proofs.Bits.{bits_other}
use Rattle.c4d_held.specs.declared.Held.{Held}
use Rattle.c4d_held.specs.Held.{held_with}
use Rattle.c4d_held.proofs.OneMore.{once_unknown}
use Rattle.c4d_held.proofs.with_one.Goals as goal

unknown : (ids : List ℕ) (id : ℕ) → (16 ≤ id → 32 < id) → held_with (ids ++ (id ∷ [])) ≡ held_with ids
unknown ids id u = rw (once_unknown ids id u, bits_other ids id u)

pub returns-in_default : goal.returns-in_default
returns-in_default c = λ ids e. e ∙ sym (unknown ids c.args.id (λ k. omega arith))

pub returns-in_default-2 : goal.returns-in_default-2
returns-in_default-2 c = λ ids e. e ∙ sym (unknown ids c.args.id (λ k. omega arith))

pub returns-in-16-to-32 : goal.returns-in-16-to-32
returns-in-16-to-32 c = λ ids e.
    let p = c.with_part.ensures ids (ap (λ (h : Held). h.present) e) in
    let q = c.repeats.ensures ids e in
    rw (p, q)
