-- Puts the corners of a face, if it is one of them, and answers the position behind them.
use mathlib.Core.Path.{◌≡◌, refl, sym, ◌∙◌}
use native.Mathlib.Omega.{arith}
use Rattle.cob_tables.proofs.Faces.{three-puts}
use Rattle.cob_tables.proofs.put_triangle.Goals as goal

pub returns-in_default : goal.returns-in_default
returns-in_default c = record { yes = λ at y. absurd (c.in_default.not-Some at y); no = λ y. (refl, refl) }

pub long_at-requires : goal.long_at-requires
long_at-requires c = omega (arith, c.requires.inside c.in-Some.at c.in-Some.is)

pub put_long-second-requires : goal.put_long-second-requires
put_long-second-requires c = omega (arith, c.requires.room c.in-Some.at c.in-Some.is)

pub overflow_add-at : goal.overflow_add-at
overflow_add-at c = omega (arith, c.requires.inside c.in-Some.at c.in-Some.is)

pub long_at-requires-2 : goal.long_at-requires-2
long_at-requires-2 c = omega (arith, c.requires.inside c.in-Some.at c.in-Some.is)

pub put_long-third-requires : goal.put_long-third-requires
put_long-third-requires c = omega (arith, c.requires.room c.in-Some.at c.in-Some.is, c.put_long-second.ensures.ends)

pub overflow_add-at-2 : goal.overflow_add-at-2
overflow_add-at-2 c = omega (arith, c.requires.inside c.in-Some.at c.in-Some.is)

pub long_at-requires-3 : goal.long_at-requires-3
long_at-requires-3 c = omega (arith, c.requires.inside c.in-Some.at c.in-Some.is)

pub put_long-requires : goal.put_long-requires
put_long-requires c = omega (arith, c.requires.room c.in-Some.at c.in-Some.is, c.put_long-second.ensures.ends, c.put_long-third.ensures.ends)

pub returns : goal.returns
returns c = record {
  yes = λ at y.
      let q = sym c.in-Some.is ∙ y in
      let e : c.in-Some.at ≡ at = cc in
      rw (← e) (three-puts _ _ c.long_at.ensures.is c.long_at-2.ensures.is c.long_at-3.ensures.is (omega (arith, c.requires.room c.in-Some.at c.in-Some.is))
      c.put_long-second.ensures c.put_long-third.ensures c.put_long.ensures);
  no = λ y. let q = sym c.in-Some.is ∙ y in cc;
}
