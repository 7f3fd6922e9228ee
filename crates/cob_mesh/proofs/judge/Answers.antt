-- The refusal of a mesh, if there is one.
use mathlib.Core.Path.{sym, ◌∙◌}
use native.Mathlib.Omega.{arith}
use Rattle.shared_numbers.specs.Numbers.{long_at}
use Rattle.cob_mesh.proofs.Below.{vertices-bad, textures-bad, floats-good}
use Rattle.cob_mesh.proofs.judge.Goals as goal

pub list_finite-requires : goal.list_finite-requires
unfolding long_at
list_finite-requires c = (omega arith, omega (arith, c.lists_of-l.ensures.vertices-whole))

pub returns-then-not-list_finite : goal.returns-then-not-list_finite
returns-then-not-list_finite c = rw (vertices-bad c.lists_of-l.ensures (sym c.list_finite.ensures ∙ c.if-not-list_finite.true))

pub list_finite-requires-2 : goal.list_finite-requires-2
unfolding long_at
list_finite-requires-2 c = (omega arith, omega (arith, c.lists_of-l.ensures.textures-whole))

pub returns-then-not-list_finite-2 : goal.returns-then-not-list_finite-2
returns-then-not-list_finite-2 c = rw (textures-bad c.lists_of-l.ensures (sym c.list_finite-2.ensures ∙ c.if-not-list_finite-2.true))

pub returns-then-not-indices_good : goal.returns-then-not-indices_good
returns-then-not-indices_good c =
    let indices-good' = c.indices_good in
    let if2' = c.if-not-list_finite-2 in
    let list-finite2' = c.list_finite-2 in
    let if1' = c.if-not-list_finite in
    let list-finite' = c.list_finite in
    let lists-of' = c.lists_of-l in
    rw (
      floats-good lists-of'.ensures (sym list-finite'.ensures ∙ if1'.false) (sym list-finite2'.ensures ∙ if2'.false),
      sym indices-good'.ensures ∙ c.if-not-indices_good.true,
    )

pub returns : goal.returns
returns c =
    let indices-good' = c.indices_good in
    let if2' = c.if-not-list_finite-2 in
    let list-finite2' = c.list_finite-2 in
    let if1' = c.if-not-list_finite in
    let list-finite' = c.list_finite in
    let lists-of' = c.lists_of-l in
    rw (
      floats-good lists-of'.ensures (sym list-finite'.ensures ∙ if1'.false) (sym list-finite2'.ensures ∙ if2'.false),
      sym indices-good'.ensures ∙ c.if-not-indices_good.false,
    )
