-- PLTF is the first chunk.
use mathlib.Core.Path.{ap, ◌∙◌}
use mathlib.Core.Bool.{not}
use borrow.Author.Tests.{eq-eqb, ne_eqb}
use Rattle.c4d_rules.specs.Kinds.{Platform}
use Rattle.c4d_chunks.proofs.Entered.{out_of_order, platform_known}
use Rattle.c4d_chunks.proofs.enter_platform.Goals as goal

pub returns-then-at-ne12 : goal.returns-then-at-ne12
returns-then-at-ne12 c = λ s notes end id e len p rs notes₀ q t a g.
    out_of_order s c.args.at id len p rs t Platform e (ap not (a ∙ ap not (ne_eqb c.args.at 12 c.if-at-ne12.true)))

pub returns : goal.returns
returns c = λ s notes end id e len p rs notes₀ q t a g.
    platform_known s c.args.at id len p rs t c.args.state g e (a ∙ ap not (eq-eqb c.args.at 12 c.if-at-ne12.false))
