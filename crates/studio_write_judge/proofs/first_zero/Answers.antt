-- `studio_write_judge::first_zero` meets its contract: the first fault is the first position at which the byte is zero.
use Rattle.std.proofs.Common.{rules, length, refl}
use mathlib.Core.Path.{ap, ◌∙◌}
use borrow.Author.Tests.{tests}
use lib.Dec.{eqb}
use Rattle.std.specs.Option.{unwrap_or}
use Rattle.std.proofs.lemmas.Iterator.{YieldsList-from_slice}
use Rattle.std.proofs.lemmas.Iterator.Search.{position_from_yields_List}
use Rattle.studio_write_judge.specs.Judged.{not_zero}
use Rattle.studio_write_judge.proofs.FirstFault.{first_by_position}
use Rattle.studio_write_judge.proofs.first_zero.Goals as goal

pub returns : goal.returns
returns c =
    let xs = c.args.name.now in
    let e = position_from_yields_List (λ b. eqb b 0) _ _ _ c.position.ensures.ran (YieldsList-from_slice xs cc) (λ x b q k. search (rules, tests)) in
    c.unwrap_or.ensures ∙ ap (λ r. unwrap_or r (length xs)) e ∙ first_by_position (not_zero) (λ b. eqb b 0) (λ b. refl) xs
