-- `studio_write_judge::first_not_below` meets its contract: the first fault is the first position at which the corner is not below n.
use Rattle.std.proofs.Common.{rules, length}
use mathlib.Core.Path.{ap, ◌∙◌}
use borrow.Author.Tests.{tests}
use lib.Dec.{ltb, leb}
use Rattle.std.specs.Option.{unwrap_or}
use Rattle.std.proofs.lemmas.Iterator.{YieldsList-from_slice}
use Rattle.std.proofs.lemmas.Iterator.Search.{position_from_yields_List}
use Rattle.studio_write_judge.proofs.FirstFault.{first_by_position, below_or}
use Rattle.studio_write_judge.proofs.first_not_below.Goals as goal

pub returns : goal.returns
returns c =
    let xs = c.args.corners.now in
    let e = position_from_yields_List (λ x. leb c.args.n x) _ _ _ c.position.ensures.ran (YieldsList-from_slice xs cc) (λ x b q k. search (rules, tests)) in
    c.unwrap_or.ensures ∙ ap (λ r. unwrap_or r (length xs)) e ∙ first_by_position (λ x. ltb x c.args.n) (λ x. leb c.args.n x) (below_or c.args.n) xs
