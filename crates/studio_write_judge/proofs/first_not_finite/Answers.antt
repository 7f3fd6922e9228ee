-- `studio_write_judge::first_not_finite` meets its contract: the first fault is the first position at which the float is not finite.
use Rattle.std.proofs.Common.{rules, length}
use mathlib.Core.Bool.{not}
use mathlib.Core.Path.{ap, ◌∙◌}
use borrow.Author.Tests.{tests}
use Rattle.std.specs.Float.{float_is_finite}
use Rattle.std.specs.Option.{unwrap_or}
use Rattle.std.proofs.lemmas.Iterator.{YieldsList-from_slice}
use Rattle.std.proofs.lemmas.Iterator.Search.{position_from_yields_List}
use Rattle.studio_write_judge.specs.Judged.{finite_float}
use Rattle.studio_write_judge.proofs.FirstFault.{first_by_position, finite_or}
use Rattle.studio_write_judge.proofs.first_not_finite.Goals as goal

pub returns : goal.returns
returns c =
    let xs = c.args.vertices.now in
    let e = position_from_yields_List (λ x. not (float_is_finite x)) _ _ _ c.position.ensures.ran (YieldsList-from_slice xs cc) (λ x b q k. search (rules, tests)) in
    c.unwrap_or.ensures ∙ ap (λ r. unwrap_or r (length xs)) e ∙ first_by_position finite_float (λ x. not (float_is_finite x)) finite_or xs
