-- The chunk comes to what is found at its end.
use mathlib.Core.Path.{refl, subst}
use Rattle.std.proofs.lemmas.Result.{err_from_is_err_and}
use Rattle.shared_words.specs.Conditions.{broken}
use Rattle.studio_rules.specs.Walk.{end_conditions}
use Rattle.studio_marks.specs.Marks.{ShutIs}
use Rattle.studio_walk.proofs.Chunks.{closed-fault, closed_fine}
use Rattle.studio_walk.proofs.close.Goals as goal

pub returns-in_err-at_end : goal.returns-in_err-at_end
returns-in_err-at_end c =
    let x = c in
    let e = err_from_is_err_and c.from_residual.result c.from_residual.ensures.1 in
    rw (e.1, e.2)
    record {
      is = λ q t stop i rule kept.
          closed-fault x.args.stop x.args.records x.args.skipped (broken (end_conditions q x.args.at t)) _
          (subst (ShutIs (broken (end_conditions q x.args.at t))) c.in_err-at_end.was (c.at_end.ensures q t stop i rule kept));
      counts = tt;
    }

pub returns : goal.returns
returns c =
    let x = c in
    record {
      is = λ q t stop i rule kept.
          closed_fine x.args.stop x.args.records x.args.skipped (broken (end_conditions q x.args.at t))
          (subst (ShutIs (broken (end_conditions q x.args.at t))) c.in_ok-at_end.was (c.at_end.ensures q t stop i rule kept));
      counts = (refl, refl, refl);
    }
