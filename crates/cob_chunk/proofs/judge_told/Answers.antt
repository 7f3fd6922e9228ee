-- A body that tells its own end, in the rest of the file.
use mathlib.Core.Path.{sym, ap, ◌∙◌}
use Rattle.cob_body.proofs.Ends.{ends_at}
use Rattle.cob_chunk.specs.Chunks.{body_judged}
use Rattle.cob_chunk.proofs.Judged.{told_is, told-exact, exact-judged}
use Rattle.cob_chunk.proofs.judge_told.Goals as goal

pub judge_parts-requires : goal.judge_parts-requires
judge_parts-requires c = told-exact c.args.k c.args.rest.now c.requires _ (ends_at c.body_end.ensures c.in_ok-n.ensures.ok_part)

pub returns : goal.returns
returns c = let x = c.args in
    let e = ends_at c.body_end.ensures c.in_ok-n.ensures.ok_part in
    c.judge_parts.ensures ∙ exact-judged x.k _ (told-exact x.k x.rest.now c.requires _ e) ∙ ap (body_judged x.k) (sym (told_is x.k x.rest.now c.requires _ e))
