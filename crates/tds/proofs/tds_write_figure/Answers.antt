-- The answer of the writer of figures, as a number; the buffer is as it left it.
use mathlib.Core.Path.{ap, ◌∙◌}
use Rattle.c_codes.specs.Codes.{count_or}
use Rattle.studio_figure_rules.specs.Described.{Flat, write_flat}
use Rattle.tds.proofs.tds_write_figure.Goals as goal

pub returns : goal.returns
returns c =
    let out = c.args.out.now in
    record {
      answer = c.count_code.ensures ∙ ap count_or c.write_figure.ensures.answer ∙ ap (λ (f : Flat). count_or (write_flat f out).answer) c.new-rows.ensures;
      out = c.write_figure.ensures.out ∙ ap (λ (f : Flat). (write_flat f out).rows) c.new-rows.ensures;
    }
