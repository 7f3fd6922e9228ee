-- `studio_figure_objects::smoothing_size` meets its contract.
use Rattle.studio_figure_objects.proofs.Sizes.{words_size}
use Rattle.studio_figure_objects.proofs.smoothing_size.Goals as goal

pub returns : goal.returns
returns c = words_size c.args.words c.if-words-eq0.false
