-- `studio_figure_names::first_other` meets its contract: what the closure answers tells whether a name is one of the row.
use Rattle.std.proofs.Common.{rules}
use Rattle.studio_figure_rules.specs.Judged.{one_of}
use Rattle.studio_figure_names.specs.Names.{names_in}
use Rattle.studio_figure_names.proofs.first_other.Goals as goal

pub returns : goal.returns
returns c =
    let a = c.args in
    record {
      is = c.first_group.ensures.is a.names.now (one_of (names_in a.width a.row.now a.names.now a.first a.count)) (λ at len b l h. search rules);
      within = c.first_group.ensures.within;
    }
