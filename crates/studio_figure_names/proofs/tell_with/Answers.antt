-- `studio_figure_names::tell_with` meets its contract: a name is in the tree exactly where it is one of the row.
use Rattle.std.proofs.Common.{rules}
use mathlib.Core.Path.{◌≡◌, ◌∙◌}
use native.Mathlib.Omega.{arith}
use Rattle.shared_name_tree.specs.Names.{name_of, held}
use Rattle.studio_figure_names.specs.Names.{names_in}
use Rattle.studio_figure_names.proofs.Gathering.{gathered-fault}
use Rattle.studio_figure_names.proofs.tell_with.Goals as goal

pub returns-then-gathered-count : goal.returns-then-gathered-count
returns-then-gathered-count c =
    record { differ = c.gather-gathered.ensures.differ; differ_within = omega arith; named = c.first_other-unnamed.ensures.is; named_within = c.first_other-unnamed.ensures.within }

pub returns : goal.returns
returns c =
    let a = c.args in
    let g = c.gather-gathered.ensures in
    let e : c.gather-gathered.result ≡ a.count = omega (arith, g.few) in
    record {
      differ = rw e at g.differ;
      differ_within = tt;
      named = c.first_group-unnamed.ensures.is a.names.now (held (name_of a.names.now c.gather-gathered.new.nodes) c.gather-gathered.result) (λ at len b l h. search rules) ∙ gathered-fault g (omega arith) (names_in 2 a.groups.now a.names.now a.from a.n);
      named_within = c.first_group-unnamed.ensures.within;
    }
