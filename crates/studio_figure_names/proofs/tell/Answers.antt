-- `studio_figure_names::tell` meets its contract: there is room for a tree of the names.
use native.Mathlib.Omega.{arith}
use Rattle.studio_figure_names.proofs.Gathering.{blank}
use Rattle.studio_figure_names.proofs.tell.Goals as goal

pub tell_with-requires : goal.tell_with-requires
tell_with-requires c =
    let s = c in
    let h = c.is_for_tree.ensures c.if-not-is_for_tree.false in record { width_nonzero = s.requires.width_nonzero; n_in_bounds = s.requires.n_in_bounds; blank = blank s.args.names.now 4096 s.args.count (omega arith) (omega arith) h.1 }

pub tell_with-requires-2 : goal.tell_with-requires-2
tell_with-requires-2 c =
    let s = c in
    let h = c.is_for_tree.ensures c.if-not-is_for_tree.false in record { width_nonzero = s.requires.width_nonzero; n_in_bounds = s.requires.n_in_bounds; blank = blank s.args.names.now 147456 s.args.count (omega arith) (omega arith) h.1 }
