-- Files of other digests have other names.
use mathlib.Core.Path.{sym, ◌∙◌}
use Rattle.stick_names.proofs.Digests.{digests_apart}
use Rattle.stick_judge.proofs.is_entry_of.Goals as goal

pub returns-then-known-sought : goal.returns-then-known-sought
returns-then-known-sought c =
    let r = c.requires in
    let n = digests_apart c.args.name.now c.args.path.now (λ e. c.if-known-sought.true (r.0 ∙ e ∙ sym r.1)) in
    rw c.if-file.true (sym n)
