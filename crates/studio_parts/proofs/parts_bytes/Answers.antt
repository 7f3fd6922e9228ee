-- A refusal, or all parts in the row.
use mathlib.Core.Path.{◌∙◌}
use Rattle.std.proofs.lemmas.Result.{err_from_is_err_and}
use Rattle.studio_rules.specs.Encodings.{part_bytes}
use Rattle.studio_rules.specs.Gives.{parts}
use Rattle.studio_counted.proofs.All.{gives, all-refused, all-filled, all-parts}
use Rattle.studio_parts.proofs.parts_bytes.Goals as goal

pub fill_bytes-requires : goal.fill_bytes-requires
fill_bytes-requires c = let a = c.in_ok-parts.ensures in (a.0, a.3)

pub returns-in_err-parts : goal.returns-in_err-parts
returns-in_err-parts c =
    let x = c.args in
    let p = err_from_is_err_and c.from_residual.result c.from_residual.ensures.1 in
    let both = gives (all-parts part_bytes x.file.now x.row.now ∙ all-refused parts x.file.now part_bytes x.row.now c.in_err-parts.ensures) in
    rw (p.1, p.2) record { answer = both.0; filled = both.1 }

pub returns : goal.returns
returns c =
    let x = c.args in
    let a = c.in_ok-parts.ensures in
    let both = gives (all-parts part_bytes x.file.now x.row.now ∙
    all-filled parts x.file.now part_bytes x.row.now a.0 a.1 _ a.2 a.3.1 _ (c.fill_bytes.ensures a.0 a.3)) in
    record { answer = both.0; filled = both.1 }
