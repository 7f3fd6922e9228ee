-- What both rows are given, in the one that is in use: the numbers.
use mathlib.Core.Path.{refl}
use mathlib.Core.List.{[]}
use native.Mathlib.Omega.{arith}
use Rattle.studio_rules.specs.Encodings.{flat_records}
use Rattle.studio_list_rows.specs.Lent.{lent}
use Rattle.studio_list_rows.proofs.Rows.{flat_even}
use Rattle.studio_list.proofs.Whole.{gives}
use Rattle.studio_list.proofs.list.Goals as goal

pub returns : goal.returns
returns c =
    let x = c.args in let both = gives flat_records flat_even (λ n. omega arith) x.row.now x.file.now (lent x.row.now []) (λ l. l.numbers) (λ rs. refl) refl c.list_rows.ensures in record { answer = both.0; filled = both.1 }
