-- What both rows are given, in the one that is in use: the bytes.
use mathlib.Core.Path.{refl}
use mathlib.Core.List.{[]}
use native.Mathlib.Omega.{arith}
use Rattle.studio_rules.specs.Encodings.{record_bytes}
use Rattle.studio_list_rows.specs.Lent.{lent}
use Rattle.studio_list_rows.proofs.Rows.{bytes_even}
use Rattle.studio_list.proofs.Whole.{gives}
use Rattle.studio_list.proofs.list_bytes.Goals as goal

pub returns : goal.returns
returns c =
    let x = c.args in let both = gives record_bytes bytes_even (λ n. omega arith) x.row.now x.file.now (lent [] x.row.now) (λ l. l.bytes) (λ rs. refl) refl c.list_rows.ensures in record { answer = both.0; filled = both.1 }
