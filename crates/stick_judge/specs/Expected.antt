-- What a stick with this slip must hold.
use mathlib.Core.List.{List}
use Rattle.slip_rules.specs.Slip.{Entry}
use Rattle.slip_check.specs.Entries.{entries_in}
use Rattle.stick_rules.specs.Judge.{manifest}
use Rattle.stick_judge.specs.declared.Manifest.{Manifest}

-- the slip itself, then its entries
abbrev pub expected : Manifest → List Entry
expected m = manifest m.slip.now (entries_in m.entries m.slip.now 7)
