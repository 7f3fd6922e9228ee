-- What the list call answers and leaves in both rows, by the verdict of crate studio_rules.
use Rattle.studio_rules.specs.declared.Counts.{Counts}
use Rattle.shared_words.specs.declared.Refusal.{Refusal}
use Rattle.std.specs.Prelude.{cond, List, ℕ, leb, Result, Ok, Err}
use Rattle.shared_words.specs.declared.Refusal.TheVariants.{NoRoom}
use Rattle.studio_rules.specs.Layout.{Run, figure}
use Rattle.shared_words.specs.Conditions.{Answer, refused, accepted}
use Rattle.studio_rules.specs.Walk.{verdict}
use Rattle.studio_rules.specs.Gives.{record_count, list}
use Rattle.shared_words.specs.Effects.{Effect, leaving}
use Rattle.studio_rules.specs.Calls.{counts_of}
use Rattle.studio_list_rows.specs.Lent.{Lent, written}

-- what the call with room for so many records answers and leaves in the rows
abbrev pub rows_of : ℕ → Lent → Answer Run → Effect (Result Counts Refusal) Lent
rows_of room l (refused r) = leaving (Err r) l
rows_of room l (accepted kids) =
    cond (leb (record_count (figure kids)) room)
    (leaving (Ok (counts_of kids)) (written l 0 (list kids)))
    (leaving (Err (NoRoom (record_count (figure kids)))) l)

unfoldable pub list_rows : List ℕ → ℕ → Lent → Effect (Result Counts Refusal) Lent
list_rows s room l = rows_of room l (verdict s)
