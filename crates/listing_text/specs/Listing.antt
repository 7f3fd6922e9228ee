-- What the listing program prints, for every file that its buffer holds.
use Rattle.std.specs.Prelude.{ℕ, cond, List, [], ◌++◌, leb, length, take, Result, Ok, Err}
use Rattle.shared_words.specs.declared.Refusal.TheVariants.{TooLong, NoRoom}
use Rattle.studio_rules.specs.Layout.{Run, figure}
use Rattle.shared_words.specs.Conditions.{Answer, refused, accepted}
use Rattle.studio_rules.specs.Walk.{verdict}
use Rattle.studio_rules.specs.Gives.{record_count, list}
use Rattle.studio_rules.specs.Calls.{counts_of}
use Rattle.listing_input.specs.declared.Unread.{Unread}
use Rattle.listing_input.specs.declared.Unread.TheVariants.{Longer, Failed}
use Rattle.listing_text.specs.Lines.{refusal_line, counts_line, lines}

-- the program has 1,024 records
abbrev pub listing_of : ℕ → Answer Run → List ℕ
listing_of size (refused r) = refusal_line r
listing_of size (accepted kids) =
    cond (leb (record_count (figure kids)) 1024)
    (counts_line size (counts_of kids) ++ lines (list kids))
    (refusal_line (NoRoom (record_count (figure kids))))

-- THE LISTING of a file
unfoldable pub listing : List ℕ → List ℕ
listing s = listing_of (length s) (verdict s)

-- WHAT IS PRINTED of an input whose first bytes stand in the buffer. Of one that could not be read nothing is printed;
-- the papers leave that free.
abbrev pub printed : List ℕ → Result ℕ Unread → List ℕ
printed buffer (Ok size) = listing (take size buffer)
printed buffer (Err Longer) = refusal_line TooLong
printed buffer (Err Failed) = []
