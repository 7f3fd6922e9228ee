-- What holds of an input that was read, whatever it was.
use Rattle.std.specs.Prelude.{ℕ, ◌≤◌, List, length, Result, IfOk}
use Rattle.listing_input.specs.declared.Unread.{Unread}

-- the bytes of a whole input are in the buffer
abbrev pub Within : List ℕ → Result ℕ Unread → Type 0
Within buffer r = IfOk r (λ size. size ≤ length buffer)
