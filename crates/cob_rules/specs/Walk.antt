-- The strict reading, in Q-4's order of refusals: a walk in file order over bytes, which answers the first fault met or the
-- layout.
use Rattle.std.specs.Prelude.{ℕ, zero, suc, ◌+◌, Bool, true, false, ◌||◌, List, [], ◌∷◌, leb, length, take, drop}
use Rattle.shared_words.specs.Refusals.{limit}
use Rattle.shared_words.specs.Bytes.{negative}
use Rattle.cob_rules.specs.Fields.{field}
use Rattle.shared_words.specs.Lists.{same}
use Rattle.shared_words.specs.declared.Refusal.TheVariants.{TooLong, Header, Trailing, Overrun, Owner, Size, Length, Number, Index, Missing}
use Rattle.shared_words.specs.Conditions.{Condition, must, broken, Answer, refused, accepted, unless}
use Rattle.cob_rules.specs.Kinds.{kind_of, is_end}
use Rattle.cob_rules.specs.Body.{body_at}
use Rattle.cob_rules.specs.Layout.{Chunk, kind, size_field, size, Layout, file_header}
use Rattle.cob_rules.specs.Rules.{owner_known, size_allowed, body_exact, numbers_finite, holes_in_faces, indices_below}

-- ---- conditions in order

-- "1; 20 HEADER, place 0"
abbrev pub file_conditions : List ℕ → List Condition
file_conditions s = must (leb (length s) limit) TooLong ∷ must (same (take 32 s) file_header) Header ∷ []

-- "per chunk, at its offset, in this order": the chunk c at offset o, after the chunks `seen`, where n bytes are left
abbrev pub chunk_conditions : List Chunk → ℕ → ℕ → Chunk → List Condition
chunk_conditions seen o n c =
    must (leb 20 n) (Overrun o) ∷
    must (negative 4 (size_field c) || leb (20 + size_field c) n) (Overrun o) ∷
    must (is_end (kind c) || owner_known seen c) (Owner o) ∷
    must (size_allowed c) (Size o) ∷
    must (body_exact c) (Length o) ∷
    must (numbers_finite c) (Number o) ∷
    must (holes_in_faces c) (Index o) ∷
    must (indices_below c) (Index o) ∷ []

abbrev pub is_empty : List ℕ → Bool
is_empty [] = true
is_empty (b ∷ bs) = false

-- "after END 3": END ends at o, where `left` follows it
abbrev pub end_conditions : ℕ → List ℕ → List Condition
end_conditions o left = must (is_empty left) (Trailing o) ∷ []

-- ---- the walk

-- what the walk answers: a refusal, or the layout that it has read
abbrev pub Verdict : Type 0
Verdict = Answer Layout

abbrev pub with_chunk : Chunk → Verdict → Verdict
with_chunk c (refused r) = refused r
with_chunk c (accepted l) = accepted record { chunks = c ∷ l.chunks; last = l.last }

-- what s begins with: 20 bytes of header, and the body of the size told there
abbrev pub chunk_of : List ℕ → List ℕ → Chunk
chunk_of head left = record { head = head; body = body_at (kind_of (take 8 head)) (field 16 4 head) left }

unfoldable pub chunk_at : List ℕ → Chunk
chunk_at s = chunk_of (take 20 s) (drop 20 s)

-- after the good chunk c at o, where `go` walks on
abbrev pub go_on : (List Chunk → ℕ → List ℕ → Verdict) → List Chunk → ℕ → Chunk → List ℕ → Bool → Verdict
go_on go seen o c left true = unless (broken (end_conditions (o + size c) left)) (accepted record { chunks = []; last = c })
go_on go seen o c left false = with_chunk c (go (c ∷ seen) (o + size c) left)

abbrev pub step : (List Chunk → ℕ → List ℕ → Verdict) → List Chunk → ℕ → List ℕ → Chunk → Verdict
step go seen o s c = unless (broken (chunk_conditions seen o (length s) c)) (go_on go seen o c (drop (size c) s) (is_end (kind c)))

-- What is left from offset o on, after the chunks `seen`. The first number bounds the count of steps. `walk` gives one
-- that is always enough, so that the first line is never read.
abbrev pub run : ℕ → List Chunk → ℕ → List ℕ → Verdict
run zero seen o s = refused TooLong
run (suc k) seen o [] = refused (Missing o)
run (suc k) seen o (b ∷ bs) = step (run k) seen o (b ∷ bs) (chunk_at (b ∷ bs))

unfoldable pub walk : List Chunk → ℕ → List ℕ → Verdict
walk seen o s = run (suc (length s)) seen o s

-- THE ANSWER TO A FILE: a refusal, or its layout
unfoldable pub verdict : List ℕ → Verdict
verdict s = unless (broken (file_conditions s)) (walk [] 32 (drop 32 s))
