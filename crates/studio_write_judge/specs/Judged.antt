-- What the writer judges before it writes, for every name, rows and room: docs/FORMAT.md, "What the writer
-- writes". The contract of `judge` is an equation with `judged`.
use Rattle.std.specs.Prelude.{ℕ, ◌+◌, ◌*◌, ◌/◌, ◌%◌, Bool, true, false, not, ◌&&◌, List, [], ◌∷◌, eqb, ltb, leb, Float, length, Result, Ok, Err}
use Rattle.std.proofs.Math.Option.{Option, none, some}
use Rattle.std.specs.Float.{nan, inf, fin}
use Rattle.shared_words.specs.declared.Refusal.{Refusal}
use Rattle.shared_words.specs.declared.Refusal.TheVariants.{TooLong, Name, Number, Index, Count, NoRoom, Text}
use Rattle.shared_words.specs.Lists.{every, first_fault}
use Rattle.shared_words.specs.Labels.{fits_label, label_fault}
use Rattle.shared_words.specs.Conditions.{Condition, must, broken}
use Rattle.shared_words.specs.Refusals.{limit}

-- how many vertices, or faces, a row has: three numbers to each
abbrev pub triples : {A : Type 0} → List A → ℕ
triples row = length row / 3

-- ---- the conditions

-- each element of a row passes a test; the place is the first fault
abbrev pub each_must : {A : Type 0} → (A → Bool) → List A → (ℕ → Refusal) → Condition
each_must good row refusal = must (every good row) (refusal (first_fault good row))

abbrev pub not_zero : ℕ → Bool
not_zero b = not (eqb b 0)

-- a row's length is a multiple of 3 and not over 196,605
abbrev pub is_whole_row : ℕ → Bool
is_whole_row n = eqb (n % 3) 0 && leb n 196_605

-- neither infinite nor not a number
abbrev pub finite_float : Float → Bool
finite_float nan = false
finite_float (inf s) = false
finite_float (fin s m e) = true

-- the size: 41 + name + 12n + 8f
abbrev pub figure_size : List ℕ → List Float → List ℕ → ℕ
figure_size name vertices corners = 41 + length name + 12 * triples vertices + 8 * triples corners

-- "Refusals in order, the place always the first fault of its kind", for a buffer of `room` bytes
abbrev pub write_conditions : List ℕ → List Float → List ℕ → ℕ → List Condition
write_conditions name vertices corners room =
    -- 9, the name holds a zero byte (place: its position)
    each_must not_zero name Name ∷
    -- 24, it does not fit the label (place: the first bad byte or 63, the lesser)
    must (fits_label name) (Text (label_fault name)) ∷
    -- 13, a row's length is no multiple of 3 or over 196,605, floats first (place: that length)
    must (is_whole_row (length vertices)) (Count (length vertices)) ∷
    must (is_whole_row (length corners)) (Count (length corners)) ∷
    -- 11, 12 (position in the row)
    each_must finite_float vertices Number ∷
    each_must (λ c. ltb c (triples vertices)) corners Index ∷
    -- 1, size over 1,048,576 (place 0)
    must (leb (figure_size name vertices corners) limit) TooLong ∷
    -- 15 (place: the size)
    must (leb (figure_size name vertices corners) room) (NoRoom (figure_size name vertices corners)) ∷ []

-- ---- the judgement

abbrev pub answer_of : ℕ → Option Refusal → Result ℕ Refusal
answer_of size (some r) = Err r
answer_of size none = Ok size

-- what is answered, where the buffer has `room` bytes: the first fault, or the size
unfoldable pub judged : List ℕ → List Float → List ℕ → ℕ → Result ℕ Refusal
judged name vertices corners room = answer_of (figure_size name vertices corners) (broken (write_conditions name vertices corners room))
