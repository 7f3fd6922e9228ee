-- Answers of a few numbers, four bytes each: the answer is how many there are, or 15 with that; and what is left in the
-- lent bytes.
use Rattle.studio_rules.specs.declared.Span.{Span}
use Rattle.studio_rules.specs.declared.Counts.{Counts}
use Rattle.std.specs.Prelude.{ℕ, cond, List, [], ◌∷◌, leb, length, Result, Ok, Err}
use Rattle.shared_words.specs.declared.Refusal.{Refusal}
use Rattle.shared_words.specs.declared.Refusal.TheVariants.{NoRoom}
use Rattle.studio_rules.specs.declared.Boxed.{Boxed}
use Rattle.shared_words.specs.Encodings.{number_bytes}
use Rattle.shared_words.specs.Effects.{Effect, leaving, filled}
use Rattle.studio_meshes_rules.specs.Boxes.{nine}
use Rattle.c_codes.specs.Codes.{refusal_code}

-- a refusal leaves the bytes as they were
abbrev pub untouched : List ℕ → Refusal → Effect ℕ (List ℕ)
untouched out r = leaving (refusal_code r) out

-- numbers, where there is room for them
abbrev pub given : List ℕ → List ℕ → Effect ℕ (List ℕ)
given out ns =
    cond (leb (length ns) ((number_bytes 4).room (length out)))
    (leaving (length ns) (filled ((number_bytes 4).encode ns) out))
    (untouched out (NoRoom (length ns)))

-- the three byte counts
abbrev pub counts_given : List ℕ → Result Counts Refusal → Effect ℕ (List ℕ)
counts_given out (Ok c) = given out (c.headers ∷ c.own ∷ c.skipped ∷ [])
counts_given out (Err r) = untouched out r

-- a name's offset and length
abbrev pub name_given : List ℕ → Result Span Refusal → Effect ℕ (List ℕ)
name_given out (Ok span) = given out (span.offset ∷ span.size ∷ [])
name_given out (Err r) = untouched out r

-- the low corner of a box, the high one, and the centre
abbrev pub box_given : List ℕ → Result Boxed Refusal → Effect ℕ (List ℕ)
box_given out (Ok b) = given out (nine b.around b.centre)
box_given out (Err r) = untouched out r
