-- What stands at a chunk's start, as a step of the rules' walk. Nothing here is a meaning of its own: positions in the file
-- stand for the lists of bytes of that walk.
use Rattle.std.specs.Prelude.{◌≡◌, cond, List, [], ◌∷◌, ℕ, ◌+◌, ◌≤◌, ◌<◌, ◌^◌, min, length, Result, Ok, Err}
use Rattle.std.proofs.Math.Option.{Option, none, some}
use Rattle.shared_words.specs.declared.Refusal.{Refusal}
use Rattle.studio_rules.specs.Table.{plus, shape}
use Rattle.studio_rules.specs.OwnData.{own_size, root}
use Rattle.studio_rules.specs.Rules.{Parent, inside, tally}
use Rattle.shared_words.specs.Conditions.{broken}
use Rattle.studio_rules.specs.Walk.{Step, stop, pass, enter, own_conditions, opened}
use Rattle.shared_numbers.specs.Numbers.{word_at, long_at}
use Rattle.studio_row.specs.Packed.{row_of, slot_of}
use Rattle.studio_own_data.specs.Bounds.{bound_of}
use Rattle.studio_marks.specs.Marks.{noted}
use Rattle.studio_head.specs.declared.Header.{Header}
use Rattle.studio_head.specs.declared.Head.{Head}

-- ---- the header of a chunk at `at`

abbrev pub header_of : ℕ → ℕ → Result Header Refusal
header_of id past = Ok record { id = id; stop = past }

abbrev pub HeaderIs : List ℕ → ℕ → Option Refusal → Result Header Refusal → Type 0
HeaderIs s at (some x) r = r ≡ Err x
HeaderIs s at none r = r ≡ header_of (word_at s at) (at + long_at s (at + 2))

abbrev pub HeaderWithin : ℕ → ℕ → Result Header Refusal → Type 0
HeaderWithin at end (Err x) = Unit
HeaderWithin at end (Ok h) = (at + 6 ≤ h.stop) × (h.stop ≤ end) × (h.id < 2 ^ 16)

-- ---- one step

-- the order of a B002, behind children with the identifiers `seen`, as far as it is told
abbrev pub OrderIs : ℕ → List ℕ → ℕ → Type 0
OrderIs id seen order = id ≡ 0xB002 → order ≡ min (tally (0xB002 ∷ []) seen) root

-- a step of the walk at `at`, as the code answers it
abbrev pub HeadIs : Parent → List ℕ → ℕ → Step → Result Head Refusal → Type 0
HeadIs p seen at (stop x) r = r ≡ Err x
HeadIs p seen at (pass id body rest) r = r ≡ (Ok (Head.Skip (at + (6 + length body))))
HeadIs p seen at (enter id own kids rest) r =
    r ≡ cond (plus id) (Ok (Head.Enter id (row_of id) (bound_of (inside p seen id own)) (at + (6 + length own)) (at + (6 + length own + length kids))))
    (Ok (Head.Leaf (at + (6 + length own + length kids))))

-- the step that enters a listed chunk whose place is fine, if its own data is
abbrev pub opened_by : Parent → ℕ → ℕ → List ℕ → List ℕ → Step
opened_by p o id body rest =
    opened id body rest (own_size (shape id) p.own body) (broken (own_conditions p o id body (own_size (shape id) p.own body)))

-- the marks after it
abbrev pub MarksAre : ℕ → Step → List ℕ → List ℕ → Type 0
MarksAre at (stop x) marks marks' = Unit
MarksAre at (pass id body rest) marks marks' = marks' ≡ marks
MarksAre at (enter id own kids rest) marks marks' = marks' ≡ noted (slot_of id) at marks

abbrev pub HeadWithin : ℕ → ℕ → Result Head Refusal → Type 0
HeadWithin at end (Err x) = Unit
HeadWithin at end (Ok (Head.Skip past)) = (at + 6 ≤ past) × (past ≤ end)
HeadWithin at end (Ok (Head.Leaf past)) = (at + 6 ≤ past) × (past ≤ end)
HeadWithin at end (Ok (Head.Enter id row word from past)) = (at + 6 ≤ from) × (from ≤ past) × (past ≤ end)
