-- What a chunk and a run come to, as the rules' walk answers it: numbers for the layout that it gives.
use Rattle.std.specs.Prelude.{◌≡◌, Bool, List, [], ℕ, ◌+◌, ◌*◌, ◌-◌, ◌≤◌, ◌<◌, length, Result, Ok, Err}
use Rattle.std.proofs.Math.Option.{Option, none, some}
use Rattle.studio_rules.specs.Rules.{Parent, inside}
use Rattle.studio_rules.specs.Gives.{record_count, skipped}
use Rattle.shared_words.specs.declared.Refusal.{Refusal}
use Rattle.shared_words.specs.Conditions.{Answer, refused, accepted, broken}
use Rattle.studio_rules.specs.Walk.{Step, stop, pass, enter, end_conditions, ended, walk}
use Rattle.studio_row.specs.Packed.{slot_of}
use Rattle.studio_marks.specs.Marks.{noted, marks_after, Kept, RuleIs}
use Rattle.studio_head.specs.Contexts.{Context}
use Rattle.studio_walk.specs.declared.Ran.{Ran}
use Rattle.studio_rules.specs.Layout.{Run}

-- where a chunk or a run ends, how many records it has and how many bytes were skipped
abbrev pub ran_to : ℕ → ℕ → ℕ → Result Ran Refusal
ran_to next records bytes = Ok record { next = next; records = records; skipped = bytes }

-- the code stands in some run
abbrev pub SomeContext : ℕ → ℕ → Bool → List ℕ → Type 0
SomeContext row word as_many marks = (p : Parent) × (seen : List ℕ) × RuleIs p as_many × Context p seen row word marks

-- the answer to a chunk's children, at its end
abbrev pub ClosedIs : ℕ → Answer Run → Result Ran Refusal → Type 0
ClosedIs past (refused x) r = r ≡ Err x
ClosedIs past (accepted t) r = r ≡ ran_to past (record_count t + 1) (skipped t)

-- a chunk at its end, by the first of its conditions there that is broken
abbrev pub closed_to : ℕ → ℕ → ℕ → Option Refusal → Result Ran Refusal
closed_to past records bytes (some x) = Err x
closed_to past records bytes none = ran_to past (records + 1) bytes

-- a chunk of an identifier at its end, in whatever it stands: its children left these marks
abbrev pub ClosesBy : List ℕ → ℕ → ℕ → Bool → List ℕ → ℕ → ℕ → ℕ → Result Ran Refusal → Type 0
ClosesBy s id at as_many marks past records bytes r =
    (q : Parent) (t : Run) (stop : ℕ) → q.id ≡ id → RuleIs q as_many → Kept q t s (at + (6 + length q.own)) stop marks →
    r ≡ closed_to past records bytes (broken (end_conditions q at t))

abbrev pub ClosesWith : ℕ → ℕ → ℕ → Result Ran Refusal → Type 0
ClosesWith past records bytes (Err x) = Unit
ClosesWith past records bytes (Ok r) = (r.next ≡ past) × (r.records ≡ records + 1) × (r.skipped ≡ bytes)

-- a chunk at `at`, after the children `seen`, by the step that meets it, and the marks before and after it
abbrev pub ChunkIs : Parent → List ℕ → ℕ → Step → Result Ran Refusal → List ℕ → List ℕ → Type 0
ChunkIs p seen at (stop x) r marks marks' = r ≡ Err x
ChunkIs p seen at (pass id body rest) r marks marks' = (r ≡ ran_to (at + (6 + length body)) 0 (6 + length body)) × (marks' ≡ marks)
ChunkIs p seen at (enter id own kids rest) r marks marks' =
    ClosedIs (at + (6 + length own + length kids)) (ended (inside p seen id own) at (walk (inside p seen id own) [] (at + (6 + length own)) kids)) r ×
    (marks' ≡ noted (slot_of id) at marks)

-- a run from o to `end`, where so many records and skipped bytes came before it
abbrev pub RunIs : ℕ → ℕ → ℕ → ℕ → List ℕ → Answer Run → Result Ran Refusal → List ℕ → Type 0
RunIs end records bytes o marks (refused x) r marks' = r ≡ Err x
RunIs end records bytes o marks (accepted t) r marks' = (r ≡ ran_to end (records + record_count t) (bytes + skipped t)) × (marks' ≡ marks_after o t marks)

-- six bytes for each record, and the skipped ones, stand where the chunk or the run does
abbrev pub ChunkWithin : ℕ → ℕ → Result Ran Refusal → Type 0
ChunkWithin at end (Err x) = Unit
ChunkWithin at end (Ok r) = (at < r.next) × (r.next ≤ end) × (6 * r.records + r.skipped ≤ r.next - at)

abbrev pub RunWithin : ℕ → ℕ → Result Ran Refusal → Type 0
RunWithin at end (Err x) = Unit
RunWithin at end (Ok r) = 6 * r.records + r.skipped ≤ end - at
