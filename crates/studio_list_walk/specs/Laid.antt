-- What the functions of this crate say, of a layout that stands in the file. Nothing here is a meaning of its own: the
-- layout, its rules and its records are those of crate studio_rules.
use Rattle.std.specs.Prelude.{◌≡◌, true, false, List, [], ℕ, ◌+◌, ◌*◌, ◌≤◌, length, Result, Ok, Err}
use Rattle.shared_words.specs.Refusals.{limit}
use Rattle.studio_rules.specs.OwnData.{own_size}
use Rattle.studio_rules.specs.Layout.{Run, end, skip, known}
use Rattle.studio_rules.specs.Parses.{Place, Parses}
use Rattle.studio_rules.specs.Gives.{record_count, records_of}
use Rattle.studio_stands.specs.Stands.{Stands}
use Rattle.studio_row.specs.Packed.{shape_in, plus_in}
use Rattle.studio_list_rows.specs.Lent.{Lent, written, Room}

-- the first chunk of a run, alone
abbrev pub first : Run → Run
first end = end
first (skip id body rest) = skip id body end
first (known id own kids rest) = known id own kids end

-- the run t stands in the part of the file s from `at` to stop, and parses in a chunk p
pub record Laid (s : List ℕ) (at stop : ℕ) (p : Place) (t : Run) : Type 0 where
  pub stands : Stands t s at stop
  pub parses : Parses p t

-- a file within the limit; every record before this place took six bytes, and so every number of a record is small
pub record Bounds (s : List ℕ) (at stop depth parent next : ℕ) : Type 0 where
  pub ends : stop ≤ length s
  pub short : length s ≤ limit
  pub deep : depth ≤ at
  pub over : parent ≤ at
  pub before : 6 * next ≤ at

-- the records of t have been written, and r is the number of the record after them
pub record Listed (l : Lent) (at depth parent next : ℕ) (t : Run) (l' : Lent) (r : ℕ) : Type 0 where
  pub counts : r ≡ next + record_count t
  pub fills : l' ≡ written l next (records_of at depth parent next t)

-- ---- what a call about the first chunk of a run, or about a whole run, asks and answers

-- some chunk, or run, stands there, and there is room for its records
abbrev pub SomeChunk : List ℕ → ℕ → ℕ → ℕ → Lent → Type 0
SomeChunk s at stop next l = (p : Place) × (t : Run) × Laid s at stop p (first t) × Room l (next + record_count (first t))

abbrev pub SomeRun : List ℕ → ℕ → ℕ → ℕ → Lent → Type 0
SomeRun s at stop next l = (p : Place) × (t : Run) × Laid s at stop p t × Room l (next + record_count t)

-- whichever it is, its records have been written
abbrev pub ChunkListed : List ℕ → ℕ → ℕ → ℕ → ℕ → ℕ → Lent → Lent → ℕ → Type 0
ChunkListed s at stop depth parent next l l' r = (p : Place) (t : Run) → Laid s at stop p (first t) → Listed l at depth parent next (first t) l' r

abbrev pub RunListed : List ℕ → ℕ → ℕ → ℕ → ℕ → ℕ → Lent → Lent → ℕ → Type 0
RunListed s at stop depth parent next l l' r = (p : Place) (t : Run) → Laid s at stop p t → Listed l at depth parent next t l' r

-- ---- one chunk

-- own data as its row has it, in a body: just as long as its shape says where children may follow, else the whole body
pub record Begins (row : ℕ) (around own more : List ℕ) : Type 0 where
  pub exact : plus_in row ≡ true → own_size (shape_in row) around own ≡ length own
  pub whole : plus_in row ≡ false → more ≡ []
