-- Marks, by the layout of the run that left them.
use Rattle.std.specs.Prelude.{◌≡◌, Bool, true, not, ◌||◌, cond, List, [], ◌∷◌, ◌⊎◌, ℕ, ◌+◌, ◌*◌, ◌≤◌, min, eqb, leb, length, set, get_or, drop, replicate, Result}
use Rattle.std.proofs.Math.Option.{Option}
use Rattle.shared_words.specs.declared.Refusal.{Refusal}
use Rattle.shared_words.specs.declared.Refusal.TheVariants.{Index, Count}
use Rattle.studio_rules.specs.Table.{under}
use Rattle.studio_rules.specs.OwnData.{corners, root}
use Rattle.studio_rules.specs.Layout.{Run, end, skip, known, size}
use Rattle.studio_rules.specs.Rules.{Parent, all_below, none_missing, as_many_pairs, Obeys}
use Rattle.studio_rules.specs.Walk.{end_conditions}
use Rattle.studio_stands.specs.Stands.{Stands}
use Rattle.shared_words.specs.Conditions.{must, broken, judged_by}
use Rattle.shared_numbers.specs.Numbers.{word_at}
use Rattle.studio_row.specs.Packed.{slot_of}

-- how many chunks of a slot
abbrev pub tally_slot : ℕ → List ℕ → ℕ
tally_slot k [] = 0
tally_slot k (x ∷ xs) = cond (eqb (slot_of x) k) 1 0 + tally_slot k xs

-- each may stand under p
abbrev pub Under : ℕ → List ℕ → Type 0
Under p [] = Unit
Under p (x ∷ xs) = (under p x ≡ true) × Under p xs

-- a slot is free: it is none's, or nothing was seen there
unfoldable pub free : ℕ → List ℕ → Bool
free k marks = leb 5 k || eqb (get_or marks k 0) 0

-- The marks after a chunk of slot k at o: its slot names it. Slot 5 is no group's and counts its chunks, up to `root`: the
-- order of a B002 is told by it, and no father is beyond.
unfoldable pub noted : ℕ → ℕ → List ℕ → List ℕ
noted k o marks = cond (leb 5 k) (set marks 5 (min (get_or marks 5 0 + 1) root)) (set marks k o)

-- the marks after a run that begins at o
abbrev pub marks_after : ℕ → Run → List ℕ → List ℕ
marks_after o end marks = marks
marks_after o (skip id body rest) marks = marks_after (o + (6 + length body)) rest marks
marks_after o (known id own kids rest) marks = marks_after (o + (6 + length own + size kids)) rest (noted (slot_of id) o marks)

abbrev pub no_marks : List ℕ
no_marks = replicate 6 0

-- t are the children of a chunk q, which stand in the file s from `from` to `stop`, obey the rules and left these marks
pub record Kept (q : Parent) (t : Run) (s : List ℕ) (from stop : ℕ) (marks : List ℕ) : Type 0 where
  pub begins : 1 ≤ from
  pub stands : Stands t s from stop
  pub obeys : Obeys q [] t
  pub marked : marks ≡ marks_after from t no_marks

-- ---- a mesh at its end, by its marks: the offsets of its 4110, 4120 and 4140

-- a mark names no chunk, or one whose first bytes of own data stand in the file
abbrev pub Placed : List ℕ → ℕ → ℕ → Type 0
Placed s mark n = (mark ≡ 0) ⊎ (mark + 6 + n ≤ length s)

unfoldable pub count_at : List ℕ → ℕ → ℕ
count_at s mark = cond (eqb mark 0) 0 (word_at s (mark + 6))

unfoldable pub corners_at : List ℕ → ℕ → ℕ → Bool
corners_at s mark n = cond (eqb mark 0) true (all_below n (corners (word_at s (mark + 6)) (drop (mark + 8) s)))

unfoldable pub pairs_at : List ℕ → ℕ → Bool → ℕ → Bool
pairs_at s mark as_many n = cond (eqb mark 0) true (cond as_many (eqb (word_at s (mark + 6)) n) (leb (word_at s (mark + 6)) n))

pub record MeshPlaced (s marks : List ℕ) : Type 0 where
  pub vertices : Placed s (get_or marks 0 0) 2
  pub faces : Placed s (get_or marks 1 0) (2 + 8 * count_at s (get_or marks 1 0))
  pub pairs : Placed s (get_or marks 2 0) 2

abbrev pub mesh_broken : List ℕ → Bool → List ℕ → Option Refusal
mesh_broken s as_many marks =
    broken
    (must (corners_at s (get_or marks 1 0) (count_at s (get_or marks 0 0))) (Index (get_or marks 1 0)) ∷
    must (pairs_at s (get_or marks 2 0) as_many (count_at s (get_or marks 0 0))) (Count (get_or marks 2 0)) ∷ [])

-- what the conditions at a chunk's end come to
abbrev pub ShutIs : Option Refusal → Result Unit Refusal → Type 0
ShutIs x r = r ≡ judged_by x

-- ---- a chunk of an identifier at its end, in whatever it stands: its children left these marks

-- whether one that it must have is missing
abbrev pub MissingIs : ℕ → List ℕ → Bool → Type 0
MissingIs id marks r = (q : Parent) (t : Run) (s : List ℕ) (from stop : ℕ) → q.id ≡ id → Kept q t s from stop marks → r ≡ not (none_missing q t)

-- the version of the file is one in which a mesh must have as many mapping pairs as vertices, or none such
abbrev pub RuleIs : Parent → Bool → Type 0
RuleIs q as_many = as_many_pairs q.version ≡ as_many

-- what its conditions come to, where it stands at `at` in the file s
abbrev pub EndIs : List ℕ → ℕ → ℕ → Bool → List ℕ → Result Unit Refusal → Type 0
EndIs s id at as_many marks r =
    (q : Parent) (t : Run) (stop : ℕ) → q.id ≡ id → RuleIs q as_many → Kept q t s (at + (6 + length q.own)) stop marks →
    ShutIs (broken (end_conditions q at t)) r
