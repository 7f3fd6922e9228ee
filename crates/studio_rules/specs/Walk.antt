-- The strict reading, in the order of refusals that docs/FORMAT.md gives: a walk in file order over bytes, which answers the
-- first fault met or the layout.
use Rattle.std.specs.Prelude.{ℕ, zero, suc, ◌+◌, ◌-◌, Bool, true, false, ◌&&◌, ◌||◌, cond, List, [], ◌∷◌, ◌++◌, eqb, leb, length, take, drop}
use Rattle.std.proofs.Math.Option.{Option, none, some}
use Rattle.shared_words.specs.declared.Refusal.{Refusal}
use Rattle.shared_words.specs.declared.Refusal.TheVariants.{TooLong, NotAFigure, Trailing, Short, Overrun, Stray, Misplaced, Twice}
use Rattle.shared_words.specs.declared.Refusal.TheVariants.{Name, Length, Number, Index, Count, Missing, Father, Text}
use Rattle.shared_words.specs.Bytes.{value}
use Rattle.shared_words.specs.Conditions.{Condition, must, broken, Answer, refused, accepted, unless}
use Rattle.shared_words.specs.Refusals.{limit}
use Rattle.studio_rules.specs.Table.{listed, shape, plus}
use Rattle.studio_rules.specs.OwnData.{own_size, has_name}
use Rattle.studio_rules.specs.Layout.{Run, end, skip, known, offset_of}
use Rattle.studio_rules.specs.Rules.{Parent, file, inside, is_in_place, not_twice}
use Rattle.studio_rules.specs.Rules.{names_fit, numbers_finite, face_numbers_below, father_earlier, none_missing, corners_below, mapping_matches}

-- ---- conditions, in the order in which they are asked

-- "1, 2; then 4, 5, 3 for 4D4D": the file s, where n is the length field of its 4D4D
abbrev pub file_conditions : List ℕ → ℕ → List Condition
file_conditions s n =
    must (leb (length s) limit) TooLong ∷
    must (leb 6 (length s)) NotAFigure ∷
    must (eqb (value (take 2 s)) 0x4D4D) NotAFigure ∷
    must (leb 6 n) (Short 0) ∷
    must (leb n (length s)) (Overrun 0) ∷
    must (leb (length s) n) (Trailing n) ∷ []

-- "For a child: 6, 4, 5": a child at offset o, where s is what is left of the run and n the child's length field
abbrev pub header_conditions : ℕ → List ℕ → ℕ → List Condition
header_conditions o s n =
    must (leb 6 (length s)) (Stray o) ∷
    must (leb 6 n) (Short o) ∷
    must (leb n (length s)) (Overrun o) ∷ []

-- "7, 8": a listed child in p, after the children `seen`, with this own data
abbrev pub place_conditions : Parent → List ℕ → ℕ → ℕ → List ℕ → List Condition
place_conditions p seen o id own =
    must (is_in_place p id own) (Misplaced o) ∷
    must (not_twice p seen id) (Twice o) ∷ []

-- "11, and 12 for a 4130", and 23 for a B010: own data that has its length
abbrev pub data_conditions : Parent → ℕ → ℕ → List ℕ → List Condition
data_conditions p o id own =
    must (numbers_finite p id own) (Number o) ∷
    must (face_numbers_below p id own) (Index o) ∷
    must (father_earlier p id own) (Father o) ∷ []

-- "9, 10" and, right after 9, 24; then these: own data is the first k bytes of the body of a chunk in p
abbrev pub own_conditions : Parent → ℕ → ℕ → List ℕ → ℕ → List Condition
own_conditions p o id body k =
    must (has_name (shape id) body) (Name o) ∷
    must (names_fit p id body) (Text o) ∷
    must (leb k (length body)) (Length o) ∷
    must (plus id || leb (length body) k) (Length o) ∷ data_conditions p o id (take k body)

-- all that is asked of a listed child before its own children
abbrev pub child_conditions : Parent → List ℕ → ℕ → ℕ → List ℕ → ℕ → List Condition
child_conditions p seen o id body k = place_conditions p seen o id (take k body) ++ own_conditions p o id body k

-- "and for a mesh 12 for corners, then 13": a chunk q whose children begin at o
abbrev pub mesh_conditions : Parent → ℕ → Run → List Condition
mesh_conditions q o kids =
    must (corners_below q kids) (Index (offset_of 0x4120 o kids)) ∷ must (mapping_matches q kids) (Count (offset_of 0x4140 o kids)) ∷ []

-- "then at its end 14": a chunk q at offset o
abbrev pub end_conditions : Parent → ℕ → Run → List Condition
end_conditions q o kids = must (none_missing q kids) (Missing o) ∷ mesh_conditions q (o + (6 + length q.own)) kids

-- ---- one child
-- `step` says what stands at the start of a run. Its header is judged first (`parted`); then its identifier tells whether
-- it is skipped (`sorted`); then what is asked of a listed one, before it is entered (`opened`).

-- a fault; a chunk to skip, its identifier, its inside and the rest of the run; a known chunk, its identifier, its own
-- data, its children's bytes and the rest of the run
pub data Step : Type 0 where
  stop : Refusal → Step
  pass : ℕ → List ℕ → List ℕ → Step
  enter : ℕ → List ℕ → List ℕ → List ℕ → Step

-- a listed child, whose own data takes k bytes, by the first of its conditions that is broken
abbrev pub opened : ℕ → List ℕ → List ℕ → ℕ → Option Refusal → Step
opened id body rest k (some r) = stop r
opened id body rest k none = enter id (take k body) (drop k body) rest

-- a child, by whether its identifier is listed
abbrev pub sorted : Bool → Parent → List ℕ → ℕ → ℕ → List ℕ → List ℕ → Step
sorted true p seen o id body rest =
    opened id body rest (own_size (shape id) p.own body) (broken (child_conditions p seen o id body (own_size (shape id) p.own body)))
sorted false p seen o id body rest = pass id body rest

-- a child of identifier id and length n at the start of s, by the first condition of its header that is broken
abbrev pub parted : Parent → List ℕ → ℕ → List ℕ → ℕ → ℕ → Option Refusal → Step
parted p seen o s id n (some r) = stop r
parted p seen o s id n none = sorted (listed id) p seen o id (take (n - 6) (drop 6 s)) (drop n s)

-- the length field of the header that s begins with
abbrev pub length_field : List ℕ → ℕ
length_field s = value (take 4 (drop 2 s))

-- THE CHILD AT THE START OF s, which stands in p at offset o, after the children `seen`
unfoldable pub step : Parent → List ℕ → ℕ → List ℕ → Step
step p seen o s = parted p seen o s (value (take 2 s)) (length_field s) (broken (header_conditions o s (length_field s)))

-- ---- the walk
-- `walk` takes step after step (`taken`): into the children of a chunk, to its end (`ended`), and on to its sibling.

-- a chunk q at its end
abbrev pub ended : Parent → ℕ → Answer Run → Answer Run
ended q o (refused r) = refused r
ended q o (accepted kids) = unless (broken (end_conditions q o kids)) (accepted kids)

abbrev pub with_skip : ℕ → List ℕ → Answer Run → Answer Run
with_skip id body (refused r) = refused r
with_skip id body (accepted t) = accepted (skip id body t)

abbrev pub with_known : ℕ → List ℕ → Answer Run → Answer Run → Answer Run
with_known id own (refused r) a = refused r
with_known id own (accepted kids) (refused r) = refused r
with_known id own (accepted kids) (accepted t) = accepted (known id own kids t)

-- after a step, where `go` walks a run
abbrev pub taken : (Parent → List ℕ → ℕ → List ℕ → Answer Run) → Parent → List ℕ → ℕ → Step → Answer Run
taken go p seen o (stop r) = refused r
taken go p seen o (pass id body rest) = with_skip id body (go p seen (o + (6 + length body)) rest)
taken go p seen o (enter id own kids rest) =
    with_known id own (ended (inside p seen id own) o (go (inside p seen id own) [] (o + (6 + length own)) kids))
    (go p (id ∷ seen) (o + (6 + length own + length kids)) rest)

-- what stands for an answer where a bound on the depth of calls is spent. No bound below ever is.
abbrev pub spent : Answer Run
spent = refused TooLong

-- The run s in p, after the children `seen`, at offset o. The first number bounds the depth of the calls. `walk` gives
-- one that is always enough: proofs/Fuel has the walk's equations without it.
abbrev pub run : ℕ → Parent → List ℕ → ℕ → List ℕ → Answer Run
run zero p seen o s = spent
run (suc k) p seen o [] = accepted end
run (suc k) p seen o (b ∷ bs) = taken (run k) p seen o (step p seen o (b ∷ bs))

-- THE RUN s IN p, after the children `seen`, at offset o
unfoldable pub walk : Parent → List ℕ → ℕ → List ℕ → Answer Run
walk p seen o s = run (suc (length s)) p seen o s

-- ---- the version

-- It is told by the chunk at the start of s, of length n, where that is a 0002 of length 10; else `go` looks behind it. The
-- first bad header (4, 5 or 6) ends the search.
abbrev pub told_by : (List ℕ → ℕ) → List ℕ → ℕ → Option Refusal → ℕ
told_by go s n (some r) = 0
told_by go s n none = cond (eqb (value (take 2 s)) 0x0002 && eqb n 10) (value (take 4 (drop 6 s))) (go (drop n s))

-- the first number bounds the depth of the calls, as that of `run` does
abbrev pub version_run : ℕ → List ℕ → ℕ
version_run zero s = 0
version_run (suc k) s = told_by (version_run k) s (length_field s) (broken (header_conditions 0 s (length_field s)))

-- The version that the bytes s of 4D4D's children tell, accepted or not. Where none is told it is 0.
unfoldable pub version_in : List ℕ → ℕ
version_in s = version_run (suc (length s)) s

-- ---- the answer

-- 4D4D, in a file of this version
abbrev pub top : ℕ → Parent
top version = inside (file version) [] 0x4D4D []

-- 4D4D at the start of a file, whose children's bytes are s
abbrev pub figure_at : Parent → List ℕ → Answer Run
figure_at q s = ended q 0 (walk q [] 6 s)

-- THE ANSWER TO A FILE: a refusal, or the children of its 4D4D
unfoldable pub verdict : List ℕ → Answer Run
verdict s = unless (broken (file_conditions s (length_field s))) (figure_at (top (version_in (drop 6 s))) (drop 6 s))
