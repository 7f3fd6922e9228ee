-- A stick against its manifest: what must hold of the items that the walk met, in order.
use Rattle.shared_words.specs.declared.Refusal.{Refusal}
use Rattle.std.specs.Prelude.{Bool, true, false, not, ◌&&◌, cond, ℕ, suc, ◌+◌, eqb, ltb, leb, length, Result}
use mathlib.Core.List.{List, [], ◌∷◌, ◌++◌, tail}
use Rattle.std.proofs.Math.Option.{Option, none, some}
use Rattle.shared_words.specs.Lists.{any, total}
use Rattle.shared_words.specs.Conditions.{Condition, must, answered}
use Rattle.shared_words.specs.declared.Refusal.TheVariants.{Unchecked, BadFigure, Unexpected, Absent, Incomplete, NoFigure, Changed}
use Rattle.slip_rules.specs.Slip.{Entry}
use Rattle.slip_sums.specs.Fletcher.{sum_of}
use Rattle.stick_rules.specs.Names.{equal_ignoring_case, belongs, slip_name}
use Rattle.stick_rules.specs.Items.{Item, is_file, is_folder, has_path, is_short, is_listed, listed}
use Rattle.stick_rules.specs.Items.{is_read, has_own_reader, is_accepted, is_figure, has_length_of, has_sums_of}

-- ---- THE MANIFEST, the files that are promised: the slip itself, as a file of the very bytes that are judged here; then those of its entries

abbrev pub slip_entry : List ℕ → Entry
slip_entry slip = record { name = slip_name; file = length slip; first = (sum_of slip).first; second = (sum_of slip).second }

abbrev pub manifest : List ℕ → List Entry → List Entry
manifest slip es = slip_entry slip ∷ es

-- ---- the entry of a path: the first whose name belongs to it, by its index; where there is none, as many as there are

unfoldable pub entry_index : Bool → List Entry → List ℕ → ℕ
entry_index file [] path = 0
entry_index file (e ∷ es) path = cond (belongs file e.name path) 0 (suc (entry_index file es path))

-- of a file, the entry itself
unfoldable pub entry_of : List Entry → List ℕ → Option Entry
entry_of [] path = none
entry_of (e ∷ es) path = cond (equal_ignoring_case e.name path) (some e) (entry_of es path)

-- of an item: a file has the entry of its name, a folder that of the first file that stands in it
abbrev pub index_of : List Entry → Item → ℕ
index_of es t = entry_index (is_file t) es t.path

abbrev pub is_expected : List Entry → Item → Bool
is_expected es t = ltb (index_of es t) (length es)

-- a folder does not have the name of an entry
abbrev pub is_no_entry : List Entry → Item → Bool
is_no_entry es t = leb (length es) (entry_index true es t.path)

abbrev pub entry_is : (Entry → Item → Bool) → Option Entry → Item → Bool
entry_is test none t = false
entry_is test (some e) t = test e t

-- ---- the target of an item: of a file its entry, as (index, 0); of a folder the entry of a file in it, as (index, length of the path)

pub record Target : Type 0 where
  pub entry : ℕ
  pub up_to : ℕ

abbrev pub up_to_of : Item → ℕ
up_to_of t = cond (is_file t) 0 (length t.path)

abbrev pub target_of : List Entry → Item → Target
target_of es t = record { entry = index_of es t; up_to = up_to_of t }

abbrev pub is_target : ℕ → ℕ → Target → Bool
is_target k n x = eqb k x.entry && eqb n x.up_to

-- it is among those that were matched
abbrev pub is_matched : ℕ → ℕ → List Target → Bool
is_matched k n matched = any (is_target k n) matched

-- ---- the first item is the stick's own folder

abbrev pub root_conditions : List Item → List Condition
root_conditions [] = []
root_conditions (t ∷ ts) =
    must (is_folder t) (Unchecked 0) ∷
    must (eqb (length t.path) 0) (Unexpected 0) ∷
    must (is_listed t) (Unchecked 0) ∷ []

-- ---- any other item, the n-th, after items that have matched these targets

-- no item before it has matched the same
abbrev pub is_unmatched : List Entry → List Target → Item → Bool
is_unmatched es matched t = not (is_matched (index_of es t) (up_to_of t) matched)

abbrev pub file_conditions : List Entry → List Target → ℕ → Item → List Condition
file_conditions es matched n t =
    must (has_path t) (Unexpected n) ∷
    must (is_expected es t) (Unexpected n) ∷
    must (is_unmatched es matched t) (Unexpected n) ∷
    must (entry_is has_length_of (entry_of es t.path) t) (Changed n) ∷
    must (is_read t) (Unchecked n) ∷
    must (has_own_reader t) (Unchecked n) ∷
    must (entry_is has_sums_of (entry_of es t.path) t) (Changed n) ∷
    must (is_accepted t) (BadFigure n) ∷ []

abbrev pub folder_conditions : List Entry → List Target → ℕ → Item → List Condition
folder_conditions es matched n t =
    must (is_folder t) (Unchecked n) ∷
    must (has_path t) (Unexpected n) ∷
    must (is_short t) (Unexpected n) ∷
    must (is_no_entry es t) (Unexpected n) ∷
    must (is_expected es t) (Unexpected n) ∷
    must (is_unmatched es matched t) (Unexpected n) ∷
    must (is_listed t) (Unchecked n) ∷ []

unfoldable pub item_conditions : List Entry → List Target → ℕ → Item → List Condition
item_conditions es matched n t = cond (is_file t) (file_conditions es matched n t) (folder_conditions es matched n t)

-- ---- all of them, from the n-th on

abbrev pub matching : List Entry → List Target → Item → List Target
matching es matched t = target_of es t ∷ matched

unfoldable pub items_conditions : List Entry → List Target → ℕ → List Item → List Condition
items_conditions es matched n [] = []
items_conditions es matched n (t ∷ ts) = item_conditions es matched n t ++ items_conditions es (matching es matched t) (suc n) ts

-- the targets of all of them
unfoldable pub matched_by : List Entry → List Target → List Item → List Target
matched_by es matched [] = matched
matched_by es matched (t ∷ ts) = matched_by es (matching es matched t) ts

-- the file of each entry was met, from the k-th on
unfoldable pub entry_conditions : ℕ → List Entry → List Target → List Condition
entry_conditions k [] matched = []
entry_conditions k (e ∷ es) matched = must (is_matched k 0 matched) (Absent k) ∷ entry_conditions (suc k) es matched

-- ---- what only the whole walk can tell

-- it met each name that was listed, and the folder itself: so it was not broken off, and lost none
abbrev pub is_whole : List Item → Bool
is_whole ts = eqb (length ts) (1 + total listed ts)

abbrev pub figure_conditions : List Item → List Condition
figure_conditions ts = must (any is_figure ts) NoFigure ∷ []

abbrev pub rest_conditions : List Entry → List Target → List Item → List Condition
rest_conditions es matched ts = must (is_whole ts) Incomplete ∷ (entry_conditions 0 es matched ++ figure_conditions ts)

-- ---- THE VERDICT on a stick with this manifest and these items

abbrev pub all_conditions : List Entry → List Item → List Condition
all_conditions es ts = root_conditions ts ++ (items_conditions es [] 1 (tail ts) ++ rest_conditions es (matched_by es [] (tail ts)) ts)

unfoldable pub judgement : List Entry → List Item → Result Unit Refusal
judgement es ts = answered (all_conditions es ts)
