-- The names of flat rows: what is asked of each, and of all of them.
use Rattle.shared_words.specs.declared.Refusal.{Refusal}
use Rattle.std.specs.Prelude.{◌≡◌, ℕ, ◌+◌, ◌*◌, ◌<◌, ◌≤◌, Bool, cond, List, [], ltb, length, IfSome, Result, Ok, Err}
use Rattle.std.specs.Option.{unwrap_or}
use Rattle.shared_words.specs.declared.Refusal.TheVariants.{SameName}
use Rattle.shared_words.specs.Lists.{first_fault}
use Rattle.shared_words.specs.Conditions.{Condition, answered}
use Rattle.shared_name_tree.specs.Names.{name_of, held, Holds}
use Rattle.studio_figure_rules.specs.Judged.{without_zero, is_label, one_of, differ}
use Rattle.studio_figure_rows.specs.Rows.{run, part, name_at}
use Rattle.studio_figure_names.specs.declared.Told.{Told}
use Rattle.studio_figure_names.specs.declared.Question.{Question}
use Rattle.studio_figure_names.specs.declared.Question.TheVariants.{Zero, Label}

-- the first n names of a row of things of k numbers, where the first name begins at a position
abbrev pub names_in : ℕ → List ℕ → List ℕ → ℕ → ℕ → List (List ℕ)
names_in k row names from n = run (name_at k row names from) 0 n

-- 9, or 24
abbrev pub name_asked : Question → List ℕ → List Condition
name_asked Zero name = without_zero name
name_asked Label name = is_label name

-- what a closure answers at a position and a length, up to an end, tells whether the name there is good
abbrev pub Tells : (ℕ → ℕ → Bool → Type 0) → ℕ → List ℕ → (List ℕ → Bool) → Type 0
Tells answer end names good = (at len : ℕ) (b : Bool) → at + len ≤ end → answer at len b → b ≡ good (part at len names)

-- ---- what is asked of names, and of groups against them

-- the answer by the first of n names that is among those before it; where none is, that is no less than n
abbrev pub repeated_answer : ℕ → ℕ → Result Unit Refusal
repeated_answer r n = cond (ltb r n) (Err (SameName r)) (Ok tt)

abbrev pub Repeated : (ℕ → List ℕ) → ℕ → ℕ → Type 0
Repeated name n r = repeated_answer r n ≡ answered (differ [] (run name 0 n))

-- where code names none, the definitions count all
pub record ToldOf (name : ℕ → List ℕ) (n : ℕ) (groups : List (List ℕ)) (m : ℕ) (told : Told) : Type 0 where
  pub differ : Repeated name n (unwrap_or told.repeated n)
  pub differ_within : IfSome told.repeated (λ i. i < n)
  pub named : unwrap_or told.unnamed m ≡ first_fault (one_of (run name 0 n)) groups
  pub named_within : IfSome told.unnamed (λ i. i < m)

-- ---- names in a tree

-- a row without nodes, with room for n names
pub record Blank (names nodes : List ℕ) (n : ℕ) : Type 0 where
  pub none : Holds names nodes 0
  pub room : 4 * n ≤ length nodes
  pub few : n < 4294967296
  pub short : length names < 4294967296

-- the first `count` of n names differ, and a tree holds them: all, or those before one that is among them
pub record Gathered (names : List ℕ) (name : ℕ → List ℕ) (n count : ℕ) (nodes : List ℕ) : Type 0 where
  pub few : count ≤ n
  pub holds : Holds names nodes count
  pub those : (x : List ℕ) → held (name_of names nodes) count x ≡ one_of (run name 0 count) x
  pub differ : Repeated name n count
