-- The judgement of flat rows that fit, by position: what is asked of names, of objects and of the size, in the papers' order.
use Rattle.shared_words.specs.declared.Refusal.{Refusal}
use Rattle.std.specs.Prelude.{ℕ, ◌+◌, ◌*◌, ◌/◌, List, [], ◌∷◌, ◌++◌, leb, Float, length, Result}
use Rattle.shared_words.specs.declared.Refusal.TheVariants.{TooLong, NoRoom, NoMaterial}
use Rattle.shared_words.specs.Conditions.{Condition, must, broken}
use Rattle.shared_words.specs.Refusals.{limit}
use Rattle.studio_write_judge.specs.Judged.{each_must, answer_of}
use Rattle.studio_figure_rules.specs.Given.{over}
use Rattle.studio_figure_rules.specs.Judged.{one_of, differ}
use Rattle.shared_words.specs.Lists.{total}
use Rattle.studio_figure_rows.specs.Rows.{sum_to, run}
use Rattle.studio_figure_names.specs.Names.{names_in, name_asked}
use Rattle.studio_figure_names.specs.declared.Question.{Question}
use Rattle.studio_figure_names.specs.declared.Question.TheVariants.{Zero, Label}
use Rattle.studio_figure_objects.specs.Asked.{counts, floats, indices}
use Rattle.studio_figure_objects.specs.Sizes.{object_bytes}

-- ---- names

abbrev pub object_names : List ℕ → List ℕ → List (List ℕ)
object_names names objects = names_in 5 objects names 0 (length objects / 5)

-- where the names of the materials begin, and those of the groups
abbrev pub materials_at : List ℕ → ℕ
materials_at objects = sum_to 5 0 objects (length objects / 5)

abbrev pub groups_at : List ℕ → List ℕ → ℕ
groups_at objects materials = materials_at objects + sum_to 1 0 materials (length materials)

abbrev pub material_names : List ℕ → List ℕ → List ℕ → List (List ℕ)
material_names names objects materials = names_in 1 materials names (materials_at objects) (length materials)

abbrev pub group_names : List ℕ → List ℕ → List ℕ → List ℕ → List (List ℕ)
group_names names objects materials groups = names_in 2 groups names (groups_at objects materials) (length groups / 2)

-- 9, or 24
abbrev pub text_asked : Question → List ℕ → List ℕ → List ℕ → List Condition
text_asked question names objects materials =
    over (name_asked question) (object_names names objects) ++ over (name_asked question) (material_names names objects materials)

-- 29
abbrev pub same_asked : List ℕ → List ℕ → List ℕ → List Condition
same_asked names objects materials = differ [] (object_names names objects) ++ differ [] (material_names names objects materials)

-- 30
abbrev pub material_asked : List ℕ → List ℕ → List ℕ → List ℕ → List Condition
material_asked names objects materials groups =
    each_must (one_of (material_names names objects materials)) (group_names names objects materials groups) NoMaterial ∷ []

abbrev pub names_asked : List ℕ → List ℕ → List ℕ → List ℕ → List Condition
names_asked names objects materials groups =
    text_asked Zero names objects materials ++
    (text_asked Label names objects materials ++ (same_asked names objects materials ++ material_asked names objects materials groups))

-- ---- objects

abbrev pub numbers : List ℕ → List ℕ
numbers objects = run (λ i. i) 0 (length objects / 5)

-- 13, 11, 12
abbrev pub objects_asked : List ℕ → List Float → List ℕ → List ℕ → List ℕ → List Condition
objects_asked objects vertices corners groups faces =
    over (counts objects groups) (numbers objects) ++
    (over (floats objects vertices) (numbers objects) ++ over (indices objects corners groups faces) (numbers objects))

-- ---- the size

abbrev pub size_of_rows : List ℕ → List ℕ → List ℕ → ℕ
size_of_rows objects groups materials =
    12 + (58 * length materials + sum_to 1 0 materials (length materials)) + total (object_bytes objects groups) (numbers objects)

-- 1, 15
abbrev pub size_asked : ℕ → ℕ → List Condition
size_asked size room = must (leb size limit) TooLong ∷ must (leb size room) (NoRoom size) ∷ []

unfoldable pub size_answer : ℕ → ℕ → Result ℕ Refusal
size_answer size room = answer_of size (broken (size_asked size room))
