-- What the writer of figures judges before it writes: request Q-14's refusals, in order.
use Rattle.shared_words.specs.declared.Refusal.{Refusal}
use Rattle.std.specs.Prelude.{ℕ, ◌+◌, ◌*◌, Bool, false, not, ◌||◌, List, [], ◌∷◌, eqb, leb, ltb, length, Result}
use Rattle.shared_words.specs.declared.Refusal.TheVariants.{TooLong, Name, Number, Index, Count, NoRoom, SameName, NoMaterial, Text}
use Rattle.shared_words.specs.Floats.{finite}
use Rattle.shared_words.specs.Labels.{fits_label, label_fault}
use Rattle.shared_words.specs.Lists.{total, same}
use Rattle.shared_words.specs.Conditions.{Condition, must, broken}
use Rattle.shared_words.specs.Refusals.{limit}
use Rattle.studio_write_judge.specs.Judged.{triples, each_must, not_zero, is_whole_row, answer_of}
use Rattle.studio_figure_rules.specs.Given.{Group, Object, Material, Figure, over, object_names, material_names, all_names, all_group_names}

-- ---- the size, with 6 header bytes for each chunk

abbrev pub group_size : Group → ℕ
group_size g = 9 + length g.name + 2 * length g.faces

abbrev pub smoothing_size : List ℕ → ℕ
smoothing_size [] = 0
smoothing_size (w ∷ ws) = 6 + 4 * length (w ∷ ws)

abbrev pub object_size : Object → ℕ
object_size o =
    29 + length o.name + 12 * triples o.vertices + 8 * triples o.corners +
    (total group_size o.groups + smoothing_size o.smoothing)

abbrev pub material_size : Material → ℕ
material_size m = 58 + length m.name

abbrev pub size_of : Figure → ℕ
size_of f = 12 + (total material_size f.materials + total object_size f.objects)

-- ---- names

-- 9 and 24 of one name
abbrev pub without_zero : List ℕ → List Condition
without_zero name = each_must not_zero name Name ∷ []

abbrev pub is_label : List ℕ → List Condition
is_label name = must (fits_label name) (Text (label_fault name)) ∷ []

-- a name is one of these
abbrev pub one_of : List (List ℕ) → List ℕ → Bool
one_of [] name = false
one_of (n ∷ names) name = same n name || one_of names name

-- names that differ, where `seen` stand before them: the number of the later one
abbrev pub differ : List (List ℕ) → List (List ℕ) → List Condition
differ seen [] = []
differ seen (n ∷ names) = must (not (one_of seen n)) (SameName (length seen)) ∷ differ (n ∷ seen) names

-- ---- the conditions of one object

-- "smoothing words neither none nor one a face"
abbrev pub none_or_each : ℕ → ℕ → Bool
none_or_each words faces = eqb words 0 || eqb words faces

-- 13: "in one object floats, corners, smoothing words, groups"
abbrev pub group_count : Group → List Condition
group_count g = must (leb (length g.faces) 65_535) (Count (length g.faces)) ∷ []

abbrev pub counts : Object → List Condition
counts o =
    must (is_whole_row (length o.vertices)) (Count (length o.vertices)) ∷
    must (is_whole_row (length o.corners)) (Count (length o.corners)) ∷
    must (none_or_each (length o.smoothing) (triples o.corners)) (Count (length o.smoothing)) ∷ over group_count o.groups

-- 11
abbrev pub floats : Object → List Condition
floats o = each_must finite o.vertices Number ∷ []

-- 12: corners, then the face numbers of the groups; f is how many faces there are
abbrev pub group_indices : ℕ → Group → List Condition
group_indices f g = each_must (λ x. ltb x f) g.faces Index ∷ []

abbrev pub indices : Object → List Condition
indices o = each_must (λ c. ltb c (triples o.vertices)) o.corners Index ∷ over (group_indices (triples o.corners)) o.groups

-- ---- the judgement

-- "Within one number objects come before materials", for a buffer of `room` bytes
abbrev pub conditions : Figure → ℕ → List Condition
conditions f room =
    over (λ cs. cs)
    -- 9, a name holds a zero byte (place: its position)
    (over without_zero (all_names f) ∷
    -- 24 (place: the position)
    over is_label (all_names f) ∷
    -- 29, objects first (place: the number of the later)
    differ [] (object_names f) ∷
    differ [] (material_names f) ∷
    -- 30 (place: the number of the face group in the figure)
    (each_must (one_of (material_names f)) (all_group_names f) NoMaterial ∷ []) ∷
    -- 13 (place: that length)
    over counts f.objects ∷
    -- 11, 12 (position in the row or group)
    over floats f.objects ∷
    over indices f.objects ∷
    -- 1, size over 1,048,576 (place 0); 15 (place: the size)
    (must (leb (size_of f) limit) TooLong ∷ must (leb (size_of f) room) (NoRoom (size_of f)) ∷ []) ∷ [])

-- what is answered, where the buffer has `room` bytes: the first fault, or the size
unfoldable pub judged_figure : Figure → ℕ → Result ℕ Refusal
judged_figure f room = answer_of (size_of f) (broken (conditions f room))
