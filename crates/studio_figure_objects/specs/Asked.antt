-- The conditions of a figure, by position: what code asks of each object and group as it goes through the rows.
use Rattle.std.specs.Prelude.{ℕ, ◌+◌, ◌/◌, List, [], ◌∷◌, leb, ltb, Float}
use Rattle.shared_words.specs.declared.Refusal.TheVariants.{Number, Index, Count}
use Rattle.shared_words.specs.Conditions.{Condition, must}
use Rattle.studio_write_judge.specs.Judged.{each_must, is_whole_row, finite_float}
use Rattle.studio_figure_rules.specs.Given.{over}
use Rattle.studio_figure_rules.specs.Judged.{none_or_each}
use Rattle.studio_figure_rows.specs.Rows.{entry, sum_to, run, part}

-- numbers from one on
abbrev pub from : ℕ → ℕ → ℕ
from a j = a + j

-- ---- 13

abbrev pub group_count : List ℕ → ℕ → List Condition
group_count groups g = must (leb (entry 2 1 groups g) 65_535) (Count (entry 2 1 groups g)) ∷ []

abbrev pub group_counts : List ℕ → ℕ → ℕ → List Condition
group_counts groups a n = over (group_count groups) (run (from a) 0 n)

abbrev pub counts : List ℕ → List ℕ → ℕ → List Condition
counts objects groups i =
    must (is_whole_row (entry 5 1 objects i)) (Count (entry 5 1 objects i)) ∷
    must (is_whole_row (entry 5 2 objects i)) (Count (entry 5 2 objects i)) ∷
    must (none_or_each (entry 5 3 objects i) (entry 5 2 objects i / 3)) (Count (entry 5 3 objects i)) ∷
    group_counts groups (sum_to 5 4 objects i) (entry 5 4 objects i)

-- ---- 11

abbrev pub all_finite : List Float → List Condition
all_finite row = each_must finite_float row Number ∷ []

abbrev pub floats : List ℕ → List Float → ℕ → List Condition
floats objects vertices i = all_finite (part (sum_to 5 1 objects i) (entry 5 1 objects i) vertices)

-- ---- 12

abbrev pub all_below : ℕ → List ℕ → List Condition
all_below n row = each_must (λ c. ltb c n) row Index ∷ []

abbrev pub group_index : List ℕ → List ℕ → ℕ → ℕ → List Condition
group_index groups faces f g = all_below f (part (sum_to 2 1 groups g) (entry 2 1 groups g) faces)

abbrev pub group_indices : List ℕ → List ℕ → ℕ → ℕ → ℕ → List Condition
group_indices groups faces f a n = over (group_index groups faces f) (run (from a) 0 n)

abbrev pub indices : List ℕ → List ℕ → List ℕ → List ℕ → ℕ → List Condition
indices objects corners groups faces i =
    each_must (λ c. ltb c (entry 5 1 objects i / 3)) (part (sum_to 5 2 objects i) (entry 5 2 objects i) corners) Index ∷
    group_indices groups faces (entry 5 2 objects i / 3) (sum_to 5 4 objects i) (entry 5 4 objects i)
