-- The size of an object, by position.
use Rattle.std.specs.Prelude.{ℕ, zero, suc, ◌+◌, ◌-◌, ◌*◌, ◌/◌, List}
use Rattle.studio_figure_rows.specs.Rows.{entry, sum_to}

-- of smoothing words: none, or a 4150
abbrev pub size_of_words : ℕ → ℕ
size_of_words zero = 0
size_of_words (suc n) = 6 + 4 * suc n

-- what n groups from number g on say, added up
abbrev pub between : ℕ → List ℕ → ℕ → ℕ → ℕ
between j groups g n = sum_to 2 j groups (g + n) - sum_to 2 j groups g

abbrev pub group_bytes : List ℕ → ℕ → ℕ → ℕ
group_bytes groups g n = 9 * n + between 0 groups g n + 2 * between 1 groups g n

abbrev pub object_bytes : List ℕ → List ℕ → ℕ → ℕ
object_bytes objects groups i =
    29 + entry 5 0 objects i + 12 * (entry 5 1 objects i / 3) + 8 * (entry 5 2 objects i / 3) +
    (group_bytes groups (sum_to 5 4 objects i) (entry 5 4 objects i) + size_of_words (entry 5 3 objects i))
