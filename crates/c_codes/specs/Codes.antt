-- An answer as the one number for C of include/tds.h. An answer proper is below 2^32, so it is never mistaken for a refusal: crate
-- claim_numbers proves it of every call.
use Rattle.studio_rules.specs.declared.Sizes.{Sizes}
use Rattle.studio_rules.specs.declared.Counts.{Counts}
use Rattle.std.specs.Prelude.{ℕ, ◌+◌, ◌-◌, ◌*◌, ◌^◌, min, Result, Ok, Err}
use Rattle.shared_words.specs.declared.Refusal.{Refusal}
use Rattle.shared_words.specs.Refusals.{number_of, place_of}

-- for a refusal its number times 2^32 plus its place, which is capped where it needs more than 32 bits
abbrev pub refusal_code : Refusal → ℕ
refusal_code r = number_of r * 2 ^ 32 + min (place_of r) (2 ^ 32 - 1)

-- else the count of records
abbrev pub records_or : Result Counts Refusal → ℕ
records_or (Ok c) = c.records
records_or (Err r) = refusal_code r

-- for the tables vertices plus 65,536 times faces
abbrev pub sizes_or : Result Sizes Refusal → ℕ
sizes_or (Ok n) = n.vertices + 65_536 * n.faces
sizes_or (Err r) = refusal_code r

-- for the mapping how many numbers it has, two a pair
abbrev pub numbers_or : Result Sizes Refusal → ℕ
numbers_or (Ok n) = 2 * n.pairs
numbers_or (Err r) = refusal_code r

-- for the others the count: of entries, objects, parts, meshes, numbers filled; for the writers the size
abbrev pub count_or : Result ℕ Refusal → ℕ
count_or (Ok n) = n
count_or (Err r) = refusal_code r
