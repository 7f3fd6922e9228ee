-- How the records of the list, and the parts, stand in a lent row: as numbers, or as little-endian bytes. (Records as structs
-- are a plain_row.)
use Rattle.std.specs.Prelude.{ℕ, ◌*◌, ◌/◌, List, [], ◌∷◌}
use Rattle.shared_words.specs.Bytes.{packed}
use Rattle.shared_words.specs.Encodings.{Encoding}
use Rattle.studio_rules.specs.declared.Record.{Record}
use Rattle.studio_rules.specs.Gives.{record_numbers, flat, Part}

-- ---- records

-- its numbers each
abbrev pub flat_records : Encoding Record ℕ
flat_records = record { room = λ n. n / record_numbers; encode = flat }

-- its numbers each, four bytes a number
abbrev pub record_bytes : Encoding Record ℕ
record_bytes = record { room = λ n. n / (4 * record_numbers); encode = λ rs. packed 4 (flat rs) }

-- ---- parts

-- two numbers each
abbrev pub flat_parts : List Part → List ℕ
flat_parts [] = []
flat_parts (p ∷ ps) = p.father ∷ p.depth ∷ flat_parts ps

abbrev pub part_row : Encoding Part ℕ
part_row = record { room = λ n. n / 2; encode = flat_parts }

-- two numbers each, four bytes a number
abbrev pub part_bytes : Encoding Part ℕ
part_bytes = record { room = λ n. n / 8; encode = λ ps. packed 4 (flat_parts ps) }
