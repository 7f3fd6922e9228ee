-- THE EMPTY PART at the boundary of C, where it is the number 0: first or second, it changes nothing.
use Rattle.std.specs.Prelude.{◌≡◌, List, ℕ}
use Rattle.slip_sums.specs.declared.Sum.{Sum}
use Rattle.c_sums.specs.Numbers.{number_of, Handed, part_number, join_numbers}

-- of every number that is handed on
abbrev pub EmptyPart : Type 0
EmptyPart = (a : Sum) → Handed a → (join_numbers 0 (number_of a) ≡ number_of a) × (join_numbers (number_of a) 0 ≡ number_of a)

-- so of the number of any part
abbrev pub EmptyBeside : Type 0
EmptyBeside = (part : List ℕ) → (join_numbers 0 (part_number part) ≡ part_number part) × (join_numbers (part_number part) 0 ≡ part_number part)
