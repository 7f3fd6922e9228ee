-- Numbers as text, in ASCII.
use Rattle.std.specs.Prelude.{ℕ, zero, suc, ◌+◌, ◌/◌, ◌%◌, cond, List, [], ◌∷◌, ◌++◌, ltb}

-- the digit of a number below 16: 0 to 9, then A to F
abbrev pub glyph : ℕ → ℕ
glyph d = cond (ltb d 10) (48 + d) (55 + d)

-- a number in decimal, where so many divisions by ten and no more are made
unfoldable pub numeral : ℕ → ℕ → List ℕ
numeral zero n = glyph n ∷ []
numeral (suc turns) n = cond (ltb n 10) (glyph n ∷ []) (numeral turns (n / 10) ++ (glyph (n % 10) ∷ []))

-- A NUMBER IN DECIMAL, with no zero in front: after n divisions nothing is left of n
unfoldable pub decimal : ℕ → List ℕ
decimal n = numeral n n

-- FOUR DIGITS in hexadecimal, the last four of the number
abbrev pub four_digits : ℕ → List ℕ
four_digits n = glyph (n / 4096 % 16) ∷ glyph (n / 256 % 16) ∷ glyph (n / 16 % 16) ∷ glyph (n % 16) ∷ []
