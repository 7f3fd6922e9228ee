-- Two names that are the same for their first bytes.
use Rattle.std.specs.Prelude.{◌≡◌, ℕ, ◌*◌, ◌/◌, Bool, true, false, List, length, drop}
use Rattle.shared_words.specs.Lists.{same}

-- the names are the same exactly where those behind their first i bytes are
abbrev pub AlikeFor : List ℕ → List ℕ → ℕ → Type 0
AlikeFor xs ys i = same xs ys ≡ same (drop i xs) (drop i ys)

-- that for all whole blocks of four bytes; or one of them differs
abbrev pub BlocksAlike : List ℕ → List ℕ → Bool → Type 0
BlocksAlike xs ys true = AlikeFor xs ys (length xs / 4 * 4)
BlocksAlike xs ys false = same xs ys ≡ false
