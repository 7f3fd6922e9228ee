-- Numbers in a header or a body: least byte first ("short" and "long" of source 003).
use Rattle.std.specs.Prelude.{List, ℕ, take, drop}
use Rattle.shared_words.specs.Bytes.{value}

-- the number of w bytes that stands at an offset
abbrev pub field : ℕ → ℕ → List ℕ → ℕ
field o w s = value (take w (drop o s))
