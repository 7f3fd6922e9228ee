-- Bytes put into a buffer at a position: what the functions that write promise.
use Rattle.std.specs.Prelude.{◌≡◌, ℕ, ◌+◌, List, ◌++◌, length, take, drop}

-- a buffer with new bytes from a position on
abbrev pub placed : List ℕ → ℕ → List ℕ → List ℕ
placed out at new = take at out ++ (new ++ drop (at + length new) out)

-- the buffer `after` is the buffer `out` with new bytes at `at`, and `next` is the position behind them
pub record Put (out : List ℕ) (at : ℕ) (new after : List ℕ) (next : ℕ) : Type 0 where
  pub is : after ≡ placed out at new
  pub ends : next ≡ at + length new
