-- `studio_write_bytes::put_floats` meets its contract: after i turns the first i floats are put.
use mathlib.Core.Path.{◌≡◌}
use Prim.Native.Nat.{◌+◌, ◌*◌}
use mathlib.Core.List.{map}
use lib.Ieee.{binary32, to_bits}
use lib.ListN.{length, take}
use Rattle.shared_words.specs.Bytes.{packed}
use Rattle.shared_numbers.specs.Put.{Put}
use Rattle.studio_write_bytes.proofs.put_floats.Given as goal

abbrev pub invariant-loop-x : goal.invariant-loop-x
invariant-loop-x l = (length l.out ≡ length l.initial.out) × (l.next ≡ l.at + 4 * l.x-index) × Put l.initial.out l.at (packed 4 (take l.x-index (map (to_bits binary32) l.vertices))) l.out l.next
