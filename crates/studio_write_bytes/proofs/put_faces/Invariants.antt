-- `studio_write_bytes::put_faces` meets its contract: after i turns the first i faces are put.
use mathlib.Core.Path.{◌≡◌}
use Prim.Native.Nat.{◌+◌, ◌*◌}
use lib.ListN.{length}
use Rattle.shared_words.specs.Bytes.{packed}
use Rattle.studio_write_bytes.specs.Bare.{face_words}
use Rattle.shared_numbers.specs.Put.{Put}
use Rattle.studio_write_bytes.proofs.put_faces.Given as goal

abbrev pub invariant-loop-i : goal.invariant-loop-i
invariant-loop-i l = (length l.out ≡ length l.initial.out) × (l.next ≡ l.at + 8 * l.i) × Put l.initial.out l.at (packed 2 (face_words l.i l.corners)) l.out l.next
