-- One number put, where there is room.
use native.Mathlib.Omega.{arith}
use Rattle.shared_numbers.proofs.Put.{put_byte}
use Rattle.c4d_object.proofs.note.Goals as goal

pub returns-then-at-notes : goal.returns-then-at-notes
returns-then-at-notes c = λ h. let a = c.args in put_byte a.notes.now a.at a.number h

pub returns-else-at-notes : goal.returns-else-at-notes
returns-else-at-notes c = λ h. absurd (omega arith)
