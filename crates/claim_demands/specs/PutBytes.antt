-- DEMAND 3, in bytes: the file with the chunks is the old one, with their bytes put in and the length of every chunk around raised. So
-- said: the bytes put in taken out of it again leave the old file, but for the length fields of its known chunks.
use Rattle.std.specs.Prelude.{◌≡◌, List, [], ◌∷◌, ◌++◌, ℕ, ◌+◌, take, drop}
use Rattle.studio_rules.specs.declared.Record.{Record}
use Rattle.studio_rules.specs.Layout.{figure, bytes, with_length}
use Rattle.studio_rules.specs.Gives.{list}
use Rattle.studio_rules.specs.Gaps.{Marked, without, with, Piece}
use Rattle.studio_rules.specs.Theorems.{put_in}

-- the bytes of pieces taken out, the last piece first, so that those before it stand where they stood
abbrev pub taken_out : List Piece → List ℕ → List ℕ
taken_out [] s = s
taken_out (p ∷ ps) s = take p.at (taken_out ps s) ++ drop (p.at + p.len) (taken_out ps s)

-- the length fields of the chunks of some records, each set to the length in the other list
abbrev pub raised : List Record → List Record → List ℕ → List ℕ
raised [] new s = s
raised (r ∷ old) [] s = s
raised (r ∷ old) (r' ∷ new) s = raised old new (with_length r.offset r'.len s)

abbrev pub BytesPutIn : Type 0
BytesPutIn = (m : Marked) → taken_out (put_in m) (bytes (figure (with m))) ≡ raised (list (without m)) (list (with m)) (bytes (figure (without m)))
