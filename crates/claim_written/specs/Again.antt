-- "Writing again what was read from an accepted file of just these six chunks, in this order and with flag words 0, gives the same
-- file": of the calls, in one sentence.
use Rattle.std.specs.Prelude.{◌≡◌, true, List, [], ◌∷◌, map, ℕ, ◌≤◌, eqb, Float, length, take, Ok}
use Rattle.std.proofs.Math.Option.{some}
use Rattle.std.proofs.Math.ListN.{get_elem?}
use Rattle.shared_words.specs.Bytes.{Bytes}
use Rattle.shared_words.specs.Lists.{every}
use Rattle.shared_words.specs.Effects.{leaving, filled}
use Rattle.shared_words.specs.Encodings.{plain_row}
use Rattle.studio_rules.specs.declared.Record.{Record}
use Rattle.studio_rules.specs.declared.Counts.{Counts}
use Rattle.studio_rules.specs.Calls.{list_call}
use Rattle.studio_write.specs.Write.{write_call}
use Rattle.studio_write.specs.WritesAgain.{face_flags, WereRead}
use Rattle.studio_figure_rules.specs.ReadsBack.{chunk_in}

-- what the list says of a file of just these six chunks, in this order and with flag words 0
pub record SixChunks (s : List ℕ) : Type 0 where
  pub table : List Record
  pub counts : Counts
  pub listed : (list_call plain_row s table).answer ≡ Ok counts
  pub none-skipped : counts.skipped ≡ 0
  pub in_order : map (λ (r : Record). r.identifier) (take counts.records (list_call plain_row s table).rows) ≡
      0x4D4D ∷ 0x3D3D ∷ 0x4000 ∷ 0x4100 ∷ 0x4110 ∷ 0x4120 ∷ []
  pub faces : Record
  pub faces_sixth : get_elem? (take counts.records (list_call plain_row s table).rows) 5 ≡ some faces
  pub flags-zero : every (λ flag. eqb flag 0) (face_flags (chunk_in s faces).own) ≡ true

abbrev pub SameFileAgain : Type 0
SameFileAgain = (s : List ℕ) → Bytes s → SixChunks s → (name : List ℕ) (vertices : List Float) (corners : List ℕ) → WereRead s name vertices corners →
    (out : List ℕ) → length s ≤ length out → write_call name vertices corners out ≡ leaving (Ok (length s)) (filled s out)
