-- A file by the children of its 3D3D, and by what stands around it.
use Rattle.std.specs.Prelude.{◌≡◌, ℕ, List, []}
use Rattle.shared_words.specs.Bytes.{Bytes}
use Rattle.shared_words.specs.Conditions.{accepted}
use Rattle.studio_rules.specs.Layout.{Run, known, figure, bytes, ◌then◌}
use Rattle.studio_rules.specs.Walk.{verdict}

-- the children of a 4D4D, of which one is 3D3D
abbrev pub holding : Run → Run → Run → Run
holding before scene after = before then known 0x3D3D [] scene after

-- the file whose 4D4D has them
abbrev pub file_of : Run → Run → Run → List ℕ
file_of before scene after = bytes (figure (holding before scene after))

-- Every accepted file has a 3D3D.
abbrev pub Holds3D3D : Type 0
Holds3D3D = (s : List ℕ) (kids : Run) → Bytes s → verdict s ≡ accepted kids → (before scene after : Run) × (kids ≡ holding before scene after)
