-- Those before a chunk: what the rules know of them.
use Rattle.std.specs.Prelude.{ℕ, List, ◌∷◌}
use Rattle.studio_rules.specs.Layout.{Run, end, skip, known}

-- the identifiers of the known chunks of a run that begins after those `seen`, the last of them first
abbrev pub passed : List ℕ → Run → List ℕ
passed seen end = seen
passed seen (skip id body rest) = passed seen rest
passed seen (known id own kids rest) = passed (id ∷ seen) rest
