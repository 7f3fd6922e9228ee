-- Where 3D3D stands in a damaged figure, and what stands around its children.
use Rattle.std.specs.Prelude.{ℕ, zero, suc, ◌+◌, cond, List, eqb, length, take, drop, Result, Err, Ok}
use Rattle.std.proofs.Math.Option.{Option, none, some}
use Rattle.shared_words.specs.declared.Refusal.{Refusal}
use Rattle.shared_words.specs.Bytes.{value}
use Rattle.shared_words.specs.Conditions.{broken, Answer, refused, accepted}
use Rattle.studio_rules.specs.Layout.{Run, offset_of}
use Rattle.studio_rules.specs.Walk.{header_conditions, length_field}
use Rattle.studio_rescue_around.specs.declared.Scene.{Scene}

-- How many bytes of the children s of 4D4D, the first of which stands at o, come before its first 3D3D: they are stepped over by
-- their lengths. Before a bad header (4, 5 or 6) none is found, and all of them do.
abbrev pub ahead_by : (ℕ → List ℕ → ℕ) → ℕ → List ℕ → ℕ → Option Refusal → ℕ
ahead_by go o s n (some r) = length s
ahead_by go o s n none = cond (eqb (value (take 2 s)) 0x3D3D) 0 (n + go (o + n) (drop n s))

-- the first number bounds the depth of the calls, as that of the walk does
abbrev pub ahead_run : ℕ → ℕ → List ℕ → ℕ
ahead_run zero o s = 0
ahead_run (suc k) o s = ahead_by (ahead_run k) o s (length_field s) (broken (header_conditions o s (length_field s)))

unfoldable pub ahead : ℕ → List ℕ → ℕ
ahead o s = ahead_run (suc (length s)) o s

-- where 3D3D begins and ends
abbrev pub scene_from : ℕ → ℕ → Result Scene Refusal
scene_from at stop = Ok record { at = at; stop = stop }

-- the first fault outside 3D3D's children; or where 3D3D begins and ends in the file s, whose mended 4D4D has these children
abbrev pub outside_of : List ℕ → Answer Run → Result Scene Refusal
outside_of s (refused r) = Err r
outside_of s (accepted kids) = scene_from (offset_of 0x3D3D 6 kids) (offset_of 0x3D3D 6 kids + length_field (drop (offset_of 0x3D3D 6 kids) s))
