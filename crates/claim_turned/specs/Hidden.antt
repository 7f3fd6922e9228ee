-- Where it does not hold: the length field of an UNLISTED chunk. Its inside is never looked at, so a longer one hides the
-- chunks that follow it, and the file is accepted without them. Worked cases, and why 24 bytes is the least.
use Rattle.std.specs.Prelude.{◌≡◌, ℕ, ◌≤◌, ◌<◌, List, [], ◌∷◌, length, set}
use Rattle.studio_rules.specs.Layout.{Run, end, skip, figure, bytes, ◌then◌, with_length}
use Rattle.studio_rules.specs.Rules.{Meets}
use Rattle.studio_rules.specs.Walk.{verdict}
use Rattle.studio_rules.specs.Gives.{record_count, skipped}
use Rattle.studio_rules.specs.Calls.{check_call}
use Rattle.studio_rules.specs.Samples.{no, show_all, list_in}
use Rattle.studio_rules.specs.Readings.{plain, scene}

-- 3D3D holds an unlisted 8123, at 12, and a 1470, at 18, both empty: 24 bytes
abbrev pub with1470 : List ℕ
with1470 = bytes (figure (scene (skip 0x8123 [] end then plain 0x1470 [])))

-- the same with a 1420, which has two bytes of own data
abbrev pub with1420 : List ℕ
with1420 = bytes (figure (scene (skip 0x8123 [] end then plain 0x1420 (0 ∷ 0 ∷ []))))

-- 3D3D is empty, and an unlisted 8123 follows it: 18 bytes
abbrev pub beside : List ℕ
beside = bytes (figure (scene end then skip 0x8123 [] end))

pub record Hidden : Type 0 where
  -- the length of the 8123 set from 6 to 12: accepted, and the 1470 is gone
  pub there : list_in (verdict with1470) ≡ 0x4D4D ∷ 0 ∷ 24 ∷ 0 ∷ 0 ∷ 0 ∷ 3 ∷ 0x3D3D ∷ 6 ∷ 18 ∷ 1 ∷ 0 ∷ 0 ∷ 3 ∷ 0x1470 ∷ 18 ∷ 6 ∷ 2 ∷ 1 ∷ 0 ∷ 3 ∷ []
  pub gone : list_in (verdict (with_length 12 12 with1470)) ≡ 0x4D4D ∷ 0 ∷ 24 ∷ 0 ∷ 0 ∷ 0 ∷ 2 ∷ 0x3D3D ∷ 6 ∷ 18 ∷ 1 ∷ 0 ∷ 0 ∷ 2 ∷ []
  -- by one bit, from 6 to 14 in the lowest byte: the 1420 is gone
  pub there-bit : list_in (verdict with1420) ≡ 0x4D4D ∷ 0 ∷ 26 ∷ 0 ∷ 0 ∷ 0 ∷ 3 ∷ 0x3D3D ∷ 6 ∷ 20 ∷ 1 ∷ 0 ∷ 0 ∷ 3 ∷ 0x1420 ∷ 18 ∷ 8 ∷ 2 ∷ 1 ∷ 2 ∷ 3 ∷ []
  pub gone-bit : list_in (verdict (set with1420 14 0b1110)) ≡ 0x4D4D ∷ 0 ∷ 26 ∷ 0 ∷ 0 ∷ 0 ∷ 2 ∷ 0x3D3D ∷ 6 ∷ 20 ∷ 1 ∷ 0 ∷ 0 ∷ 2 ∷ []
  -- beside it the lengths of the known chunks, the 1470, the 3D3D and the 4D4D: refused
  pub known-refused :
      show_all (check_call (with_length 18 7 with1470) ∷ check_call (with_length 6 12 with1470) ∷ check_call (with_length 0 22 with1470) ∷ []) ≡
      no 5 18 ∷ no 7 18 ∷ no 3 22 ∷ []
  -- and a 3D3D that takes in the unlisted chunk behind it: accepted, one length is another
  pub apart : list_in (verdict beside) ≡ 0x4D4D ∷ 0 ∷ 18 ∷ 0 ∷ 0 ∷ 0 ∷ 2 ∷ 0x3D3D ∷ 6 ∷ 6 ∷ 1 ∷ 0 ∷ 0 ∷ 2 ∷ []
  pub taken_in : list_in (verdict (with_length 6 12 beside)) ≡ 0x4D4D ∷ 0 ∷ 18 ∷ 0 ∷ 0 ∷ 0 ∷ 2 ∷ 0x3D3D ∷ 6 ∷ 12 ∷ 1 ∷ 0 ∷ 0 ∷ 2 ∷ []

-- NONE IS SMALLER: a file with an unlisted chunk and more known chunks than some other accepted file has 24 bytes or more.
abbrev pub NoneSmaller : Type 0
NoneSmaller =
    (s s' : List ℕ) (kids kids' : Run) → Meets s kids → Meets s' kids' →
    record_count (figure kids') < record_count (figure kids) → 0 < skipped (figure kids) → 24 ≤ length s
