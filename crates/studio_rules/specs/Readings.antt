-- Worked cases for the places where the paper leaves room (docs/DECISIONS.md) or where others have gone wrong, and for the
-- requests: what is answered, and of several faults which. One list under one statement, like P1 to P12. (More cases are
-- run, not proved: the differ's named cases in second/.)
use Rattle.std.specs.Prelude.{◌≡◌, ℕ, ◌*◌, List, [], ◌∷◌, ◌++◌, map, replicate}
use Rattle.studio_rules.specs.OwnData.{root}
use Rattle.shared_words.specs.Bytes.{le}
use Rattle.studio_rules.specs.Layout.{Run, end, skip, known, figure, bytes, ◌then◌}
use Rattle.shared_words.specs.Conditions.{Answer, refused, accepted}
use Rattle.studio_rules.specs.Walk.{verdict}
use Rattle.studio_rules.specs.Gives.{Part, parts, meshes}
use Rattle.studio_rules.specs.Calls.{check_call}
use Rattle.studio_rules.specs.Samples.{Shown, no, yes, shown}

-- ---- figures, as layouts that need not obey the rules

-- a chunk without children
abbrev pub plain : ℕ → List ℕ → Run
plain id own = known id own end end

-- 3D3D stands at 6, its children begin at 12
abbrev pub scene : Run → Run
scene kids = known 0x3D3D [] kids end

-- an object named "A": its children begin 8 bytes behind it, those of a mesh in it 14
abbrev pub object : Run → Run
object kids = known 0x4000 (0x41 ∷ 0 ∷ []) kids end

abbrev pub mesh : Run → Run
mesh kids = object (known 0x4100 [] kids end)

-- 4110 with one vertex (20 bytes), of which the first number is given; 4120 with one face (16 bytes) and its children;
-- 4140 with m pairs (8 bytes, and 8 for each); 0002 (10 bytes)
abbrev pub vertex : ℕ → Run
vertex x = plain 0x4110 (1 ∷ 0 ∷ le 4 x ++ (0 ∷ 0 ∷ 0 ∷ 0 ∷ 0 ∷ 0 ∷ 0 ∷ 0 ∷ []))

abbrev pub face : ℕ → Run → Run
face corner kids = known 0x4120 (1 ∷ 0 ∷ corner ∷ 0 ∷ 0 ∷ 0 ∷ 0 ∷ 0 ∷ 0 ∷ 0 ∷ []) kids end

abbrev pub pairs : ℕ → Run
pairs m = plain 0x4140 (m ∷ 0 ∷ replicate (8 * m) 1)

abbrev pub told : ℕ → Run
told version = plain 0x0002 (le 4 version)

-- 4700 with so many bytes before its children
abbrev pub camera : ℕ → Run → Run
camera n kids = known 0x4700 (replicate n 0) kids end

-- B000 behind an empty 3D3D, at 12: its children begin at 18
abbrev pub keyframer : Run → Run
keyframer kids = scene end then known 0xB000 [] kids end

-- B010 named "p" (14 bytes), and B002 that holds it (20 bytes)
abbrev pub hangs_on : ℕ → Run
hangs_on f = plain 0xB010 (0x70 ∷ 0 ∷ 0 ∷ 0 ∷ 0 ∷ 0 ∷ le 2 f)

abbrev pub part : ℕ → Run
part f = known 0xB002 [] (hangs_on f) end

-- ---- the cases, and what is answered

pub record Case : Type 0 where
  pub kids : Run
  pub answer : Shown

abbrev pub gives : Run → Shown → Case
gives kids answer = record { kids = kids; answer = answer }

abbrev pub cases : List Case
cases =
    -- 7: a second 4D4D, under a chunk
    gives (scene end then plain 0x4D4D []) (no 7 12) ∷
    -- 8 comes before 10: a second 0002, of wrong length
    gives (plain 0x0002 (0 ∷ 0 ∷ 0 ∷ 0 ∷ []) then plain 0x0002 [] then scene end) (no 8 16) ∷
    -- 8: a mesh and a light in one object, taken together; two 4150 in one 4120
    gives (scene (object (plain 0x4100 [] then plain 0x4600 (replicate 12 0)))) (no 8 26) ∷
    gives (scene (mesh (known 0x4120 (0 ∷ 0 ∷ []) (plain 0x4150 [] then plain 0x4150 []) end))) (no 8 40) ∷
    -- 9: a 4130 with an empty body
    gives (scene (mesh (vertex 0 then face 0 (plain 0x4130 [])))) (no 9 62) ∷
    -- Q-8: 63 bytes of a name fit the label, 64 do not; neither do 31 and 127; 24 comes after 9 and before 10
    gives (scene (plain 0x4000 (replicate 63 126 ++ (0 ∷ [])))) (yes 18 64 0) ∷
    gives (scene (plain 0x4000 (replicate 64 126 ++ (0 ∷ [])))) (no 24 12) ∷
    gives (scene (object (known 0x4600 (replicate 12 0) (known 0x4610 (replicate 20 0) (plain 0x4653 (127 ∷ 0 ∷ [])) end) end))) (no 24 64) ∷
    gives (scene (known 0xAFFF [] (plain 0xA000 (replicate 64 31)) end)) (no 9 18) ∷
    gives (scene (mesh (vertex 0 then face 0 (plain 0x4130 (31 ∷ 0 ∷ 0 ∷ []))))) (no 24 62) ∷
    -- 10: a byte left over where no children may follow
    gives (scene (plain 0x1470 (0 ∷ []))) (no 10 12) ∷
    -- 11: infinite
    gives (scene (mesh (vertex 0x7F80_0000))) (no 11 26) ∷
    -- 12: the one entry of a 4130 is f, which is 2; it is met before the bad corner of the same 4120
    gives (scene (mesh (vertex 0 then known 0x4120 (2 ∷ 0 ∷ 1 ∷ replicate 15 0) (plain 0x4130 (0x6D ∷ 0 ∷ 1 ∷ 0 ∷ 2 ∷ 0 ∷ [])) end))) (no 12 70) ∷
    -- 12: a corner in a second mesh; corners are judged at the mesh's end, so that 4110 may come after 4120
    gives (scene (mesh (vertex 0 then face 0 end) then mesh (face 1 end then vertex 0))) (no 12 76) ∷
    -- 12 before 13, wherever the 4140 stands
    gives (told 3 then scene (mesh (pairs 0 then vertex 0 then face 1 end))) (no 12 64) ∷
    -- Q-6, 13: fewer pairs than vertices in a file of version 3; it may be told behind 3D3D and a 0002 of another length,
    -- for which the file would be refused later
    gives (told 3 then scene (mesh (pairs 0 then vertex 0))) (no 13 36) ∷
    gives (scene (mesh (pairs 0 then vertex 0)) then plain 0x0002 (replicate 5 0) then told 3) (no 13 26) ∷
    -- not in an older file; and more of them in any, so any where there is no 4110
    gives (told 2 then scene (mesh (pairs 0 then vertex 0))) (yes 42 22 0) ∷
    gives (scene (mesh (pairs 2 then vertex 0))) (no 13 26) ∷
    gives (scene (mesh (pairs 1))) (no 13 26) ∷
    -- 14: a material without its name, met at its end
    gives (scene (known 0xAFFF [] (plain 0xA010 []) end)) (no 14 12) ∷
    -- an unlisted chunk is skipped, whatever stands inside it
    gives (skip 0x3E3D (0x4D ∷ 0x4D ∷ 0 ∷ []) end then scene end) (yes 12 0 9) ∷
    -- Q-1: a camera may hold unlisted chunks behind its 32 bytes; 10 only where it is too short; 6
    gives (scene (object (camera 32 (skip 0x4720 (0 ∷ []) end)))) (yes 24 34 7) ∷
    gives (scene (object (camera 31 end))) (no 10 20) ∷
    gives (scene (object (camera 33 end))) (no 6 58) ∷
    -- Q-7: 23 for a part that hangs on itself, or on a number that counts other chunks too; 24 and then 10 come before it
    gives (keyframer (part root then part 0)) (yes 42 16 0) ∷
    gives (keyframer (part 0)) (no 23 24) ∷
    gives (keyframer (part root then skip 0xB001 (0 ∷ 0 ∷ 0 ∷ 0 ∷ []) end then part 1)) (no 23 54) ∷
    gives (keyframer (known 0xB002 [] (plain 0xB010 (31 ∷ 0 ∷ replicate 7 0)) end)) (no 24 24) ∷
    gives (keyframer (known 0xB002 [] (plain 0xB010 (0x70 ∷ 0 ∷ replicate 7 0)) end)) (no 10 24) ∷
    -- 14, 8 and 7: a B002 without its B010; two B010, two B000; a B002 in 3D3D
    gives (keyframer (plain 0xB002 [])) (no 14 18) ∷
    gives (keyframer (known 0xB002 [] (hangs_on root then hangs_on root) end)) (no 8 38) ∷
    gives (keyframer end then plain 0xB000 []) (no 8 18) ∷
    gives (scene (part root)) (no 7 12) ∷ []

abbrev pub answered : Case → Shown
answered c = shown (check_call (bytes (figure c.kids)))

abbrev pub Readings : Type 0
Readings = map answered cases ≡ map (λ c. c.answer) cases

-- ---- mapping pairs, as they are given out

abbrev pub mappings_in : Answer Run → List (List ℕ)
mappings_in (refused r) = []
mappings_in (accepted kids) = map (λ m. m.mapping) (meshes kids)

-- 4110 with two vertices
abbrev pub vertices : Run
vertices = plain 0x4110 (2 ∷ 0 ∷ replicate 24 0)

-- two vertices and one pair, and the other, which is zero; two and no pair in a 4140; no 4140
abbrev pub Mappings : Type 0
Mappings = mappings_in (verdict (bytes (figure (scene (mesh (pairs 1 then vertices) then mesh (pairs 0 then vertices) then mesh vertices))))) ≡
    (0x0101_0101 ∷ 0x0101_0101 ∷ 0 ∷ 0 ∷ []) ∷ (0 ∷ 0 ∷ 0 ∷ 0 ∷ []) ∷ [] ∷ []

-- ---- the parts, as they are given out

abbrev pub parts_in : Answer Run → List Part
parts_in (refused r) = []
parts_in (accepted kids) = parts kids

abbrev pub reading : Run → Answer Run
reading kids = verdict (bytes (figure kids))

abbrev pub at : ℕ → ℕ → Part
at father depth = record { father = father; depth = depth }

pub record Worked : Type 0 where
  -- father and depth of each part
  pub tree : parts_in (reading (keyframer (part root then part 0 then part 1 then part 0 then part root))) ≡
      at root 0 ∷ at 0 1 ∷ at 1 2 ∷ at 0 1 ∷ at root 0 ∷ []
