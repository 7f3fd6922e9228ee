-- Worked cases of the rescue: what is kept, what is cut and why, and what is beyond it. One list under one statement.
use Rattle.std.specs.Prelude.{◌≡◌, ℕ, List, [], ◌∷◌, ◌++◌, map}
use Rattle.shared_words.specs.Refusals.{code_of}
use Rattle.studio_rules.specs.Layout.{Run, end, skip, figure, bytes, ◌then◌}
use Rattle.studio_rules.specs.Readings.{plain, scene, mesh, vertex, face, pairs, told}
use Rattle.studio_rescue_rules.specs.Rescue.{Rescued, beyond, saved, rescue}
use Rattle.studio_rescue_rules.specs.Call.{flat}

-- an answer as it is reported: a refusal's number and place; or the file and of each cut its offset, number and bytes
pub data Shown : Type 0 where
  no : ℕ → ℕ → Shown
  yes : List ℕ → List ℕ → Shown

abbrev pub shown : Rescued → Shown
shown (beyond r) = no (code_of r).number (code_of r).place
shown (saved s cuts) = yes s (flat cuts)

-- ---- children of 3D3D: a good mesh (34 bytes), one with an infinite number, an unlisted chunk (8 bytes)

abbrev pub good : Run
good = mesh (vertex 0)

abbrev pub infinite : Run
infinite = mesh (vertex 0x7F80_0000)

-- a mesh with a vertex and no pair for it (42 bytes)
abbrev pub short : Run
short = mesh (pairs 0 then vertex 0)

abbrev pub note : Run
note = skip 0x8123 (1 ∷ 2 ∷ []) end

-- 3D3D with any bytes in it; its children begin at 12
abbrev pub torn : List ℕ → Run
torn inside = plain 0x3D3D inside

-- a header of an unlisted chunk, with a small length
abbrev pub headed : ℕ → List ℕ
headed n = 0x23 ∷ 0x81 ∷ n ∷ 0 ∷ 0 ∷ 0 ∷ []

-- ---- the cases

pub record Case : Type 0 where
  pub kids : Run
  pub answer : Shown

-- the file becomes that of other children, with cuts; or it is refused
abbrev pub becomes : Run → Run → List ℕ → Case
becomes kids kids' cuts = record { kids = kids; answer = yes (bytes (figure kids')) cuts }

abbrev pub refuses : Run → ℕ → ℕ → Case
refuses kids number place = record { kids = kids; answer = no number place }

abbrev pub cases : List Case
cases =
    -- 11, 10 and 7, each of its own child: a good child and an unlisted one stay
    becomes (scene (infinite then good then note then plain 0x1470 (0 ∷ []) then plain 0x4100 [])) (scene (good then note))
    (12 ∷ 11 ∷ 34 ∷ 88 ∷ 10 ∷ 7 ∷ 95 ∷ 7 ∷ 6 ∷ []) ∷
    -- 12, at the end of a mesh: the offset is the child's, not the fault's
    becomes (scene (mesh (vertex 0 then face 1 end) then mesh (vertex 0 then face 0 end))) (scene (mesh (vertex 0 then face 0 end))) (12 ∷ 12 ∷ 50 ∷ []) ∷
    -- 6, 4 and 5 where a child would start: all that follows goes, a good child too
    becomes (torn (bytes good ++ (1 ∷ 2 ∷ 3 ∷ []))) (scene good) (46 ∷ 6 ∷ 3 ∷ []) ∷
    becomes (torn (bytes good ++ (headed 5 ++ bytes good))) (scene good) (46 ∷ 4 ∷ 40 ∷ []) ∷
    becomes (torn (bytes good ++ headed 7)) (scene good) (46 ∷ 5 ∷ 6 ∷ []) ∷
    -- 4 deeper: only that child goes
    becomes (scene (plain 0x4000 (0 ∷ headed 5) then good)) (scene good) (12 ∷ 4 ∷ 13 ∷ []) ∷
    -- 13: fewer pairs than vertices in a file of version 3, wherever it is told; not in an older one
    becomes (scene (short then good) then told 3) (scene good then told 3) (12 ∷ 13 ∷ 42 ∷ []) ∷
    becomes (told 2 then scene (short then good)) (told 2 then scene (short then good)) [] ∷
    -- nothing stays
    becomes (scene infinite) (scene end) (12 ∷ 11 ∷ 34 ∷ []) ∷
    -- beyond it: a fault before 3D3D or behind it, a second one, none
    refuses (plain 0x0002 [] then scene infinite) 10 6 ∷
    refuses (scene infinite then plain 0x0002 []) 10 46 ∷
    refuses (scene infinite then scene end) 8 46 ∷
    refuses (plain 0x0002 (0 ∷ 0 ∷ 0 ∷ 0 ∷ [])) 14 0 ∷ []

abbrev pub answered : Case → Shown
answered c = shown (rescue (bytes (figure c.kids)))

abbrev pub Samples : Type 0
Samples = map answered cases ≡ map (λ c. c.answer) cases
