-- What is proved of the rescue.
use Rattle.std.specs.Prelude.{◌≡◌, ◌⊎◌, ℕ, ◌+◌, ◌≤◌, ◌<◌, List, [], ◌∷◌, ◌++◌, map, length, take, drop}
use Rattle.std.proofs.Math.Option.{some}
use Rattle.shared_words.specs.declared.Refusal.{Refusal}
use Rattle.shared_words.specs.Refusals.{limit, number_of}
use Rattle.shared_words.specs.Lists.{All}
use Rattle.shared_words.specs.Bytes.{Bytes}
use Rattle.studio_rules.specs.Layout.{Run, header, size, bytes, offset_of}
use Rattle.studio_rules.specs.Rules.{Obeys}
use Rattle.studio_rules.specs.Walk.{header_conditions, walk, top, verdict, length_field}
use Rattle.shared_words.specs.Conditions.{broken, refused, accepted}
use Rattle.studio_rules.specs.Gives.{meshes}
use Rattle.studio_scene.specs.Contents.{unplaced, contents}
use Rattle.studio_scene.specs.Passed.{passed}
use Rattle.studio_scene.specs.Scene.{file_of}
use Rattle.studio_rescue_rules.specs.Rescue.{version_of, scene, Cut, sift, mended, sifted_at, rescue, beyond, saved, gone, put_back}

-- THE RESULT IS ACCEPTED
abbrev pub ResultAccepted : Type 0
ResultAccepted = (s : List ℕ) → Bytes s → (s' : List ℕ) (cuts : List Cut) → rescue s ≡ saved s' cuts → (kids : Run) × (verdict s' ≡ accepted kids)

-- AN ACCEPTED FILE COMES BACK UNCHANGED, with no cuts
abbrev pub AcceptedUnchanged : Type 0
AcceptedUnchanged = (s : List ℕ) → Bytes s → (kids : Run) → verdict s ≡ accepted kids → rescue s ≡ saved s []

-- the damaged file s, the result s' and the cuts, where e is the offset of 3D3D: it is the same in both
pub record Restored (s s' : List ℕ) (cuts : List Cut) (e : ℕ) : Type 0 where
  -- PUTTING THE CUTS BACK, with the old lengths, gives the damaged file
  pub put-back : put_back e (length_field s) (length_field (drop e s)) cuts s' ≡ s
  -- the two lengths are lowered by what is gone, and so is the file's
  pub length_lowered : length s' + gone cuts ≡ length s
  pub file_lowered : length_field s' + gone cuts ≡ length_field s
  pub scene_lowered : length_field (drop e s') + gone cuts ≡ length_field (drop e s)

abbrev pub CutsRestore : Type 0
CutsRestore = (s : List ℕ) → Bytes s → (s' : List ℕ) (cuts : List Cut) → rescue s ≡ saved s' cuts → (kids : Run) → verdict s' ≡ accepted kids →
    Restored s s' cuts (offset_of 0x3D3D 6 kids)

-- NO CUT IS EMPTY, and the damaged file is within the limit: so there are no more cuts than that
pub record CutsFew (s : List ℕ) (cuts : List Cut) : Type 0 where
  pub few : length cuts ≤ gone cuts
  pub within-limit : length s ≤ limit

abbrev pub FewCuts : Type 0
FewCuts = (s : List ℕ) → Bytes s → (s' : List ℕ) (cuts : List Cut) → rescue s ≡ saved s' cuts → CutsFew s cuts

-- a cut is one whole child: as long as its own length field says, which is a header at least
pub record WholeChild (c : Cut) : Type 0 where
  pub header-long : 6 ≤ length c.piece
  pub field_is : length_field c.piece ≡ length c.piece

-- a cut is all that is left of 3D3D, which ends at z: its header is bad, so that nothing tells where a child would end
pub record RestOfScene (z : ℕ) (fault : Refusal) (c : Cut) : Type 0 where
  pub not-empty : 0 < length c.piece
  pub reaches_end : c.at + length c.piece ≡ z
  pub header-bad : broken (header_conditions c.at c.piece (length_field c.piece)) ≡ some fault

-- a cut of the damaged file s of version v, whose 3D3D ends at z: its bytes stand there; walked alone as children of 3D3D they are
-- refused with its number; and no more is cut than must be
pub record Failed (v : ℕ) (s : List ℕ) (z : ℕ) (c : Cut) : Type 0 where
  pub stands : take (length c.piece) (drop c.at s) ≡ c.piece
  pub fault : Refusal
  pub fails : walk (scene v) [] c.at c.piece ≡ refused fault
  pub number_is : c.number ≡ number_of fault
  pub extent : WholeChild c ⊎ RestOfScene z fault c

-- NOTHING IS CUT THAT DOES NOT FAIL, and no cut is empty
abbrev pub CutsFail : Type 0
CutsFail = (s : List ℕ) → Bytes s → (s' : List ℕ) (cuts : List Cut) → rescue s ≡ saved s' cuts → (kids : Run) → verdict s' ≡ accepted kids →
    All (Failed (version_of s) s (offset_of 0x3D3D 6 kids + length_field (drop (offset_of 0x3D3D 6 kids) s))) cuts

-- THE MESHES KEPT hold what they held: those of the result are those of the children kept, each as its own walk gives it, in
-- their order. (There are no others: no mesh stands outside 3D3D.)
abbrev pub MeshesKept : Type 0
MeshesKept = (s : List ℕ) → Bytes s → (s' : List ℕ) (cuts : List Cut) → rescue s ≡ saved s' cuts → (kids : Run) → verdict s' ≡ accepted kids →
    map unplaced (meshes kids) ≡ contents (sifted_at (offset_of 0x3D3D 6 kids) s).kept

-- OUTSIDE 3D3D'S CHILDREN nothing changes but the two lengths: 4D4D's children keep their identifiers, bytes and order, the
-- parts that hang on one another among them
pub record SameAround (s s' : List ℕ) : Type 0 where
  pub before : Run
  pub body : List ℕ
  pub after : Run
  pub was : drop 6 s ≡ bytes before ++ (header 0x3D3D (6 + length body) ++ (body ++ bytes after))
  pub is : s' ≡ file_of before (sift (version_of s) (6 + size before + 6) body).kept after

abbrev pub AroundKept : Type 0
AroundKept = (s : List ℕ) → Bytes s → (s' : List ℕ) (cuts : List Cut) → rescue s ≡ saved s' cuts → SameAround s s'

-- THE VERSION is kept, so that the result is judged by the rule by which the damaged file was
abbrev pub VersionKept : Type 0
VersionKept = (s : List ℕ) → Bytes s → (s' : List ℕ) (cuts : List Cut) → rescue s ≡ saved s' cuts → version_of s' ≡ version_of s

-- the reader's answer to the file s is the first fault of the children of its 3D3D
pub record FaultInScene (s : List ℕ) : Type 0 where
  pub fault : Refusal
  pub answered : verdict s ≡ refused fault
  -- what stands before 3D3D obeys the rules; its children and what follows them are bytes
  pub before : Run
  pub body : List ℕ
  pub back : List ℕ
  pub file-is : drop 6 s ≡ bytes before ++ (header 0x3D3D (6 + length body) ++ (body ++ back))
  pub obeys : Obeys (top (version_of s)) [] before
  pub refuses : walk (scene (version_of s)) [] (6 + size before + 6) body ≡ refused fault
  -- then the rescue goes on behind 3D3D: the first fault there is its answer
  pub goes_on : (r : Refusal) →
      walk (top (version_of s)) (0x3D3D ∷ passed [] before) (6 + size before + (6 + length body)) back ≡ refused r → rescue s ≡ beyond r
  -- and where there is none the file is saved, with what is kept
  pub saves : (after : Run) → walk (top (version_of s)) (0x3D3D ∷ passed [] before) (6 + size before + (6 + length body)) back ≡ accepted after →
      (cuts : List Cut) × (rescue s ≡ saved (file_of before (sift (version_of s) (6 + size before + 6) body).kept after) cuts)

-- THE FIRST FAULT OUTSIDE 3D3D'S CHILDREN: the rescue answers as the reader does, with the same refusal, but where the
-- reader's fault lies in those children.
abbrev pub FirstFault : Type 0
FirstFault = (s : List ℕ) → Bytes s → (mended s ≡ verdict s) ⊎ FaultInScene s
