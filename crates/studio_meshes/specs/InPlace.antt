-- What a viewer reads at the offsets that it is told is what the calls about one mesh give.
use Rattle.std.specs.Prelude.{◌≡◌, List, ℕ, ◌+◌, ◌*◌, ◌≤◌, length, drop}
use Rattle.shared_words.specs.Bytes.{numbers}
use Rattle.shared_words.specs.Lists.{All}
use Rattle.studio_rules.specs.OwnData.{count, corners}
use Rattle.studio_rules.specs.Layout.{Run, child}
use Rattle.studio_rules.specs.Rules.{Meets}
use Rattle.studio_rules.specs.Gives.{pairs_of, filled_up}
use Rattle.studio_meshes_rules.specs.Standing.{Standing, mesh_in, standing, elements_at}

-- how many elements the child x of a mesh has, and where they begin
abbrev pub many : ℕ → Standing → ℕ
many x m = count (child x m.kids)

abbrev pub begin : ℕ → Standing → ℕ
begin x m = elements_at x m.at m.kids

-- in the file s: the vertices, the corners and the pairs of a mesh, and behind these the missing ones
pub record ReadInPlace (s : List ℕ) (m : Standing) : Type 0 where
  pub vertices : (mesh_in m).vertices ≡ numbers 4 (3 * many 0x4110 m) (drop (begin 0x4110 m) s)
  pub corners_are : (mesh_in m).corners ≡ corners (many 0x4120 m) (drop (begin 0x4120 m) s)
  pub mapping : (mesh_in m).mapping ≡ filled_up (2 * pairs_of m.kids) (numbers 4 (2 * many 0x4140 m) (drop (begin 0x4140 m) s))
  -- and all of them lie in it
  pub vertices_stay : begin 0x4110 m + 12 * many 0x4110 m ≤ length s
  pub faces_stay : begin 0x4120 m + 8 * many 0x4120 m ≤ length s
  pub pairs_stay : begin 0x4140 m + 8 * many 0x4140 m ≤ length s

abbrev pub InPlace : Type 0
InPlace = (s : List ℕ) (kids : Run) → Meets s kids → All (ReadInPlace s) (standing kids)
