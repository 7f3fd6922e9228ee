-- Where the code stands once the children of 4D4D before its 3D3D are read.
use Rattle.std.specs.Prelude.{◌≡◌, ℕ, ◌+◌, ◌≤◌, List, [], length, drop}
use Rattle.std.proofs.Math.Seq.{slice}
use Rattle.shared_words.specs.Conditions.{accepted}
use Rattle.shared_words.specs.Refusals.{limit}
use Rattle.studio_rules.specs.Layout.{Run, size}
use Rattle.studio_rules.specs.Rules.{Obeys}
use Rattle.studio_rules.specs.Walk.{walk, top}
use Rattle.studio_lookup.specs.Slots.{slots}
use Rattle.studio_marks.specs.Marks.{no_marks, marks_after}
use Rattle.studio_rescue_around.specs.Around.{ahead}

-- t is what stands before 3D3D, at `at`, in the file s, and left these marks
pub record Before (s table : List ℕ) (version at : ℕ) (marks : List ℕ) : Type 0 where
  pub long : 6 ≤ length s
  pub short : length s ≤ limit
  pub at-is : at ≡ 6 + ahead 6 (drop 6 s)
  pub table_is : table ≡ slots
  pub t : Run
  pub is : walk (top version) [] 6 (slice 6 at s) ≡ accepted t
  pub obeys : Obeys (top version) [] t
  pub size_is : 6 + size t ≡ at
  pub marked : marks ≡ marks_after 6 t no_marks
  pub six : length marks ≡ 6
