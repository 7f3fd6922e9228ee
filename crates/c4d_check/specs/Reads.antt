-- What a file read promises: the verdict, and for an accepted file how many objects it has, and their notes.
use Rattle.std.specs.Prelude.{◌≡◌, ℕ, ◌≤◌, Result, Ok, Err, List, length}
use Rattle.shared_words.specs.Conditions.{refused, accepted}
use Rattle.shared_words.specs.Refusals.{limit}
use Rattle.c4d_rules.specs.Layout.{Layout}
use Rattle.c4d_rules.specs.Walk.{verdict}
use Rattle.c4d_rules.specs.Gives.{objects}
use Rattle.c4d_objects.specs.Notes.{Noted}
use Rattle.shared_words.specs.declared.Refusal.{Refusal}
use Rattle.c4d_objects.specs.declared.Figure.{Figure}
use Rattle.c4d_chunks.specs.Steps.{Counts}

pub record Judged (s notes₀ notes : List ℕ) (f : Figure) : Type 0 where
  pub layout : Layout
  pub is : verdict s ≡ accepted layout
  pub counts : Counts f (objects layout)
  pub noted : Noted s (objects layout) notes₀ notes
  pub short : length s ≤ limit

abbrev pub Reads : List ℕ → List ℕ → List ℕ → Result Figure Refusal → Type 0
Reads s notes₀ notes (Err r) = verdict s ≡ refused r
Reads s notes₀ notes (Ok f) = Judged s notes₀ notes f
