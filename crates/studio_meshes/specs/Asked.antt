-- What the call begins with: a refusal, or where the objects stand, for whose meshes there is room.
use Rattle.std.specs.Prelude.{◌≡◌, List, ℕ, length, Result, Ok, Err}
use Rattle.shared_words.specs.declared.Refusal.{Refusal}
use Rattle.shared_words.specs.Conditions.{accepted}
use Rattle.studio_rules.specs.Layout.{Run}
use Rattle.studio_rules.specs.Walk.{verdict}
use Rattle.studio_meshes_rules.specs.Standing.{standing}
use Rattle.studio_counted.specs.All.{RefusedWith}
use Rattle.studio_meshes.specs.Fit.{Fit}
use Rattle.studio_meshes.specs.declared.Counted.{Counted}

abbrev pub AskedIs : List ℕ → ℕ → Result Counted Refusal → Type 0
AskedIs s room (Err x) = RefusedWith standing s room x
AskedIs s room (Ok m) = (kids : Run) × (verdict s ≡ accepted kids) × (m.count ≡ length (standing kids)) × Fit s kids m.objects.from m.objects.stop room
