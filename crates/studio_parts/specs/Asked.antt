-- What both calls begin with: a refusal, or where the parts stand, for which there is room.
use Rattle.std.specs.Prelude.{◌≡◌, List, ℕ, length, Result, Ok, Err}
use Rattle.shared_words.specs.declared.Refusal.{Refusal}
use Rattle.shared_words.specs.Conditions.{accepted}
use Rattle.studio_rules.specs.Layout.{Run}
use Rattle.studio_rules.specs.Walk.{verdict}
use Rattle.studio_rules.specs.Gives.{parts}
use Rattle.studio_counted.specs.All.{RefusedWith}
use Rattle.studio_parts_fill.specs.Depths.{Fit}
use Rattle.studio_parts.specs.declared.Counted.{Counted}

abbrev pub AskedIs : List ℕ → ℕ → Result Counted Refusal → Type 0
AskedIs s room (Err x) = RefusedWith parts s room x
AskedIs s room (Ok p) = (kids : Run) × (verdict s ≡ accepted kids) × (p.count ≡ length (parts kids)) × Fit s kids p.run.from p.run.stop room
