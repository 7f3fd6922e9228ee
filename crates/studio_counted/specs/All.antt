-- What a call about all things of one kind refuses: the file, or a row that has too little room for them (`all_of` of crate
-- studio_rules).
use Rattle.std.specs.Prelude.{◌≡◌, ◌⊎◌, List, ℕ, ◌<◌, length}
use Rattle.shared_words.specs.declared.Refusal.{Refusal}
use Rattle.shared_words.specs.declared.Refusal.TheVariants.{NoRoom}
use Rattle.shared_words.specs.Conditions.{refused, accepted}
use Rattle.studio_rules.specs.Layout.{Run}
use Rattle.studio_rules.specs.Walk.{verdict}

abbrev pub RefusedWith : {X : Type 0} → (Run → List X) → List ℕ → ℕ → Refusal → Type 0
RefusedWith things s room x =
    (verdict s ≡ refused x) ⊎ ((kids : Run) × (verdict s ≡ accepted kids) × (room < length (things kids)) × (x ≡ NoRoom (length (things kids))))
