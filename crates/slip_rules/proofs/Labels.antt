-- The conditions of the entries' names hold exactly where each name fits the label.
use mathlib.Core.Path.{◌≡◌, refl}
use mathlib.Core.Bool.{true}
use mathlib.Core.List.{List, [], ◌∷◌}
use Prim.Native.Nat.{ℕ}
use Rattle.shared_words.specs.Lists.{every}
use Rattle.shared_words.specs.Conditions.{Condition}
use Rattle.shared_words.proofs.Bools.{both, and_parts}
use Rattle.shared_words.proofs.Conditions.{Met}
use Rattle.slip_rules.specs.Slip.{Entry}
use Rattle.slip_rules.specs.Rules.{is_labelled}
use Rattle.slip_rules.specs.Conditions.{label_conditions}

module _ (next : ℕ → Entry → ℕ) (later : List Condition) where
  pub labels_met : (o : ℕ) (es : List Entry) → Met (label_conditions next o es later) → (every is_labelled es ≡ true) × Met later
  unfolding every
  labels_met o [] h = (refl, h)
  labels_met o (e ∷ es) h =
      let t = labels_met (next o e) es h.1 in
      (both (is_labelled e) (every is_labelled es) h.0 t.0, t.1)

  pub met_labels : (o : ℕ) (es : List Entry) → every is_labelled es ≡ true → Met later → Met (label_conditions next o es later)
  unfolding every
  met_labels o [] h k = k
  met_labels o (e ∷ es) h k =
      let t = and_parts (is_labelled e) (every is_labelled es) h in
      (t.0, met_labels (next o e) es t.1 k)
