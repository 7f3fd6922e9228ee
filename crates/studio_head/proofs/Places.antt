-- What the code's row and marks say of the walk at a chunk: whether it may stand here, and whether its slot is free.
use mathlib.Core.Path.{◌≡◌, ap, ◌∙◌}
use mathlib.Core.Bool.{true}
use mathlib.Core.List.{List, ◌∷◌}
use Prim.Native.Nat.{ℕ}
use Rattle.studio_rules.specs.Table.{listed, under}
use Rattle.studio_rules.specs.Rules.{Parent, few}
use Rattle.studio_row.specs.Packed.{row_of, slot_in, slot_of, may_hold_in}
use Rattle.studio_row.proofs.Facts.{may_hold_is, slot_small}
use Rattle.studio_marks.specs.Marks.{free}
use Rattle.studio_marks.proofs.Slots.{free-is}
use Rattle.studio_head.specs.Contexts.{Context}

module _ (p : Parent) (seen : List ℕ) (parent word : ℕ) (ms : List ℕ) (k : Context p seen parent word ms) (id row : ℕ) (e : row ≡ row_of id) (l : listed id ≡ true) where
  pub under-is : may_hold_in parent row ≡ under p.id id
  under-is = rw (k.row_is, e) (may_hold_is p.id id k.is-listed l)

  module _ (u : under p.id id ≡ true) where
    pub few-is : free (slot_in row) ms ≡ few p.id (id ∷ seen)
    few-is = ap (λ (x : ℕ). free (slot_in x) ms) e ∙ free-is p.id id seen k.is-listed u k.all_under k.not_twice_lem ms (slot_small id l) (λ h. k.marked (slot_of id) h)
