-- The call's answer and row, by the verdict and the room.
use Rattle.std.specs.Prelude.{Ok, Err}
use mathlib.Core.Path.{◌≡◌}
use Prim.Native.Nat.{ℕ, ◌/◌, ◌<◌, ◌≤◌}
use native.Mathlib.Nat.{div-mul-le_self}
use native.Mathlib.Omega.{arith}
use mathlib.Core.List.{List}
use lib.ListN.{length}
use borrow.Author.Tests.{le-leb, lt-leb}
use Rattle.shared_words.specs.declared.Refusal.{Refusal}
use Rattle.shared_words.specs.declared.Refusal.TheVariants.{NoRoom}
use Rattle.shared_words.specs.Conditions.{refused, accepted}
use Rattle.cob_rules.specs.Layout.{Layout}
use Rattle.cob_rules.specs.Walk.{verdict}
use Rattle.cob_rules.specs.Gives.{list}
use Rattle.cob_rules.specs.Calls.{record_bytes, list_call}
use Rattle.cob_check.specs.Walks.{Accepted}
use Rattle.cob_list.specs.Filling.{Fillable, Fills}

module _ (s row : List ℕ) where
  pub call-refused : {q : Refusal} → verdict s ≡ refused q → (Err q ≡ (list_call record_bytes s row).answer) × (row ≡ (list_call record_bytes s row).rows)
  unfolding list_call
  call-refused e = (rw e, rw e)

  module _ {l : Layout} {n : ℕ} (e : verdict s ≡ accepted l) (c : n ≡ length (list l)) where
    pub call-no-room : length row / 24 < n → (Err (NoRoom n) ≡ (list_call record_bytes s row).answer) × (row ≡ (list_call record_bytes s row).rows)
    unfolding list_call
    call-no-room r = let t = lt-leb n (length row / 24) r in (rw (e, ← c, t), rw (e, ← c, t))

    pub call-filled : n ≤ length row / 24 → {row' : List ℕ} → Fills s row row' → (Ok n ≡ (list_call record_bytes s row).answer) × (row' ≡ (list_call record_bytes s row).rows)
    unfolding list_call
    call-filled r f = let t = le-leb n (length row / 24) r in (rw (e, ← c, t), rw (e, ← c, t) (f.told l e))

    pub fillable : n ≤ length row / 24 → {count : ℕ} {ids links : List ℕ} → Accepted l count n ids links → Fillable s count ids links row
    fillable r a = record {
      layout = l;
      is = e;
      nodes_are = a.nodes_are;
      tree = a.tree;
      holds = a.holds;
      room = omega (arith, c, div-mul-le_self (length row) 24);
    }
