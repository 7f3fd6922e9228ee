-- The call's answer and row: by the check's answer, and by the room.
use Rattle.std.specs.Prelude.{Result, Ok, Err}
use mathlib.Core.Path.{◌≡◌, sym, ◌∙◌}
use Prim.Native.Nat.{ℕ, ◌/◌, ◌<◌, ◌≤◌}
use native.Mathlib.Nat.{div-mul-le_self}
use native.Mathlib.Omega.{arith}
use mathlib.Core.List.{List}
use lib.ListN.{length}
use borrow.Author.Tests.{le-leb, lt-leb}
use Rattle.shared_words.specs.declared.Refusal.{Refusal}
use Rattle.shared_words.specs.declared.Refusal.TheVariants.{NoRoom}
use Rattle.cob_rules.specs.Walk.{verdict}
use Rattle.cob_rules.specs.Calls.{check_call}
use Rattle.cob_tables.specs.Asked.{Readable}
use Rattle.cob_tables.proofs.Picks.{refused-by}
use Rattle.cob_meshes_rules.specs.Standing.{standing}
use Rattle.cob_meshes_rules.specs.Calls.{mesh_bytes, meshes_call}
use Rattle.cob_meshes.specs.Meshes.{Counts, SomeRoom, Fills}

abbrev Answers : List ℕ → List ℕ → Result ℕ Refusal → List ℕ → Type 0
Answers s row r row' = (r ≡ (meshes_call mesh_bytes s row).answer) × (row' ≡ (meshes_call mesh_bytes s row).rows)

pub meshes-refused : (s row : List ℕ) {r : Result ℕ Refusal} → r ≡ check_call s → {q : Refusal} → r ≡ Err q → Answers s row (Err q) row
unfolding check_call meshes_call
meshes-refused s row c {q} e = let v = refused-by (verdict s) q (sym e ∙ c) in (rw v, rw v)

module _ (s row : List ℕ) (g : Readable s) {n : ℕ} (k : Counts s n) where
  pub no_room : length row / 32 < n → Answers s row (Err (NoRoom n)) row
  unfolding meshes_call
  no_room l =
      let c = k.told g.layout g.is in
      let t = lt-leb (length (standing g.layout)) (length row / 32) (omega (arith, c)) in
      (rw (g.is, t, c), rw (g.is, t))

  pub some-room : n ≤ length row / 32 → SomeRoom s (length row)
  some-room l = record { given = g; room = omega (arith, k.told g.layout g.is, div-mul-le_self (length row) 32) }

  pub all-filled : n ≤ length row / 32 → {row' : List ℕ} → Fills s row row' → Answers s row (Ok n) row'
  unfolding meshes_call
  all-filled l f =
      let c = k.told g.layout g.is in
      let t = le-leb (length (standing g.layout)) (length row / 32) (omega (arith, c)) in
      (rw (g.is, t, c), rw (g.is, t) (f.told g.layout g.is))
