-- The conditions of the rows, by sums: which of them is answered, and that none is where all fit.
use Rattle.std.specs.Prelude.{Ok, Err}
use mathlib.Core.Path.{◌≡◌, refl, sym, ap, ◌∙◌}
use Prim.Native.Nat.{ℕ, ◌+◌, ◌*◌, ◌%◌}
use native.Mathlib.Omega.{arith}
use mathlib.Core.Bool.{Bool, false}
use mathlib.Core.List.{List, [], ◌∷◌}
use mathlib.Core.Option.{none}
use lib.Dec.{eqb}
use lib.ListN.{length, take, drop}
use Rattle.shared_words.specs.declared.Refusal.{Refusal}
use Rattle.shared_words.specs.declared.Refusal.TheVariants.{Count}
use Rattle.shared_words.specs.Conditions.{Condition, must, broken, judged_by, answered}
use Rattle.shared_words.proofs.Conditions.{Met, unbroken}
use Rattle.studio_write_judge.proofs.Judged.{broken-at}
use Rattle.studio_figure_rules.specs.Described.{Flat, ObjectCounts, GroupCounts, object_name_bytes, material_name_bytes, group_name_bytes, long_must, fit_conditions}
use Rattle.studio_figure_rows.specs.Rows.{sum_to, object_count, group_count, names_length}
use Rattle.studio_figure_rows.proofs.Same.{object-total, group-total, object-names, material-names, group-names}

module _ (r : Flat) where
  -- as code asks them
  abbrev pub asked : List Condition
  asked =
      must (eqb (length r.objects % 5) 0) (Count (length r.objects)) ∷
      long_must r.groups (2 * sum_to 5 4 r.objects (object_count r)) ∷
      long_must r.names (names_length r.objects r.materials r.groups) ∷
      long_must r.vertices (sum_to 5 1 r.objects (object_count r)) ∷
      long_must r.corners (sum_to 5 2 r.objects (object_count r)) ∷
      long_must r.smoothing (sum_to 5 3 r.objects (object_count r)) ∷
      long_must r.faces (sum_to 2 1 r.groups (group_count r)) ∷
      long_must r.colours (9 * length r.materials) ∷ []

  names-asked : object_name_bytes r + (material_name_bytes r + group_name_bytes r) ≡ names_length r.objects r.materials r.groups
  names-asked = omega (arith, object-names r, material-names r, group-names r)

  same_asked : fit_conditions r ≡ asked
  same_asked =
      rw (
        object-total r (λ (c : ObjectCounts). c.groups) 4 (λ i. refl),
        names-asked,
        object-total r (λ (c : ObjectCounts). c.floats) 1 (λ i. refl),
        object-total r (λ (c : ObjectCounts). c.corners) 2 (λ i. refl),
        object-total r (λ (c : ObjectCounts). c.smoothing) 3 (λ i. refl),
        group-total r (λ (c : GroupCounts). c.faces) 1 (λ i. refl),
      )

  pub misfit : (k : ℕ) {b : Bool} {x : Refusal} {rest : List Condition} → Met (take k asked) → drop k asked ≡ must b x ∷ rest → b ≡ false → Err x ≡ answered (fit_conditions r)
  unfolding answered
  misfit k m e f = sym (ap judged_by (ap broken same_asked ∙ broken-at k asked m e f))

  pub all_fit : Met asked → broken (fit_conditions r) ≡ none
  all_fit m = ap broken same_asked ∙ unbroken asked m

  pub fitting : Met asked → (Ok tt) ≡ answered (fit_conditions r)
  unfolding answered
  fitting m = sym (ap judged_by (all_fit m))
