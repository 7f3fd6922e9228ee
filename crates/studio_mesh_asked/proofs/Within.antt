-- A mesh that was chosen stands in a file within the limit, and its name within the file; by induction over the layout, every
-- mesh of a run has a name in the chunk around it.
use mathlib.Core.Path.{◌≡◌, refl, sym, ap, ◌∙◌}
use mathlib.Core.Bool.{Bool, true, false}
use mathlib.Core.List.{List, [], ◌∷◌, ◌++◌}
use mathlib.Core.Option.{Option, none, some}
use Prim.Native.Nat.{ℕ, zero, suc, ◌+◌, ◌-◌, ◌≤◌}
use native.Mathlib.Omega.{arith}
use lib.Dec.{eqb}
use lib.ListN.{length, get_elem?}
use Rattle.shared_words.specs.declared.Refusal.{Refusal}
use Rattle.shared_words.specs.Bytes.{Bytes}
use Rattle.shared_words.specs.Refusals.{limit}
use Rattle.shared_words.specs.Picked.{pick_mesh}
use Rattle.studio_rules.specs.Layout.{Run, end, skip, known, figure, size}
use Rattle.shared_words.specs.Conditions.{Answer, refused, accepted}
use Rattle.studio_rules.specs.Walk.{verdict}
use Rattle.studio_rules.specs.Gives.{Mesh, one_mesh, mesh_of, meshes_of, meshes}
use Rattle.studio_rules.proofs.Sound.{length-bytes}
use Rattle.studio_rules.proofs.Verdict.{accepted_exactly}
use Rattle.studio_mesh_asked.specs.Choices.{Choice, no, yes, choose}

-- ---- the name of each mesh of a run

abbrev Within : ℕ → Mesh → Type 0
Within bound m = m.name_at + m.name_length ≤ bound

abbrev Each : ℕ → List Mesh → Type 0
Each bound [] = Unit
Each bound (m ∷ ms) = Within bound m × Each bound ms

each_append : (bound : ℕ) (a b : List Mesh) → Each bound a → Each bound b → Each bound (a ++ b)
each_append bound [] b x y = y
each_append bound (m ∷ a) b x y = (x.0, each_append bound a b x.1 y)

each_at : (bound : ℕ) (ms : List Mesh) (i : ℕ) (m : Mesh) → Each bound ms → get_elem? ms i ≡ some m → Within bound m
each_at bound [] i m x e = absurd (let z : ◌≡◌ {A = ℕ} 0 1 = cc in omega arith)
each_at bound (n ∷ ms) zero m x e = let f : n ≡ m = cc in rw (← f) x.0
each_at bound (n ∷ ms) (suc i) m x e = each_at bound ms i m x.1 e

each-one : (bound : ℕ) (t : Bool) (m : Mesh) → Within bound m → Each bound (one_mesh t m)
each-one bound true m h = (h, tt)
each-one bound false m h = tt

names-within : (bound o at k : ℕ) (t : Run) → at + k ≤ bound → o + size t ≤ bound → Each bound (meshes_of o at k t)
names-within bound o at k end h l = tt
names-within bound o at k (skip id body rest) h l = names-within bound (o + (6 + length body)) at k rest h (omega arith)
names-within bound o at k (known id own kids rest) h l =
    each_append bound (one_mesh (eqb id 0x4100) (mesh_of at k kids)) _ (each-one bound (eqb id 0x4100) (mesh_of at k kids) h)
    (each_append bound (meshes_of (o + (6 + length own)) (o + 6) (length own - 1) kids) _
    (names-within bound (o + (6 + length own)) (o + 6) (length own - 1) kids (omega arith) (omega arith))
    (names-within bound (o + (6 + length own + size kids)) at k rest h (omega arith)))

-- ---- the mesh that was chosen

never-no : {r : Refusal} {m : Mesh} → no r ≡ yes m → ⊥
never-no e = let z : ◌≡◌ {A = ℕ} 0 1 = cc in omega arith

picked : {m : Mesh} (n : ℕ) (x : Option Mesh) → pick_mesh no yes n x ≡ yes m → x ≡ some m
picked n none e = absurd (never-no e)
picked {m} n (some y) e = let f : y ≡ m = cc in ap some f

module _ (s : List ℕ) (b : Bytes s) (mesh : ℕ) {m : Mesh} where
  pub limit-by : (pick : Mesh → Choice) → choose pick mesh (verdict s) ≡ yes m → length s ≤ limit
  limit-by pick = go (verdict s) refl
    where
      go : (a : Answer Run) → verdict s ≡ a → choose pick mesh a ≡ yes m → length s ≤ limit
      go (refused r) v e = absurd (never-no e)
      go (accepted kids) v e = ((accepted_exactly s b kids).0 v).within-limit

  pub name-within : choose yes mesh (verdict s) ≡ yes m → m.name_at + m.name_length ≤ limit
  name-within = go (verdict s) refl
    where
      go : (a : Answer Run) → verdict s ≡ a → choose yes mesh a ≡ yes m → m.name_at + m.name_length ≤ limit
      go (refused r) v e = absurd (never-no e)
      go (accepted kids) v e =
          let q = (accepted_exactly s b kids).0 v in
          let n : size (figure kids) ≡ length s = sym (length-bytes (figure kids)) ∙ ap length q.is in
          let z = q.within-limit in
          each_at limit (meshes kids) mesh m (names-within limit 0 0 0 (figure kids) (omega arith) (omega arith)) (picked (length (meshes kids)) (get_elem? (meshes kids) mesh) e)
