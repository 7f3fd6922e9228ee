-- One run behind another: its records are those of the first, and then those of the second. A run without known chunks has no
-- record and no mesh.
use mathlib.Core.Path.{◌≡◌, refl}
use Prim.Native.Nat.{ℕ, suc, ◌+◌}
use native.Mathlib.Omega.{arith}
use mathlib.Core.List.{[], ◌++◌, append_assoc}
use lib.ListN.{length}
use Rattle.studio_rules.specs.Layout.{Run, end, skip, known, size, ◌then◌}
use Rattle.studio_rules.specs.Gives.{record_count, records_of, meshes_of}

-- the second run begins at o', and its first record has number next'
pub records_then : (o o' depth parent next next' : ℕ) (a t : Run) → o' ≡ o + size a → next' ≡ next + record_count a →
    records_of o depth parent next (a then t) ≡ records_of o depth parent next a ++ records_of o' depth parent next' t
records_then o o' depth parent next next' end t e f =
    let e₀ : o ≡ o' = omega arith in
    let f₀ : next ≡ next' = omega arith in
    rw (e₀, f₀)
records_then o o' depth parent next next' (skip id body a) t e f = records_then (o + (6 + length body)) o' depth parent next next' a t (omega arith) f
records_then o o' depth parent next next' (known id own kids a) t e f =
    let ih = records_then (o + (6 + length own + size kids)) o' depth parent (suc (next + record_count kids)) next' a t (omega arith) (omega arith) in
    rw (ih, append_assoc (records_of (o + (6 + length own)) (suc depth) next (suc next) kids))

-- ---- no known chunk

pub no-records : (o depth parent next : ℕ) (w : Run) → record_count w ≡ 0 → records_of o depth parent next w ≡ []
no-records o depth parent next end n = refl
no-records o depth parent next (skip id body w) n = no-records (o + (6 + length body)) depth parent next w n
no-records o depth parent next (known id own kids w) n = absurd (omega arith)

pub no-meshes : (o at l : ℕ) (w : Run) → record_count w ≡ 0 → meshes_of o at l w ≡ []
no-meshes o at l end n = refl
no-meshes o at l (skip id body w) n = no-meshes (o + (6 + length body)) at l w n
no-meshes o at l (known id own kids w) n = absurd (omega arith)
