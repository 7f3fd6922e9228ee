-- The length field of an unlisted chunk: the worked cases by computation, and none smaller by the byte counts.
use mathlib.Core.Path.{◌≡◌, refl}
use mathlib.Core.Logic.{◌⊎◌, inl, inr}
use Prim.Native.Nat.{ℕ, ◌+◌, ◌≤◌, ◌<◌}
use native.Mathlib.Omega.{arith}
use mathlib.Core.Bool.{true, false≢true}
use mathlib.Core.List.{[]}
use Rattle.shared_words.specs.Lists.{every}
use Rattle.studio_rules.specs.Table.{rows, at_most_one_ids, at_least_one_ids, listed, under, shape, plus, limits, needs}
use Rattle.shared_words.specs.Floats.{finite}
use Rattle.shared_words.specs.Labels.{fits_label}
use Rattle.studio_rules.specs.Layout.{Run, end, skip, known, figure, identifiers}
use Rattle.studio_rules.specs.Rules.{none_missing, version}
use Rattle.shared_words.specs.Conditions.{broken}
use Rattle.studio_rules.specs.Walk.{step, walk, version_in, top, verdict}
use Rattle.studio_rules.specs.Gives.{record_count, skipped}
use Rattle.studio_rules.specs.Calls.{check_call}
use Rattle.studio_rules.proofs.Theorems.{counts-add}
use Rattle.claim_turned.specs.Hidden.{Hidden, NoneSmaller}
use Rattle.studio_rules.proofs.SixEach.{six_each}

pub hidden : Hidden
unfolding every rows at_most_one_ids at_least_one_ids listed under shape plus limits needs finite fits_label broken step walk version_in verdict check_call
hidden = record { there = refl; gone = refl; there-bit = refl; gone-bit = refl; known-refused = refl; apart = refl; taken_in = refl }

-- ---- none smaller: 4D4D, 3D3D, one known chunk more and an unlisted one are four headers

skipped_six : (t : Run) → (skipped t ≡ 0) ⊎ (6 ≤ skipped t)
skipped_six end = inl refl
skipped_six (skip id body t) = inr (omega arith)
skipped_six (known id own kids t) = go (skipped_six kids) (skipped_six t)
  where
    go : (skipped kids ≡ 0) ⊎ (6 ≤ skipped kids) → (skipped t ≡ 0) ⊎ (6 ≤ skipped t) → (skipped kids + skipped t ≡ 0) ⊎ (6 ≤ skipped kids + skipped t)
    go (inl a) (inl b) = inl (omega arith)
    go (inl a) (inr b) = inr (omega arith)
    go (inr a) b = inr (omega arith)

no-identifiers : (t : Run) → record_count t ≡ 0 → identifiers t ≡ []
no-identifiers end n = refl
no-identifiers (skip id body t) n = no-identifiers t n
no-identifiers (known id own kids t) n = absurd (omega arith)

-- a 4D4D without a known child lacks its 3D3D
has_scene : (v : ℕ) (kids : Run) → none_missing (top v) kids ≡ true → ¬ (record_count kids ≡ 0)
unfolding needs at_least_one_ids every
has_scene v kids h n = false≢true (rw (no-identifiers kids n) at h)

pub none_smaller : NoneSmaller
none_smaller s s' kids kids' m m' l k =
    omega (arith, counts-add s kids m, six_each (figure kids), has_scene (version kids') kids' m'.chunks.1.none-missing, go (skipped_six (figure kids)) k)
  where
    go : (skipped (figure kids) ≡ 0) ⊎ (6 ≤ skipped (figure kids)) → 0 < skipped (figure kids) → 6 ≤ skipped (figure kids)
    go (inl z) k = absurd (omega arith)
    go (inr z) k = z
