-- The worked case, by computation.
use mathlib.Core.Path.{◌≡◌, refl}
use mathlib.Core.List.{[], ◌∷◌, map}
use Rattle.studio_rules.specs.Layout.{end, ◌then◌}
use Rattle.shared_words.specs.Lists.{every}
use Rattle.studio_rules.specs.Table.{rows, at_most_one_ids, at_least_one_ids, listed, under, shape, plus, limits, needs}
use Rattle.shared_words.specs.Labels.{fits_label}
use Rattle.shared_words.specs.Floats.{finite}
use Rattle.shared_words.specs.Conditions.{broken}
use Rattle.studio_rules.specs.Walk.{step, walk, version_in, verdict}
use Rattle.studio_scene.specs.Scene.{file_of}
use Rattle.claim_swapped.specs.Swapped.{Swapped, Reordered, same, swap, by_swaps}
use Rattle.claim_swapped.specs.Samples.{near, far, note, was, is, vertices_in}

-- by two swaps of neighbours
abbrev pub over-note : Swapped was (note then near then far)
over-note = record { first = end; left = near; right = note; last = far; was = refl; is = refl }

abbrev pub over-far : Swapped (note then near then far) is
over-far = record { first = note; left = near; right = far; last = end; was = refl; is = refl }

abbrev pub moved : Reordered was is
moved = swap (swap (same was) over-note) over-far

pub record Samples : Type 0 where
  pub before : vertices_in (verdict (file_of end was end)) ≡ (0x3F80_0000 ∷ 0 ∷ 0 ∷ []) ∷ (0x4000_0000 ∷ 0 ∷ 0 ∷ []) ∷ []
  pub after : vertices_in (verdict (file_of end is end)) ≡ (0x4000_0000 ∷ 0 ∷ 0 ∷ []) ∷ (0x3F80_0000 ∷ 0 ∷ 0 ∷ []) ∷ []
  pub numbers : map (by_swaps end moved) (0 ∷ 1 ∷ 2 ∷ []) ≡ 1 ∷ 0 ∷ 2 ∷ []

pub samples : Samples
unfolding every rows at_most_one_ids at_least_one_ids listed under shape plus limits needs finite fits_label broken step walk version_in verdict
samples = record { before = refl; after = refl; numbers = refl }
