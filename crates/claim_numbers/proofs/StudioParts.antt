-- The parts of a figure are few: each has its B002, which is a record of the list.
use Prim.Native.Nat.{ℕ, ◌≤◌}
use native.Mathlib.Omega.{arith}
use mathlib.Core.Bool.{Bool, true, false, cond}
use mathlib.Core.List.{[], ◌∷◌}
use lib.Dec.{eqb}
use lib.ListN.{length}
use Rattle.studio_rules.specs.OwnData.{father}
use Rattle.studio_rules.specs.Layout.{Run, end, skip, known, child, held}
use Rattle.studio_rules.specs.Gives.{record_count, fathers_in, fathers, parts}
use Rattle.studio_rules.proofs.Parts.{length_from}

fathers-few : (t : Run) → length (fathers_in t) ≤ record_count t
fathers-few end = omega arith
fathers-few (skip id body rest) = fathers-few rest
fathers-few (known id own kids rest) = go (eqb id 0xB002) (fathers-few rest)
  where
    go : (b : Bool) → length (fathers_in rest) ≤ record_count rest → length (cond b (father (child 0xB010 kids) ∷ fathers_in rest) (fathers_in rest)) ≤ record_count (known id own kids rest)
    go true ih = omega (arith, ih)
    go false ih = omega (arith, ih)

held-few : (x : ℕ) (t : Run) → record_count (held x t) ≤ record_count t
held-few x end = omega arith
held-few x (skip id body rest) = held-few x rest
held-few x (known id own kids rest) = go (eqb id x) (held-few x rest)
  where
    go : (b : Bool) → record_count (held x rest) ≤ record_count rest → record_count (cond b kids (held x rest)) ≤ record_count (known id own kids rest)
    go true ih = omega arith
    go false ih = omega (arith, ih)

pub parts-few : (kids : Run) → length (parts kids) ≤ record_count kids
parts-few kids = omega (arith, length_from [] (fathers kids), fathers-few (held 0xB000 kids), held-few 0xB000 kids)
