-- One run behind another: its identifiers, its counts, and whether it obeys the rules. (Its bytes and meshes: studio_rules/proofs/Then.)
use mathlib.Core.Path.{◌≡◌, refl}
use Prim.Native.Nat.{ℕ, ◌+◌}
use native.Mathlib.Omega.{arith}
use mathlib.Core.List.{List, ◌∷◌, ◌++◌}
use Rattle.studio_rules.specs.Layout.{Run, end, skip, known, identifiers, ◌then◌}
use Rattle.studio_rules.specs.Rules.{Parent, Obeys}
use Rattle.studio_rules.specs.Gives.{record_count, headers, owned, skipped}
use Rattle.studio_scene.specs.Passed.{passed}

pub identifiers_then : (a t : Run) → identifiers (a then t) ≡ identifiers a ++ identifiers t
identifiers_then end t = refl
identifiers_then (skip id body a) t = identifiers_then a t
identifiers_then (known id own kids a) t = rw (identifiers_then a t)

pub records_then : (a t : Run) → record_count (a then t) ≡ record_count a + record_count t
records_then end t = omega arith
records_then (skip id body a) t = records_then a t
records_then (known id own kids a) t = omega (arith, records_then a t)

pub headers_then : (a t : Run) → headers (a then t) ≡ headers a + headers t
headers_then end t = omega arith
headers_then (skip id body a) t = headers_then a t
headers_then (known id own kids a) t = omega (arith, headers_then a t)

pub owned_then : (a t : Run) → owned (a then t) ≡ owned a + owned t
owned_then end t = omega arith
owned_then (skip id body a) t = owned_then a t
owned_then (known id own kids a) t = omega (arith, owned_then a t)

pub skipped_then : (a t : Run) → skipped (a then t) ≡ skipped a + skipped t
skipped_then end t = omega arith
skipped_then (skip id body a) t = omega (arith, skipped_then a t)
skipped_then (known id own kids a) t = omega (arith, skipped_then a t)

-- ---- the rules

pub obeys-join : (p : Parent) (seen : List ℕ) (a t : Run) → Obeys p seen a → Obeys p (passed seen a) t → Obeys p seen (a then t)
obeys-join p seen end t h k = k
obeys-join p seen (skip id body a) t h k = (h.0, obeys-join p seen a t h.1 k)
obeys-join p seen (known id own kids a) t h k = (h.0, h.1, h.2, obeys-join p (id ∷ seen) a t h.3 k)

pub obeys-parts : (p : Parent) (seen : List ℕ) (a t : Run) → Obeys p seen (a then t) → Obeys p seen a × Obeys p (passed seen a) t
obeys-parts p seen end t h = (tt, h)
obeys-parts p seen (skip id body a) t h = let k = obeys-parts p seen a t h.1 in ((h.0, k.0), k.1)
obeys-parts p seen (known id own kids a) t h = let k = obeys-parts p (id ∷ seen) a t h.3 in ((h.0, h.1, h.2, k.0), k.1)
