-- Every accepted file has a 3D3D: "at least one" says so, and its row that it has no own data.
use mathlib.Core.Path.{◌≡◌, refl, ap, ◌∙◌}
use Prim.Native.Nat.{ℕ, ◌+◌, ◌≤◌}
use native.Mathlib.Omega.{arith}
use mathlib.Core.Bool.{Bool, true, false, ◌||◌, cond}
use mathlib.Core.List.{List, [], ◌∷◌}
use lib.Dec.{eqb, leb}
use lib.ListN.{length}
use borrow.Author.Tests.{leb-true, le-leb, eqb-true}
use Rattle.shared_words.specs.Lists.{every}
use Rattle.studio_rules.specs.Table.{rows, shape, needs, at_least_one_ids}
use Rattle.studio_rules.specs.Layout.{Run, end, skip, known, identifiers}
use Rattle.studio_rules.specs.Rules.{tally, own_data_exact, none_missing, Obeys, version}
use Rattle.studio_rules.specs.Walk.{top}
use Rattle.shared_words.proofs.Bools.{both, and_parts}
use Rattle.studio_rules.proofs.Once.{tally_append}
use Rattle.studio_rules.proofs.Verdict.{accepted_exactly}
use Rattle.studio_scene.specs.Scene.{holding, Holds3D3D}
use Rattle.studio_scene.proofs.Then.{identifiers_then}

abbrev Split : Run → Type 0
Split kids = (before scene after : Run) × (kids ≡ holding before scene after)

no_bytes : (own : List ℕ) → 0 ≡ length own → own ≡ []
no_bytes [] e = refl
no_bytes (b ∷ own) e = absurd (omega arith)

-- 3D3D has no own data
pub own_none : (v : ℕ) (own : List ℕ) → own_data_exact (top v) 0x3D3D own ≡ true → own ≡ []
unfolding shape rows
own_none v own h = no_bytes own (eqb-true 0 (length own) h)

find : (v : ℕ) (seen : List ℕ) (kids : Run) → Obeys (top v) seen kids → 1 ≤ tally (0x3D3D ∷ []) (identifiers kids) → Split kids
find v seen end h n = absurd (omega arith)
find v seen (skip id body rest) h n = let f = find v seen rest h.1 n in (skip id body f.0, f.1, f.2, ap (skip id body) f.3)
find v seen (known id own kids rest) h n = go (eqb id 0x3D3D) refl n (find v (id ∷ seen) rest h.3)
  where
    go : (e : Bool) → eqb id 0x3D3D ≡ e → 1 ≤ cond (e || false) 1 0 + tally (0x3D3D ∷ []) (identifiers rest) →
        (1 ≤ tally (0x3D3D ∷ []) (identifiers rest) → Split rest) → Split (known id own kids rest)
    go true e n ih =
        let i = eqb-true id 0x3D3D e in
        let z : own ≡ [] = own_none v own (rw i at h.0.own_data_exact_lem) in
        (end, kids, rest, rw (i, z))
    go false e n ih = let f = ih (omega arith) in (known id own kids f.0, f.1, f.2, ap (known id own kids) f.3)

pub one-there : (v : ℕ) (kids : Run) → none_missing (top v) kids ≡ true → 1 ≤ tally (0x3D3D ∷ []) (identifiers kids)
unfolding every needs at_least_one_ids
one-there v kids h = leb-true 1 _ (and_parts _ _ h).0

-- and where one is, none is missing
pub none-missing : (v : ℕ) (before scene after : Run) → none_missing (top v) (holding before scene after) ≡ true
unfolding every needs at_least_one_ids
none-missing v before scene after =
    let n = ap (tally (0x3D3D ∷ [])) (identifiers_then before (known 0x3D3D [] scene after)) ∙ tally_append (0x3D3D ∷ []) (identifiers before) (0x3D3D ∷ identifiers after) in
    let k : ℕ = tally (0x3D3D ∷ []) (identifiers (holding before scene after)) in
    both (leb 1 k) true (le-leb 1 k (omega arith)) refl

pub holds_3D3D : Holds3D3D
holds_3D3D s kids b e = let m = (accepted_exactly s b kids).0 e in find (version kids) [] kids m.chunks.2 (one-there (version kids) kids m.chunks.1.none-missing)
