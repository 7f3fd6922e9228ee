-- The mapping of a mesh: what the rule of new files and that of old ones have in common, and what follows.
use mathlib.Core.Path.{◌≡◌, refl, ◌∙◌}
use mathlib.Core.Logic.{◌⊎◌, inl, inr}
use Prim.Native.Nat.{ℕ, ◌+◌, ◌-◌, ◌*◌, ◌≤◌}
use native.Mathlib.Omega.{arith}
use mathlib.Core.Bool.{Bool, true, false, not, ◌||◌, cond}
use mathlib.Core.List.{List, [], ◌∷◌}
use lib.ListN.{length, drop, replicate, length-append, length-replicate}
use lib.Dec.{eqb, leb}
use borrow.Author.Tests.{eqb-true, leb-true}
use Rattle.shared_words.specs.Lists.{All, among}
use Rattle.studio_rules.specs.OwnData.{count, mapping_numbers}
use Rattle.studio_rules.specs.Layout.{Run, end, skip, known, size, identifiers, child, figure}
use Rattle.studio_rules.specs.Rules.{Parent, file, inside, as_many_pairs, pairs_fit, Obeys, version}
use Rattle.studio_rules.specs.Gives.{Mesh, pairs_of, filled_up, mesh_of, one_mesh, meshes_of}
use Rattle.studio_rules.specs.Theorems.{Whole, MappingWhole}
use Rattle.shared_words.proofs.Numbers.{length-numbers}
use Rattle.studio_rules.proofs.Children.{child-none}
use Rattle.shared_words.proofs.Lists.{all_append}

-- in a file of any version there are at most n pairs
pub pairs-at-most : (v m n : ℕ) → pairs_fit v m n ≡ true → m ≤ n
pairs-at-most v m n = go (as_many_pairs v)
  where
    go : (b : Bool) → cond b (eqb m n) (leb m n) ≡ true → m ≤ n
    go true h = omega (arith, eqb-true m n h)
    go false h = leb-true m n h

-- what the rule asks of the children of a mesh
abbrev pub Fitting : ℕ → Run → Type 0
Fitting v kids = (not (among 0x4140 (identifiers kids)) || pairs_fit v (count (child 0x4140 kids)) (count (child 0x4110 kids))) ≡ true

-- so the pairs that are given are not more than there are
pub given-at-most : (v : ℕ) (kids : Run) → Fitting v kids → count (child 0x4140 kids) ≤ pairs_of kids
given-at-most v kids = go (among 0x4140 (identifiers kids)) refl
  where
    go : (b : Bool) → among 0x4140 (identifiers kids) ≡ b → (not b || pairs_fit v (count (child 0x4140 kids)) (count (child 0x4110 kids))) ≡ true → count (child 0x4140 kids) ≤ pairs_of kids
    go true e h = rw e (pairs-at-most v (count (child 0x4140 kids)) (count (child 0x4110 kids)) h)
    go false e h = rw (e, child-none 0x4140 kids e) (omega arith)

pub pairs-all_or_none : (kids : Run) → (pairs_of kids ≡ count (child 0x4110 kids)) ⊎ (pairs_of kids ≡ 0)
pairs-all_or_none kids = go (among 0x4140 (identifiers kids)) refl
  where
    go : (b : Bool) → among 0x4140 (identifiers kids) ≡ b → (pairs_of kids ≡ count (child 0x4110 kids)) ⊎ (pairs_of kids ≡ 0)
    go true e = inl (rw e)
    go false e = inr (rw e)

pub length-filled-up : (n : ℕ) (numbers : List ℕ) → length numbers ≤ n → length (filled_up n numbers) ≡ n
length-filled-up n numbers h =
    length-append numbers (replicate (n - length numbers) 0) ∙ omega (arith, length-replicate {A = ℕ} (n - length numbers) 0)

mesh-whole : (v at l : ℕ) (kids : Run) → Fitting v kids → Whole (mesh_of at l kids)
mesh-whole v at l kids h =
    let given : length (mapping_numbers (child 0x4140 kids)) ≡ 2 * count (child 0x4140 kids) = length-numbers 4 (2 * count (child 0x4140 kids)) (drop 2 (child 0x4140 kids)) in
    record { all_or_none = pairs-all_or_none kids; two-each = length-filled-up (2 * pairs_of kids) (mapping_numbers (child 0x4140 kids)) (omega (arith, given-at-most v kids h)) }

one-whole : (b : Bool) (m : Mesh) → (b ≡ true → Whole m) → All Whole (one_mesh b m)
one-whole true m h = (h refl, tt)
one-whole false m h = tt

meshes-whole : (p : Parent) (seen : List ℕ) (o at l : ℕ) (t : Run) → Obeys p seen t → All Whole (meshes_of o at l t)
meshes-whole p seen o at l end h = tt
meshes-whole p seen o at l (skip id body rest) h = meshes-whole p seen (o + (6 + length body)) at l rest h.1
meshes-whole p seen o at l (known id own kids rest) h =
    let q : Parent = inside p seen id own in
    let inner : List Mesh = meshes_of (o + (6 + length own)) (o + 6) (length own - 1) kids in
    all_append Whole (one_mesh (eqb id 0x4100) (mesh_of at l kids)) _
    (one-whole (eqb id 0x4100) (mesh_of at l kids) (λ e. mesh-whole p.version at l kids (rw e at h.1.mapping_matches_lem)))
    (all_append Whole inner _ (meshes-whole q [] (o + (6 + length own)) (o + 6) (length own - 1) kids h.2) (meshes-whole p (id ∷ seen) (o + (6 + length own + size kids)) at l rest h.3))

pub mapping_whole : MappingWhole
mapping_whole s kids m = meshes-whole (file (version kids)) [] 0 0 0 (figure kids) m.chunks
