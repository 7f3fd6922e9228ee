-- What the rescue answers is small: the place of a fault outside 3D3D's children lies in the file, and no cut is empty.
use mathlib.Core.Path.{◌≡◌, refl, sym, ap, ◌∙◌, subst}
use mathlib.Core.Logic.{◌⊎◌, inl, inr}
use mathlib.Core.List.{List, [], ◌∷◌, ◌++◌}
use mathlib.Core.Option.{Option, none, some}
use Prim.Native.Nat.{ℕ, ◌+◌, ◌≤◌}
use native.Mathlib.Omega.{arith}
use lib.ListN.{length, length-append, length-drop}
use borrow.Author.Tests.{leb-true}
use Rattle.shared_words.specs.declared.Refusal.{Refusal}
use Rattle.shared_words.specs.Refusals.{limit, place_of}
use Rattle.shared_words.specs.Bytes.{Bytes}
use Rattle.shared_words.specs.Conditions.{broken, Answer, refused, accepted}
use Rattle.shared_words.proofs.Conditions.{met}
use Rattle.studio_rules.specs.Layout.{Run, header, size, bytes}
use Rattle.studio_rules.specs.Walk.{file_conditions, length_field, walk, top, verdict}
use Rattle.studio_rules.proofs.Sound.{length-bytes}
use Rattle.studio_scene.specs.Passed.{passed}
use Rattle.studio_rescue_rules.specs.Rescue.{version_of, mended, Rescued, beyond, saved, rescue_of, rescue}
use Rattle.studio_rescue_rules.specs.Theorems.{FaultInScene}
use Rattle.studio_rescue_rules.proofs.First.{first-fault}
use Rattle.studio_rescue_rules.proofs.Theorems.{result-accepted, cuts_restore, few-cuts}
use Rattle.claim_numbers.proofs.Conditions.{PlaceTo}
use Rattle.claim_numbers.proofs.StudioPlaces.{RunIn, walk_in, Within, file_to, verdict-within}

abbrev pub RescueWithin : Rescued → Type 0
RescueWithin (beyond r) = place_of r ≤ limit
RescueWithin (saved s cuts) = (length cuts ≤ limit) × (length s ≤ limit)

-- the place, where it is refused
abbrev PlaceIn : Rescued → Type 0
PlaceIn (beyond r) = place_of r ≤ limit
PlaceIn (saved s cuts) = Unit

-- as the reader answers
as_read : (s : List ℕ) (a : Answer Run) → Within a → PlaceIn (rescue_of s a)
as_read s (refused r) h = h
as_read s (accepted kids) h = tt

-- or with what stands behind 3D3D
behind_in : (s : List ℕ) (w : FaultInScene s) → length s ≤ limit → PlaceIn (rescue s)
behind_in s w l =
    let o : ℕ = 6 + size w.before + (6 + length w.body) in
    go (walk (top (version_of s)) (0x3D3D ∷ passed [] w.before) o w.back) refl (walk_in (top (version_of s)) (0x3D3D ∷ passed [] w.before) o w.back)
  where
    go : (a : Answer Run) → walk (top (version_of s)) (0x3D3D ∷ passed [] w.before) (6 + size w.before + (6 + length w.body)) w.back ≡ a →
        RunIn (6 + size w.before + (6 + length w.body)) (length w.back) a → PlaceIn (rescue s)
    go (refused r) e h =
        let y : List ℕ = header 0x3D3D (6 + length w.body) ++ (w.body ++ w.back) in
        let n = ap length w.file-is ∙ length-append (bytes w.before) y in
        subst PlaceIn (sym (w.goes_on r e)) (omega (arith, length-bytes w.before, length-append w.body w.back, length-drop 6 s))
    go (accepted t) e h = subst PlaceIn (sym (w.saves t e).1) tt

first_in : (s : List ℕ) → length s ≤ limit → (mended s ≡ verdict s) ⊎ FaultInScene s → PlaceIn (rescue s)
unfolding rescue
first_in s l (inl e) = rw e (as_read s (verdict s) (verdict-within s))
first_in s l (inr w) = behind_in s w l

place_in : (s : List ℕ) → Bytes s → PlaceIn (rescue s)
unfolding rescue mended
place_in s b = go (broken (file_conditions s (length_field s))) refl (file_to s (length_field s))
  where
    go : (r : Option Refusal) → broken (file_conditions s (length_field s)) ≡ r → PlaceTo limit r → PlaceIn (rescue s)
    go (some r) e h = rw e h
    go none e h = first_in s (leb-true _ _ (met _ e).0) (first-fault s b)

pub rescue-within : (s : List ℕ) → Bytes s → RescueWithin (rescue s)
rescue-within s b = go (rescue s) refl (place_in s b)
  where
    go : (x : Rescued) → rescue s ≡ x → PlaceIn x → RescueWithin x
    go (beyond r) e h = h
    go (saved s' cuts) e h =
        let f = few-cuts s b s' cuts e in
        let k = result-accepted s b s' cuts e in
        let n = (cuts_restore s b s' cuts e k.0 k.1).length_lowered in
        let l = f.within-limit in
        (omega (arith, f.few), omega arith)
