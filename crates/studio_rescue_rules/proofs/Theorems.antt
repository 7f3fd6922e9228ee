-- The rescue's theorems: the result is accepted, an accepted file comes back, the cuts put back give the damaged file.
use mathlib.Core.Path.{◌≡◌, refl, sym, ap, ◌∙◌, subst}
use mathlib.Core.Logic.{◌⊎◌, inl, inr}
use Prim.Native.Nat.{ℕ, ◌+◌}
use native.Mathlib.Omega.{arith}
use mathlib.Core.List.{List, [], ◌∷◌, map, append-nil}
use lib.ListN.{length, drop}
use Rattle.shared_words.specs.Bytes.{Bytes}
use Rattle.shared_words.specs.Lists.{All}
use Rattle.studio_rules.specs.Layout.{Run, known, figure, bytes, identifiers, offset_of}
use Rattle.studio_rules.specs.Rules.{tally, Obeys, version}
use Rattle.shared_words.specs.Conditions.{Answer, refused, accepted}
use Rattle.studio_rules.specs.Walk.{length_field, top, verdict}
use Rattle.studio_rules.specs.Gives.{meshes}
use Rattle.studio_rules.proofs.Once.{tally_append, at_most_one, one-scene}
use Rattle.studio_rules.proofs.Verdict.{accepted_exactly, verdict-good, version-agrees}
use Rattle.studio_scene.specs.Contents.{unplaced, contents}
use Rattle.studio_scene.specs.Passed.{passed}
use Rattle.studio_scene.specs.Scene.{holding}
use Rattle.studio_scene.proofs.Then.{identifiers_then, obeys-parts}
use Rattle.studio_scene.proofs.Contents.{contents-holding}
use Rattle.studio_rescue_rules.specs.Rescue.{version_of, Cut, Sifted, sift, mended, sifted_at, saved, rescue_of, rescue, gone}
use Rattle.studio_rescue_rules.specs.Theorems.{ResultAccepted, AcceptedUnchanged, Restored, CutsRestore, CutsFew, FewCuts, Failed, CutsFail, MeshesKept, SameAround, AroundKept, VersionKept, FaultInScene}
use Rattle.studio_rescue_rules.proofs.Sift.{sift-says}
use Rattle.studio_rescue_rules.proofs.File.{MendedFile, file-mended}
use Rattle.studio_rescue_rules.proofs.Back.{sifted-is, restored, all_failed}
use Rattle.studio_rescue_rules.proofs.First.{first-fault}
use Rattle.studio_rescue_rules.proofs.Outside.{none_beside}

-- ---- a rescue is that of a mended layout

pub record Saved (s s' : List ℕ) (cuts : List Cut) : Type 0 where
  pub kids : Run
  pub file : MendedFile s kids
  pub result-is : s' ≡ bytes (figure kids)
  pub cuts_are : cuts ≡ (sifted_at (offset_of 0x3D3D 6 kids) s).cuts

saved-by : (s s' : List ℕ) (cuts : List Cut) → Bytes s → (a : Answer Run) → mended s ≡ a → rescue_of s a ≡ saved s' cuts → Saved s s' cuts
saved-by s s' cuts b (refused r) m e = let z : ◌≡◌ {A = ℕ} 0 1 = cc in absurd (omega arith)
saved-by s s' cuts b (accepted kids) m e = record { kids = kids; file = file-mended s b kids m; result-is = cc; cuts_are = cc }

pub saved-is : (s s' : List ℕ) (cuts : List Cut) → Bytes s → rescue s ≡ saved s' cuts → Saved s s' cuts
unfolding rescue
saved-is s s' cuts b e = saved-by s s' cuts b (mended s) refl e

reads : (s s' : List ℕ) (cuts : List Cut) (g : Saved s s' cuts) → verdict s' ≡ accepted g.kids
reads s s' cuts g = rw g.result-is (verdict-good (bytes (figure g.kids)) g.kids g.file.meets)

-- THE RESULT IS ACCEPTED
pub result-accepted : ResultAccepted
result-accepted s b s' cuts e = let g = saved-is s s' cuts b e in (g.kids, reads s s' cuts g)

-- PUTTING BACK
restored_as : (s s' : List ℕ) (cuts : List Cut) (t kids : Run) → MendedFile s t → s' ≡ bytes (figure t) →
    cuts ≡ (sifted_at (offset_of 0x3D3D 6 t) s).cuts → kids ≡ t → Restored s s' cuts (offset_of 0x3D3D 6 kids)
restored_as s s' cuts t kids f e c k = rw (k, e, c) (restored s t f)

pub cuts_restore : CutsRestore
cuts_restore s b s' cuts e kids v =
    let g = saved-is s s' cuts b e in
    let r = reads s s' cuts g in
    restored_as s s' cuts g.kids kids g.file g.result-is g.cuts_are (cc)

-- NO CUT IS EMPTY
few_as : (s : List ℕ) (t : Run) → MendedFile s t → CutsFew s (sifted_at (offset_of 0x3D3D 6 t) s).cuts
few_as s t f =
    let w = f.torn in
    record { few = rw (w.place, sifted-is s t f) (sift-says (version_of s) (w.at + 6) w.body w.body_bytes).few; within-limit = f.within-limit }

pub few-cuts : FewCuts
few-cuts s b s' cuts e = let g = saved-is s s' cuts b e in rw g.cuts_are (few_as s g.kids g.file)

-- NOTHING IS CUT THAT DOES NOT FAIL
failed_as : (s : List ℕ) (cuts : List Cut) (t kids : Run) → MendedFile s t → cuts ≡ (sifted_at (offset_of 0x3D3D 6 t) s).cuts → kids ≡ t →
    All (Failed (version_of s) s (offset_of 0x3D3D 6 kids + length_field (drop (offset_of 0x3D3D 6 kids) s))) cuts
failed_as s cuts t kids f c k = rw (k, c) (all_failed s t f)

pub cuts_fail : CutsFail
cuts_fail s b s' cuts e kids v =
    let g = saved-is s s' cuts b e in
    let r = reads s s' cuts g in
    failed_as s cuts g.kids kids g.file g.cuts_are (cc)

mended-good : (s : List ℕ) (kids : Run) → verdict s ≡ accepted kids → (mended s ≡ verdict s) ⊎ FaultInScene s → mended s ≡ accepted kids
mended-good s kids v (inl e) = e ∙ v
mended-good s kids v (inr w) = let a = w.answered in let z : ◌≡◌ {A = ℕ} 0 1 = cc in absurd (omega arith)

-- UNCHANGED: the result is as long as the file, so nothing is gone
pub accepted_unchanged : AcceptedUnchanged
unfolding rescue
accepted_unchanged s b kids v =
    let m = (accepted_exactly s b kids).0 v in
    let q = mended-good s kids v (first-fault s b) in
    let f = file-mended s b kids q in
    let e : ℕ = offset_of 0x3D3D 6 kids in
    let l = (restored s kids f).length_lowered in
    let w = f.torn in
    let c : (sifted_at e s).cuts ≡ (sift (version_of s) (w.at + 6) w.body).cuts = ap (λ (x : ℕ). (sifted_at x s).cuts) w.place ∙ ap (λ (x : Sifted). x.cuts) (sifted-is s kids f) in
    let z : gone (sifted_at e s).cuts ≡ 0 = omega (arith, ap length m.is) in
    let n : (sifted_at e s).cuts ≡ [] = c ∙ (sift-says (version_of s) (w.at + 6) w.body w.body_bytes).no_cut (sym (ap gone c) ∙ z) in
    rw (q, n, m.is)

-- ---- the meshes

-- all of a figure's are in its 3D3D
in_scene : (v : ℕ) (before scene after : Run) → Obeys (top v) [] (holding before scene after) →
    map unplaced (meshes (holding before scene after)) ≡ contents scene
in_scene v before scene after k =
    let m = one-scene (identifiers (holding before scene after)) (at_most_one (top v) (holding before scene after) k) in
    let i = ap (tally (0x3D3D ∷ [])) (identifiers_then before (known 0x3D3D [] scene after)) ∙ tally_append (0x3D3D ∷ []) (identifiers before) (0x3D3D ∷ identifiers after) in
    let p = obeys-parts (top v) [] before (known 0x3D3D [] scene after) k in
    let b = none_beside v [] before 0 0 0 p.0 (omega arith) in
    let a = none_beside v (0x3D3D ∷ passed [] before) after 0 0 0 p.1.3 (omega arith) in
    contents-holding before scene after ∙ rw (b, a) (append-nil (contents scene))

kept_in : (s : List ℕ) (kids t : Run) → MendedFile s t → kids ≡ t → map unplaced (meshes kids) ≡ contents (sifted_at (offset_of 0x3D3D 6 kids) s).kept
kept_in s kids t f e =
    let w = f.torn in
    let kept : Run = (sift (version_of s) (w.at + 6) w.body).kept in
    let c = f.meets.chunks in
    let m : map unplaced (meshes t) ≡ contents kept = ap (λ (k : Run). map unplaced (meshes k)) w.is ∙ in_scene (version t) w.before kept w.after (subst (λ (k : Run). Obeys (top (version t)) [] k) w.is c.2) in
    rw (e, w.place, sifted-is s t f) m

pub meshes-kept : MeshesKept
meshes-kept s b s' cuts e kids v =
    let g = saved-is s s' cuts b e in
    let r = reads s s' cuts g in
    kept_in s kids g.kids g.file (cc)

-- OUTSIDE
around_as : (s s' : List ℕ) (t : Run) → MendedFile s t → s' ≡ bytes (figure t) → SameAround s s'
around_as s s' t f e =
    let w = f.torn in
    record { before = w.before; body = w.body; after = w.after; was = w.damaged; is = rw (← w.at-is) (e ∙ ap (λ (k : Run). bytes (figure k)) w.is) }

pub around-kept : AroundKept
around-kept s b s' cuts e = let g = saved-is s s' cuts b e in around_as s s' g.kids g.file g.result-is

-- THE VERSION
pub version-kept : VersionKept
version-kept s b s' cuts e =
    let g = saved-is s s' cuts b e in
    let k = version-agrees (bytes (figure g.kids)) g.kids g.file.meets in
    ap version_of g.result-is ∙ k ∙ g.file.version-kept
