-- The mended file meets the rules; and where 3D3D stands in it and in the damaged one.
use mathlib.Core.Path.{◌≡◌, refl, sym, ap, ◌∙◌, subst}
use Prim.Native.Nat.{ℕ, suc, ◌+◌, ◌^◌, ◌≤◌, ◌<◌}
use native.Mathlib.Omega.{arith}
use mathlib.Core.List.{List, [], ◌++◌}
use mathlib.Core.Option.{Option, none, some}
use lib.ListN.{length, take, drop, length-append, length-drop}
use borrow.Author.Tests.{leb-true, eqb-true}
use Rattle.shared_words.specs.declared.Refusal.{Refusal}
use Rattle.shared_words.specs.Bytes.{value, Bytes}
use Rattle.shared_words.specs.Refusals.{limit}
use Rattle.studio_rules.specs.Layout.{Run, known, figure, header, size, bytes}
use Rattle.studio_rules.specs.Rules.{file, Obeys, version, Meets}
use Rattle.shared_words.specs.Conditions.{broken, Answer, refused, accepted, unless}
use Rattle.studio_rules.specs.Walk.{file_conditions, end_conditions, length_field, ended, version_in, top}
use Rattle.shared_words.proofs.Bytes.{bytes_drop}
use Rattle.studio_rules.proofs.Headers.{header_is}
use Rattle.shared_words.proofs.Conditions.{met}
use Rattle.studio_rules.proofs.Sound.{length-bytes, Closed, Closes, ended_closes}
use Rattle.studio_rules.proofs.Verdict.{top_own, top-plus, length-figure}
use Rattle.studio_rules.proofs.Version.{version-of-bytes}
use Rattle.studio_scene.proofs.Then.{obeys-parts}
use Rattle.studio_rules.proofs.Then.{size_then, bytes_then}
use Rattle.studio_scene.proofs.Holds.{one-there}
use Rattle.studio_rescue_rules.specs.Rescue.{version_of, Cut, sift, mend, mended, gone}
use Rattle.studio_rescue_rules.proofs.Version.{scene_same}
use Rattle.studio_rescue_rules.proofs.Sift.{sift-says}
use Rattle.studio_rescue_rules.proofs.Mend.{Torn, Mends, run_mends}

pub record MendedFile (s : List ℕ) (kids : Run) : Type 0 where
  pub meets : Meets (bytes (figure kids)) kids
  pub version-kept : version kids ≡ version_of s
  pub torn : Torn (version_of s) 6 (drop 6 s) kids
  pub field : length_field s ≡ length s
  pub head : header 0x4D4D (length s) ++ drop 6 s ≡ s
  pub long : 6 ≤ length s
  pub within-limit : length s ≤ limit

abbrev FileMends : List ℕ → Answer Run → Type 0
FileMends s (refused r) = Unit
FileMends s (accepted kids) = MendedFile s kids

-- the cuts in a run
abbrev pub cuts_in : (v o : ℕ) (s : List ℕ) (t : Run) → Torn v o s t → List Cut
cuts_in v o s t w = (sift v (w.at + 6) w.body).cuts

-- each byte of a run is kept or cut
pub torn-sizes : (v o : ℕ) (s : List ℕ) (t : Run) (w : Torn v o s t) → size t + gone (cuts_in v o s t w) ≡ length s
torn-sizes v o s t w =
    let kept : Run = (sift v (w.at + 6) w.body).kept in
    let d = ap length w.damaged in
    omega (
      arith,
      ap size w.is,
      size_then w.before (known 0x3D3D [] kept w.after),
      length-bytes w.before,
      length-bytes w.after,
      length-append (bytes w.before) (header 0x3D3D (6 + length w.body) ++ (w.body ++ bytes w.after)),
      length-append w.body (bytes w.after),
      (sift-says v (w.at + 6) w.body w.body_bytes).sizes,
    )

-- what is kept tells the version that was told
torn-version : (v o : ℕ) (s : List ℕ) (t : Run) → Torn v o s t → Obeys (top v) [] t → length s < 2 ^ 32 → version t ≡ version_in s
torn-version v o s t w h l =
    let kept : Run = (sift v (w.at + 6) w.body).kept in
    let scene : Run = known 0x3D3D [] kept w.after in
    let n = torn-sizes v o s t w in
    let k = (sift-says v (w.at + 6) w.body w.body_bytes).sizes in
    let i = ap size w.is ∙ size_then w.before scene in
    let e : bytes t ≡ bytes w.before ++ (header 0x3D3D (6 + length (bytes kept)) ++ (bytes kept ++ bytes w.after)) =
    ap bytes w.is ∙ bytes_then w.before scene ∙ rw (length-bytes kept) in
    sym (version-of-bytes t (bytes t) (top v) refl (omega arith) h) ∙ ap version_in e ∙
    sym (ap version_in w.damaged ∙
    scene_same (top v) w.before w.body (bytes kept) (bytes w.after) (obeys-parts (top v) [] w.before scene (rw w.is at h)).0 (omega arith) (omega arith) (omega (arith, length-bytes kept)))

module _ (s : List ℕ) (field : length_field s ≡ length s) (head : header 0x4D4D (length s) ++ drop 6 s ≡ s) (long : 6 ≤ length s) (within : length s ≤ limit) where
  abbrev v : ℕ
  v = version_of s

  ended_mends : (a : Answer Run) → Mends v [] 6 (drop 6 s) a → FileMends s (ended (top v) 0 a)
  ended_mends (refused r) h = tt
  ended_mends (accepted kids) h = go (broken (end_conditions (top v) 0 kids)) refl
    where
      go : (r : Option Refusal) → broken (end_conditions (top v) 0 kids) ≡ r → FileMends s (unless r (accepted kids))
      go (some r) e = tt
      go none e =
          let c : Closed (top v) (bytes kids) kids =
          subst (λ (r : Option Refusal). Closes (top v) (bytes kids) (unless r (accepted kids))) e
          (ended_closes (top v) 0 (bytes kids) (accepted kids) record { is = refl; obeys = h.obeys }) in
          let l = c.lawful (top-plus v kids) in
          let w = h.torn (one-there v kids l.none-missing) in
          let same : version kids ≡ v = torn-version v 6 (drop 6 s) kids w h.obeys (omega (arith, length-drop 6 s)) in
          record {
            meets = record {
              is = refl;
              within-limit = omega (arith, length-figure kids, torn-sizes v 6 (drop 6 s) kids w, length-drop 6 s);
              chunks = subst (λ (v : ℕ). Obeys (file v) [] (figure kids)) (sym same) (top_own v, l, h.obeys, tt);
            };
            version-kept = same;
            torn = w;
            field = field;
            head = head;
            long = long;
            within-limit = within;
          }

mend-says : (v : ℕ) (s : List ℕ) → Bytes s → Mends v [] 6 s (mend v [] 6 s)
unfolding mend
mend-says v s b = run_mends v (suc (length s)) [] 6 s b

file_mends : (s : List ℕ) → Bytes s → FileMends s (mended s)
unfolding mended
file_mends s b = go (broken (file_conditions s (length_field s))) refl
  where
    v : ℕ
    v = version_of s

    go : (r : Option Refusal) → broken (file_conditions s (length_field s)) ≡ r → FileMends s (unless r (ended (top v) 0 (mend v [] 6 (drop 6 s))))
    go (some r) e = tt
    go none e =
        let t = met _ e in
        let l₁ : length s ≤ limit = leb-true _ _ t.0 in
        let l₂ : 6 ≤ length s = leb-true _ _ t.1.0 in
        let i : value (take 2 s) ≡ 0x4D4D = eqb-true _ _ t.1.1.0 in
        let l₃ : length_field s ≤ length s = leb-true _ _ t.1.1.1.1.0 in
        let l₄ : length s ≤ length_field s = leb-true _ _ t.1.1.1.1.1.0 in
        let f : length_field s ≡ length s = omega arith in
        ended_mends s f (rw (i, f) at (header_is s b l₂)) l₂ l₁ (mend v [] 6 (drop 6 s)) (mend-says v (drop 6 s) (bytes_drop 6 s b))

pub file-mended : (s : List ℕ) → Bytes s → (kids : Run) → mended s ≡ accepted kids → MendedFile s kids
file-mended s b kids e = subst (FileMends s) e (file_mends s b)
