-- Q-10 OF THE CALL: what stands in the lent rows after `rescue_call`, however the cuts stand there. (The theorems of crate
-- studio_rescue_rules speak of `rescue`; these speak of what the caller sees.)
use Rattle.std.specs.Prelude.{◌≡◌, ◌⊎◌, List, [], ◌∷◌, ℕ, ◌+◌, ◌≤◌, length, take, drop, Ok, Err}
use Rattle.shared_words.specs.declared.Refusal.{Refusal}
use Rattle.shared_words.specs.Bytes.{Bytes}
use Rattle.shared_words.specs.Conditions.{refused}
use Rattle.shared_words.specs.Lists.{All}
use Rattle.shared_words.specs.Effects.{leaving, filled}
use Rattle.shared_words.specs.Encodings.{Encoding}
use Rattle.studio_rules.specs.declared.Counts.{Counts}
use Rattle.studio_rules.specs.Layout.{size}
use Rattle.studio_rules.specs.Walk.{length_field, walk, top}
use Rattle.studio_rules.specs.Calls.{check_call}
use Rattle.studio_scene.specs.Passed.{passed}
use Rattle.studio_rescue_rules.specs.Rescue.{version_of, Cut}
use Rattle.studio_rescue_rules.specs.Call.{Lent, rescue_call, mended_answer}
use Rattle.studio_rescue_rules.specs.Theorems.{Restored, Failed, SameAround, FaultInScene}

-- of the file s so many cuts and so many bytes were answered
pub record Mends {A : Type 0} (e : Encoding Cut A) (s : List ℕ) (rows : Lent A) (count bytes : ℕ) : Type 0 where
  -- the cuts stand in the front of their row, and the result, `file`, in the front of the other
  pub cuts : List Cut
  pub file : List ℕ
  pub cuts-counted : length cuts ≡ count
  pub cuts_stand : (rescue_call e s rows).rows.cuts ≡ filled (e.encode cuts) rows.cuts
  pub file-long : length file ≡ bytes
  pub file-stands : (rescue_call e s rows).rows.out ≡ filled file rows.out
  pub file-read : take bytes (rescue_call e s rows).rows.out ≡ file
  -- THE RESULT IS ACCEPTED
  pub counts : Counts
  pub accepted : check_call file ≡ Ok counts
  -- PUTTING THE CUTS BACK, with the old lengths, gives the damaged file: `scene-at` is where 3D3D stands in both
  pub scene-at : ℕ
  pub restored : Restored s file cuts scene-at
  -- NOTHING IS CUT THAT DOES NOT FAIL: each cut is one whole child, or reaches 3D3D's end behind a bad header; none is empty
  pub failed : All (Failed (version_of s) s (scene-at + length_field (drop scene-at s))) cuts
  -- outside 3D3D's children nothing changes but the two lengths
  pub around : SameAround s file

-- The check's fault lies in 3D3D's children; then the call goes on behind 3D3D, and the first fault there is its answer.
pub record GoesOn {A : Type 0} (e : Encoding Cut A) (s : List ℕ) (rows : Lent A) (r : Refusal) : Type 0 where
  pub scene : FaultInScene s
  pub fault-is : scene.fault ≡ r
  pub behind : (q : Refusal) →
      walk (top (version_of s)) (0x3D3D ∷ passed [] scene.before) (6 + size scene.before + (6 + length scene.body)) scene.back ≡ refused q →
      rescue_call e s rows ≡ leaving (Err q) rows

pub record RescueOfCall : Type 1 where
  pub mends : {A : Type 0} (e : Encoding Cut A) (s : List ℕ) → Bytes s → (rows : Lent A) (count bytes : ℕ) →
      (rescue_call e s rows).answer ≡ mended_answer count bytes → Mends e s rows count bytes
  -- AN ACCEPTED FILE COMES BACK UNCHANGED, with no cuts
  pub unchanged : {A : Type 0} (e : Encoding Cut A) (s : List ℕ) → Bytes s → (rows : Lent A) (counts : Counts) → check_call s ≡ Ok counts → length s ≤ length rows.out →
      rescue_call e s rows ≡ leaving (mended_answer 0 (length s)) record { cuts = filled (e.encode []) rows.cuts; out = filled s rows.out }
  -- THE FIRST FAULT outside 3D3D's children is answered with its own number, and the rows are as they were
  pub first-fault : {A : Type 0} (e : Encoding Cut A) (s : List ℕ) → Bytes s → (rows : Lent A) (r : Refusal) → check_call s ≡ Err r →
      (rescue_call e s rows ≡ leaving (Err r) rows) ⊎ GoesOn e s rows r
