-- The file itself is refused, or what stands around 3D3D is judged.
use Rattle.std.specs.Prelude.{Result, Err}
use mathlib.Core.Path.{◌≡◌}
use Prim.Native.Nat.{ℕ}
use mathlib.Core.List.{List, []}
use mathlib.Core.Option.{Option, none, some}
use lib.ListN.{drop}
use Rattle.shared_words.specs.declared.Refusal.{Refusal}
use Rattle.shared_words.specs.Conditions.{broken, unless}
use Rattle.studio_rules.specs.Walk.{file_conditions, length_field, ended, version_in, top}
use Rattle.studio_marks.specs.Marks.{ShutIs}
use Rattle.studio_walk.proofs.Chunks.{clash}
use Rattle.studio_rescue_rules.specs.Rescue.{version_of, mend, mended}
use Rattle.studio_rescue_around.specs.declared.Scene.{Scene}
use Rattle.studio_rescue_around.specs.Around.{outside_of}

module _ (s : List ℕ) where
  pub whole-refused : (y : Refusal) (r : Result Unit Refusal) → r ≡ Err y → ShutIs (broken (file_conditions s (length_field s))) r → Err y ≡ outside_of s (mended s)
  unfolding mended
  whole-refused y r e h = go (broken (file_conditions s (length_field s))) h
    where
      go : (x : Option Refusal) → ShutIs x r → Err y ≡ outside_of s (unless x (ended (top (version_of s)) 0 (mend (version_of s) [] 6 (drop 6 s))))
      go (some x) h = cc
      go none h = absurd (clash (cc))

  pub whole-read : (v : ℕ) → v ≡ version_in (drop 6 s) → broken (file_conditions s (length_field s)) ≡ none → outside_of s (ended (top v) 0 (mend v [] 6 (drop 6 s))) ≡ outside_of s (mended s)
  unfolding mended
  whole-read v k e = rw (e, k)
