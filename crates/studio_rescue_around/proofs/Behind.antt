-- The children of 4D4D behind 3D3D: the context in which they are read.
use mathlib.Core.Path.{◌≡◌, refl, sym, ap, ◌∙◌, subst}
use Prim.Native.Nat.{ℕ, ◌+◌, ◌≤◌, ◌<◌}
use native.Mathlib.Omega.{arith}
use mathlib.Core.Bool.{Bool, true, cond}
use mathlib.Core.List.{List, [], ◌∷◌}
use lib.Dec.{leb}
use lib.ListN.{length, take, drop}
use lib.Seq.{slice, drop-drop}
use Rattle.shared_words.specs.Bytes.{value}
use Rattle.studio_rules.specs.Rules.{Parent, few, tally}
use Rattle.studio_rules.specs.Walk.{length_field, walk, top}
use Rattle.shared_numbers.specs.Numbers.{long_at}
use Rattle.studio_row.specs.Packed.{row_of, slot_in, slot_of}
use Rattle.studio_marks.specs.Marks.{free, noted, no_marks, RuleIs}
use Rattle.studio_marks.proofs.Noted.{noted-length}
use Rattle.studio_head.specs.Contexts.{Context}
use Rattle.studio_walk.specs.declared.Ran.{Ran}
use Rattle.studio_walk.specs.Runs.{RunIs}
use Rattle.studio_check.proofs.Files.{figure-row, top_context}
use Rattle.studio_scene.specs.Passed.{passed}
use Rattle.studio_rescue_around.specs.Before.{Before}
use Rattle.studio_rescue_around.proofs.Answers.{tally-passed, few-more, none_in, ends}
use Rattle.studio_rescue_around.proofs.Contexts.{context_after, noted-scene, context_scene}
use Rattle.std.specs.Prelude.{Result}
use Rattle.shared_words.specs.declared.Refusal.{Refusal}

-- the row of 4D4D
abbrev row : ℕ
row = 0x00_1_0_5_0004_1

pub length-field : (s : List ℕ) (at n : ℕ) → n ≡ long_at s (at + 2) → n ≡ length_field (drop at s)
unfolding long_at
length-field s at n e = e ∙ ap (λ (l : List ℕ). value (take 4 l)) (sym (drop-drop 2 at s))

module _ (s table : List ℕ) (v at : ℕ) (ms : List ℕ) (g : Before s table v at ms) (more : at < length s) where
  abbrev pub seen : List ℕ
  seen = passed [] g.t

  context : Context (top v) (passed [] g.t) 0x00_1_0_5_0004_1 0 ms
  context = rw g.marked (context_after (top v) [] row 0 no_marks (top_context v row figure-row) refl 6 (omega arith) g.t g.obeys)

  pub few-here : few 0x4D4D (0x3D3D ∷ passed [] g.t) ≡ true
  few-here =
      let z : tally (0x3D3D ∷ []) seen ≡ 0 = omega (arith, tally-passed (0x3D3D ∷ []) [] g.t, none_in v s at g.long g.at-is g.t g.is) in
      few-more seen context.not_twice_lem z

  pub scene-ends : (6 ≤ length_field (drop at s)) × (at + length_field (drop at s) ≤ length s) × (6 ≤ at)
  scene-ends = let e = ends v s at g.long g.at-is g.t g.is more in (e.0, e.1, omega (arith, g.size_is))

  -- 3D3D is noted
  module _ (row' : ℕ) (is : row' ≡ row_of 0x3D3D) (b : Bool) (h : b ≡ free (slot_in row') ms) (ms' : List ℕ) (k : ms' ≡ cond b (noted (slot_in row') at ms) ms) where
    marks_are : ms' ≡ noted (slot_of 0x3D3D) at ms
    marks_are = noted-scene v seen row 0 ms context g.six few-here at row' is b h ms' k

    pub six_still : length ms' ≡ 6
    six_still = ap length marks_are ∙ noted-length (slot_of 0x3D3D) at ms ∙ g.six

    pub context_behind : Context (top v) (0x3D3D ∷ passed [] g.t) 0x00_1_0_5_0004_1 0 ms'
    context_behind = rw marks_are (context_scene v seen row 0 ms context g.six few-here at row' is (omega (arith, g.size_is)))

    pub run-behind : (stop : ℕ) (r : Result Ran Refusal) (ms'' : List ℕ) →
        ((p : Parent) (seen : List ℕ) → RuleIs p (leb 3 v) → Context p seen 0x00_1_0_5_0004_1 0 ms' → RunIs (length s) 0 0 stop ms' (walk p seen stop (slice stop (length s) s)) r ms'') →
        {r' : Result Ran Refusal} → r ≡ r' → RunIs (length s) 0 0 stop ms' (walk (top v) (0x3D3D ∷ passed [] g.t) stop (slice stop (length s) s)) r' ms''
    run-behind stop r ms'' f e = subst (λ z. RunIs (length s) 0 0 stop ms' (walk (top v) (0x3D3D ∷ passed [] g.t) stop (slice stop (length s) s)) z ms'') e (f (top v) (0x3D3D ∷ seen) refl context_behind)
