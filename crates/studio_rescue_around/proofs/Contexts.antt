-- Where the code stands behind a run: what it has seen, and its marks.
use mathlib.Core.Path.{◌≡◌, refl, sym, ap, ◌∙◌, subst}
use Prim.Native.Nat.{ℕ, ◌+◌, ◌-◌, ◌≤◌}
use native.Mathlib.Omega.{arith}
use mathlib.Core.Bool.{Bool, true, cond}
use mathlib.Core.List.{List, [], ◌∷◌}
use lib.Dec.{leb}
use lib.ListN.{length}
use lib.Seq.{slice, length-slice}
use Rattle.shared_words.specs.declared.Refusal.{Refusal}
use Rattle.shared_words.specs.Bytes.{Bytes}
use Rattle.shared_words.specs.Conditions.{Answer, refused, accepted}
use Rattle.studio_rules.specs.Table.{rows, under}
use Rattle.studio_rules.specs.Layout.{Run, end, skip, known, size}
use Rattle.studio_rules.specs.Rules.{Parent, few, Obeys}
use Rattle.studio_rules.specs.Walk.{walk, top}
use Rattle.studio_rules.proofs.Rows.{scene-listed}
use Rattle.studio_rules.proofs.Sound.{length-bytes, Tells, walk-tells}
use Rattle.studio_row.specs.Packed.{row_of, slot_in, slot_of}
use Rattle.studio_marks.specs.Marks.{free, noted, no_marks, marks_after, RuleIs}
use Rattle.studio_marks.proofs.Noted.{noted-length}
use Rattle.studio_head.specs.Contexts.{Context}
use Rattle.studio_head.proofs.Places.{few-is}
use Rattle.studio_walk.specs.declared.Ran.{Ran}
use Rattle.studio_walk.specs.Runs.{RunIs, ran_to}
use Rattle.studio_walk.proofs.Contexts.{context_next}
use Rattle.studio_walk.proofs.Chunks.{clash}
use Rattle.studio_walk.proofs.Parts.{bytes-slice}
use Rattle.studio_check.proofs.Files.{figure-row, top_context}
use Rattle.studio_scene.specs.Passed.{passed}
use Rattle.std.specs.Prelude.{Result, Err}

-- ---- what a run came to

pub run-refused : (a : Answer Run) (stop o : ℕ) (y : Refusal) (ms ms' : List ℕ) → RunIs stop 0 0 o ms a (Err y) ms' → a ≡ refused y
run-refused (refused x) stop o y ms ms' h = cc
run-refused (accepted t) stop o y ms ms' h = let q = h.0 in absurd (clash (cc))

pub record Read (p : Parent) (seen : List ℕ) (s : List ℕ) (o stop : ℕ) (ms ms' : List ℕ) : Type 0 where
  pub t : Run
  pub is : walk p seen o (slice o stop s) ≡ accepted t
  pub obeys : Obeys p seen t
  pub size_is : size t ≡ stop - o
  pub marked : ms' ≡ marks_after o t ms

pub run-read : (p : Parent) (seen s : List ℕ) (o stop : ℕ) (ms ms' : List ℕ) → Bytes s → stop ≤ length s → (next n k : ℕ) → RunIs stop 0 0 o ms (walk p seen o (slice o stop s)) (ran_to next n k) ms' → Read p seen s o stop ms ms'
run-read p seen s o stop ms ms' b l next n k h = go (walk p seen o (slice o stop s)) refl h (walk-tells p seen o (slice o stop s) (bytes-slice s o stop b))
  where
    go : (a : Answer Run) → walk p seen o (slice o stop s) ≡ a → RunIs stop 0 0 o ms a (ran_to next n k) ms' → Tells p seen (slice o stop s) a → Read p seen s o stop ms ms'
    go (refused x) e h w = absurd (clash (cc))
    go (accepted t) e h w = record { t = t; is = e; obeys = w.obeys; size_is = sym (length-bytes t) ∙ ap length w.is ∙ length-slice o stop s l; marked = h.1 }

-- of the children of 4D4D
pub top_read : (s : List ℕ) (v stop : ℕ) (r : Result Ran Refusal) (ms : List ℕ) →
    ((p : Parent) (seen : List ℕ) → RuleIs p (leb 3 v) → Context p seen 0x00_1_0_5_0004_1 0 no_marks → RunIs stop 0 0 6 no_marks (walk p seen 6 (slice 6 stop s)) r ms) →
    {r' : Result Ran Refusal} → r ≡ r' → RunIs stop 0 0 6 no_marks (walk (top v) [] 6 (slice 6 stop s)) r' ms
top_read s v stop r ms h e = subst (λ z. RunIs stop 0 0 6 no_marks (walk (top v) [] 6 (slice 6 stop s)) z ms) e (h (top v) [] refl (top_context v _ figure-row))

-- ---- the context behind it

pub context_after : (p : Parent) (seen : List ℕ) (row word : ℕ) (ms : List ℕ) → Context p seen row word ms → length ms ≡ 6 → (o : ℕ) → 1 ≤ o → (t : Run) → Obeys p seen t →
    Context p (passed seen t) row word (marks_after o t ms)
context_after p seen row word ms c six o l end h = c
context_after p seen row word ms c six o l (skip id body rest) h = context_after p seen row word ms c six (o + (6 + length body)) (omega arith) rest h.1
context_after p seen row word ms c six o l (known id own kids rest) h =
    context_after p (id ∷ seen) row word (noted (slot_of id) o ms) (context_next p seen row word ms c six id h.0.in_place h.0.not_twice_lem o l) (noted-length (slot_of id) o ms ∙ six)
    (o + (6 + length own + size kids)) (omega arith) rest h.3

-- ---- 3D3D is noted

scene-placed : under 0x4D4D 0x3D3D ≡ true
unfolding under rows
scene-placed = refl

module _ (v : ℕ) (seen : List ℕ) (row word : ℕ) (ms : List ℕ) (c : Context (top v) seen row word ms) (six : length ms ≡ 6) (f : few 0x4D4D (0x3D3D ∷ seen) ≡ true) (at row' : ℕ) (e : row' ≡ row_of 0x3D3D) where
  pub noted-scene : (b : Bool) → b ≡ free (slot_in row') ms → (ms' : List ℕ) → ms' ≡ cond b (noted (slot_in row') at ms) ms → ms' ≡ noted (slot_of 0x3D3D) at ms
  noted-scene b h ms' k =
      let z : b ≡ true = h ∙ few-is (top v) seen row word ms c 0x3D3D row' e scene-listed scene-placed ∙ f in
      k ∙ rw (z, e)

  pub context_scene : 1 ≤ at → Context (top v) (0x3D3D ∷ seen) row word (noted (slot_of 0x3D3D) at ms)
  context_scene l = context_next (top v) seen row word ms c six 0x3D3D scene-placed f at l
