-- A run, one chunk after the other: what the rest of the run comes to is what the whole comes to.
use mathlib.Core.Path.{◌≡◌, refl, sym, ap, ◌∙◌, subst}
use mathlib.Core.List.{List, [], ◌∷◌}
use Prim.Native.Nat.{ℕ, suc, ◌+◌, ◌≤◌, ◌<◌}
use native.Mathlib.Omega.{arith}
use lib.ListN.{length, take, drop_of_length-le, length-take}
use lib.Seq.{slice}
use Rattle.shared_words.specs.declared.Refusal.{Refusal}
use Rattle.shared_words.specs.Bytes.{Bytes}
use Rattle.studio_rules.specs.Layout.{Run, size}
use Rattle.studio_rules.specs.Rules.{Parent, inside}
use Rattle.studio_rules.specs.Gives.{record_count, skipped}
use Rattle.shared_words.specs.Conditions.{Answer, refused, accepted}
use Rattle.studio_rules.specs.Walk.{Step, stop, pass, enter, ended, with_skip, with_known, step, taken, walk}
use Rattle.studio_rules.proofs.Sound.{length-bytes, Closes, ended_closes, walk-tells}
use Rattle.studio_rules.proofs.Steps.{Says, step-says}
use Rattle.studio_rules.proofs.Fuel.{walk_nil}
use Rattle.studio_row.specs.Packed.{slot_of}
use Rattle.studio_walk.specs.declared.Ran.{Ran}
use Rattle.studio_marks.specs.Marks.{noted}
use Rattle.studio_head.specs.Contexts.{Context}
use Rattle.studio_walk.specs.Runs.{ClosedIs, ChunkIs, RunIs, ran_to}
use Rattle.studio_walk.proofs.Contexts.{context_next}
use Rattle.studio_walk.proofs.Parts.{bytes-slice, PartsAt, step-parts, walk-part}
use Rattle.studio_walk.proofs.Chunks.{clash, ran-same}
use Rattle.std.specs.Prelude.{Result, Err}

module _ (end records skips at : ℕ) (ms : List ℕ) (r : Result Ran Refusal) (ms' : List ℕ) where
  -- a chunk that is skipped, and the rest
  pub skip-on : (id : ℕ) (body : List ℕ) (a : Answer Run) → RunIs end (records + 0) (skips + (6 + length body)) (at + (6 + length body)) ms a r ms' → RunIs end records skips at ms (with_skip id body a) r ms'
  skip-on id body (refused x) h = h
  skip-on id body (accepted t) h =
      let n : records + 0 + record_count t ≡ records + record_count t = omega arith in
      let k : skips + (6 + length body) + skipped t ≡ skips + (6 + length body + skipped t) = omega arith in
      (h.0 ∙ ap (λ (j : ℕ). ran_to end j (skips + (6 + length body) + skipped t)) n ∙ ap (ran_to end (records + record_count t)) k, h.1)

  -- a known chunk, and the rest
  known_on : (id : ℕ) (own kids : List ℕ) (t : Run) → size t ≡ length kids → (a : Answer Run) →
      RunIs end (records + (record_count t + 1)) (skips + skipped t) (at + (6 + length own + length kids)) (noted (slot_of id) at ms) a r ms' →
      RunIs end records skips at ms (with_known id own (accepted t) a) r ms'
  known_on id own kids t z (refused x) h = h
  known_on id own kids t z (accepted u) h =
      let n : records + (record_count t + 1) + record_count u ≡ records + suc (record_count t + record_count u) = omega arith in
      let k : skips + skipped t + skipped u ≡ skips + (skipped t + skipped u) = omega arith in
      (h.0 ∙ ap (λ (j : ℕ). ran_to end j (skips + skipped t + skipped u)) n ∙ ap (ran_to end (records + suc (record_count t + record_count u))) k, rw z h.1)

module _ (p : Parent) (seen : List ℕ) (s : List ℕ) (at end : ℕ) (ms : List ℕ) where
  -- a chunk that is refused ends the run
  run-stops : (records skips : ℕ) (ms' : List ℕ) (x : Step) (y : Refusal) (ms₁ : List ℕ) → ChunkIs p seen at x (Err y) ms ms₁ → RunIs end records skips at ms (taken walk p seen at x) (Err y) ms'
  run-stops records skips ms' (stop z) y ms₁ h = h
  run-stops records skips ms' (pass id body rest) y ms₁ h = let q = h.0 in absurd (clash (cc))
  run-stops records skips ms' (enter id own kids rest) y ms₁ h = go (ended (inside p seen id own) at (walk (inside p seen id own) [] (at + (6 + length own)) kids)) h.0
    where
      go : (a : Answer Run) → ClosedIs (at + (6 + length own + length kids)) a (Err y) → RunIs end records skips at ms (with_known id own a (walk p (id ∷ seen) (at + (6 + length own + length kids)) rest)) (Err y) ms'
      go (refused z) h = h
      go (accepted t) h = absurd (clash (cc))

  -- where the run goes on: the children seen, and what the rest tells of the whole
  pub record GoesOn (row word : ℕ) (whole : Answer Run) (next n k : ℕ) (ms₁ : List ℕ) : Type 0 where
    pub seen' : List ℕ
    pub context : Context p seen' row word ms₁
    pub tells : (records skips : ℕ) (r : Result Ran Refusal) (ms' : List ℕ) → RunIs end (records + n) (skips + k) next ms₁ (walk p seen' next (slice next end s)) r ms' → RunIs end records skips at ms whole r ms'

  run-goes-on : (row word : ℕ) → Context p seen row word ms → length ms ≡ 6 → 1 ≤ at → (x : Step) → Says p seen (slice at end s) x → PartsAt s at end x → (next n k : ℕ) (ms₁ : List ℕ) →
      ChunkIs p seen at x (ran_to next n k) ms ms₁ → GoesOn row word (taken walk p seen at x) next n k ms₁
  run-goes-on row word c six o (stop z) g f next n k ms₁ h = absurd (clash (cc))
  run-goes-on row word c six o (pass id body rest) g f next n k ms₁ h =
      let q = h.0 in
      let (next-is, n-is, k-is) = ran-same q in
      record {
        seen' = seen;
        context = rw h.1 c;
        tells = λ records skips r ms' t.
            skip-on end records skips at ms r ms' id body (walk p seen (at + (6 + length body)) rest)
            (rw f.rest-is (subst (λ (m : List ℕ). RunIs end (records + 0) (skips + (6 + length body)) (at + (6 + length body)) m (walk p seen (at + (6 + length body)) (slice (at + (6 + length body)) end s)) r ms') h.1
            (rw (n-is, k-is, next-is) at t)));
      }
  run-goes-on row word c six o (enter id own kids rest) g f next n k ms₁ h = go (ended (inside p seen id own) at (walk (inside p seen id own) [] (at + (6 + length own)) kids)) h.0
      (ended_closes (inside p seen id own) at kids (walk (inside p seen id own) [] (at + (6 + length own)) kids) (walk-tells (inside p seen id own) [] (at + (6 + length own)) kids g.kids_bytes))
    where
      go : (a : Answer Run) → ClosedIs (at + (6 + length own + length kids)) a (ran_to next n k) → Closes (inside p seen id own) kids a →
          GoesOn row word (with_known id own a (walk p (id ∷ seen) (at + (6 + length own + length kids)) rest)) next n k ms₁
      go (refused z) q v = absurd (clash (cc))
      go (accepted t) q v =
          let (next-is, n-is, k-is) = ran-same q in
          record {
            seen' = id ∷ seen;
            context = rw h.1 (context_next p seen row word ms c six id g.lawful.in_place g.lawful.not_twice_lem at o);
            tells = λ records skips r ms' w.
                known_on end records skips at ms r ms' id own kids t (sym (length-bytes t) ∙ ap length v.is) (walk p (id ∷ seen) (at + (6 + length own + length kids)) rest)
                (rw f.rest-is (subst (λ (m : List ℕ). RunIs end (records + (record_count t + 1)) (skips + skipped t) (at + (6 + length own + length kids)) m (walk p (id ∷ seen) (at + (6 + length own + length kids)) (slice (at + (6 + length own + length kids)) end s)) r ms') h.1
                (rw (n-is, k-is, next-is) at w)));
          }

-- the same of the walk of a part that is not empty, by its first step
module _ (p : Parent) (seen s : List ℕ) (at end : ℕ) (ms : List ℕ) (o : at < end) (l : end ≤ length s) where
  pub begun : (records skips : ℕ) (r : Result Ran Refusal) (ms' : List ℕ) → RunIs end records skips at ms (taken walk p seen at (step p seen at (slice at end s))) r ms' → RunIs end records skips at ms (walk p seen at (slice at end s)) r ms'
  begun records skips r ms' h = subst (λ (a : Answer Run). RunIs end records skips at ms a r ms') (sym (walk-part s at end o l p seen)) h

  pub stops-here : (records skips : ℕ) (y : Refusal) (ms₁ : List ℕ) → ChunkIs p seen at (step p seen at (slice at end s)) (Err y) ms ms₁ → RunIs end records skips at ms (walk p seen at (slice at end s)) (Err y) ms₁
  stops-here records skips y ms₁ h = begun records skips (Err y) ms₁ (run-stops p seen s at end ms records skips ms₁ (step p seen at (slice at end s)) y ms₁ h)

  pub goes_on : (row word : ℕ) → Context p seen row word ms → length ms ≡ 6 → 1 ≤ at → Bytes s → (next n k : ℕ) (ms₁ : List ℕ) → ChunkIs p seen at (step p seen at (slice at end s)) (ran_to next n k) ms ms₁ →
      GoesOn p seen s at end ms row word (walk p seen at (slice at end s)) next n k ms₁
  goes_on row word c six z b next n k ms₁ h =
      let says = step-says p seen at (slice at end s) (bytes-slice s at end b) in
      let g = run-goes-on p seen s at end ms row word c six z (step p seen at (slice at end s)) says (step-parts s at end o l p seen b) next n k ms₁ h in
      record { seen' = g.seen'; context = g.context; tells = λ records skips r ms' t. begun records skips r ms' (g.tells records skips r ms' t) }

-- the end of a run
pub run_ends : (p : Parent) (seen s : List ℕ) (at end records skips : ℕ) (ms : List ℕ) → end ≤ at → RunIs end records skips at ms (walk p seen at (slice at end s)) (ran_to end records skips) ms
run_ends p seen s at end records skips ms h =
    let e : slice at end s ≡ [] = drop_of_length-le (take end s) {i = at} (omega (arith, length-take end s)) in
    let n : records + 0 ≡ records = omega arith in
    let k : skips + 0 ≡ skips = omega arith in
    rw (e, walk_nil p seen at) (ap (λ (j : ℕ). ran_to end j skips) (sym n) ∙ ap (ran_to end (records + 0)) (sym k), refl)
