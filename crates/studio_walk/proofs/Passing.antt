-- Chunks that are passed over one after another: the run goes on behind them, and nothing but the skipped bytes has changed.
use mathlib.Core.Path.{◌≡◌, sym, subst}
use mathlib.Core.Bool.{Bool}
use mathlib.Core.List.{List}
use Prim.Native.Nat.{ℕ, ◌+◌, ◌-◌, ◌≤◌, ◌<◌}
use native.Mathlib.Omega.{arith}
use lib.ListN.{length}
use lib.Seq.{slice}
use Rattle.shared_words.specs.Bytes.{Bytes}
use Rattle.studio_rules.specs.Rules.{Parent}
use Rattle.studio_rules.specs.Walk.{Step, pass, step, taken, walk}
use Rattle.studio_head.specs.Passes.{Passes, none_yet, one_more}
use Rattle.studio_walk.specs.declared.Ran.{Ran}
use Rattle.studio_marks.specs.Marks.{RuleIs}
use Rattle.studio_head.specs.Contexts.{Context}
use Rattle.studio_walk.specs.Runs.{ChunkIs, ChunkWithin, RunIs, ran_to}
use Rattle.studio_walk.proofs.Parts.{PartsAt, step-parts}
use Rattle.studio_walk.proofs.Runs.{begun, skip-on, GoesOn, goes_on}
use Rattle.studio_walk.proofs.Loop.{Sofar}
use Rattle.std.specs.Prelude.{Result}
use Rattle.shared_words.specs.declared.Refusal.{Refusal}

passes-past : (p : Parent) (seen s : List ℕ) (at end o : ℕ) → Passes p seen s at end o → at ≤ o
passes-past p seen s at end o none_yet = omega arith
passes-past p seen s at end o (one_more o' id body rest h l e) = omega (arith, passes-past p seen s at end o' h)

module _ (p : Parent) (seen s : List ℕ) (end records : ℕ) (ms : List ℕ) (b : Bytes s) (l : end ≤ length s) (r : Result Ran Refusal) (ms' : List ℕ) where
  one-skipped : (o skips id : ℕ) (body rest : List ℕ) → o < end → step p seen o (slice o end s) ≡ pass id body rest →
      RunIs end records (skips + (6 + length body)) (o + (6 + length body)) ms (walk p seen (o + (6 + length body)) (slice (o + (6 + length body)) end s)) r ms' →
      RunIs end records skips o ms (walk p seen o (slice o end s)) r ms'
  one-skipped o skips id body rest h e t =
      let f = subst (PartsAt s o end) e (step-parts s o end h l p seen b) in
      let n : records + 0 ≡ records = omega arith in
      begun p seen s o end ms h l records skips r ms'
      (subst (λ (x : Step). RunIs end records skips o ms (taken walk p seen o x) r ms') (sym e)
      (skip-on end records skips o ms r ms' id body (walk p seen (o + (6 + length body)) rest) (rw (f.rest-is, n) t)))

  pub passed_over : (at o skips : ℕ) → Passes p seen s at end o → RunIs end records (skips + (o - at)) o ms (walk p seen o (slice o end s)) r ms' → RunIs end records skips at ms (walk p seen at (slice at end s)) r ms'
  passed_over at o skips none_yet t = let n : skips + (at - at) ≡ skips = omega arith in rw n at t
  passed_over at o skips (one_more o' id body rest h less e) t =
      let n : skips + (o' + (6 + length body) - at) ≡ skips + (o' - at) + (6 + length body) = omega (arith, passes-past p seen s at end o' h) in
      passed_over at o' skips h (one-skipped o' (skips + (o' - at)) id body rest less e (rw n at t))

-- the run goes on behind a chunk that was done
pub sofar_stepped : {s : List ℕ} {row word : ℕ} {as_many : Bool} {at end : ℕ} {ms₀ ms ms' : List ℕ} {p records skips : ℕ} (next n k : ℕ) → Bytes s → end ≤ length s → 1 ≤ at → p < end →
    Sofar s row word as_many at end ms₀ ms p records skips → length ms' ≡ 6 → ChunkWithin p end (ran_to next n k) →
    ((q : Parent) (seen : List ℕ) → RuleIs q as_many → Context q seen row word ms → ChunkIs q seen p (step q seen p (slice p end s)) (ran_to next n k) ms ms') →
    Sofar s row word as_many at end ms₀ ms' next (records + n) (skips + k)
sofar_stepped {s} {row} {word} {as_many} {at} {end} {ms₀} {ms} {ms'} {p} {records} {skips} next n k b l o h i six f came =
    let y = i.somewhere in
    let z = went_on y.0 y.1 y.2 y.3 in
    record {
      past = omega (arith, i.past, f.0);
      before = f.1;
      six = six;
      within = omega (arith, i.within, i.past, f.0, f.2);
      somewhere = (y.0, z.seen', y.2, z.context);
      later = λ q seen rule c.
          let j = i.later q seen rule c in
          let d = went_on q j.seen' rule j.context in
          record { seen' = d.seen'; context = d.context; tells = λ r ms'' t. j.tells r ms'' (d.tells records skips r ms'' t) };
    }
  where
    went_on : (q : Parent) (seen : List ℕ) → RuleIs q as_many → Context q seen row word ms → GoesOn q seen s p end ms row word (walk q seen p (slice p end s)) next n k ms'
    went_on q seen rule c = goes_on q seen s p end ms h l row word c i.six (omega (arith, i.past, o)) b next n k ms' (came q seen rule c)

-- so the run has come as far as they end
pub sofar_passed : {s : List ℕ} {row word : ℕ} {as_many : Bool} {at end : ℕ} {ms₀ ms : List ℕ} {p records skips o : ℕ} → Bytes s → end ≤ length s → p ≤ o → o ≤ end → ((q : Parent) (seen : List ℕ) → Passes q seen s p end o) →
    Sofar s row word as_many at end ms₀ ms p records skips → Sofar s row word as_many at end ms₀ ms o records (skips + (o - p))
sofar_passed {s} {row} {word} {as_many} {at} {end} {ms₀} {ms} {p} {records} {skips} {o} b l h k f i =
    record {
      past = omega (arith, i.past);
      before = k;
      six = i.six;
      within = omega (arith, i.within, i.past);
      somewhere = i.somewhere;
      later = λ q seen rule c.
          let j = i.later q seen rule c in
          record { seen' = j.seen'; context = j.context; tells = λ r ms' t. j.tells r ms' (passed_over q j.seen' s end records ms b l r ms' p o skips (f q j.seen') t) };
    }
