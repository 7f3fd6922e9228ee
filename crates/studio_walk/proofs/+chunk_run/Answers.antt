-- Chunk and run meet their contracts together. A chunk follows what was found at its start (Chunks, Entering); a run goes on
-- from chunk to chunk (Runs, Loop, Passing).
use mathlib.Core.Path.{refl, subst}
use mathlib.Core.List.{List, []}
use Prim.Native.Nat.{ℕ, ◌+◌, ◌-◌, ◌*◌, ◌≤◌, ◌<◌}
use native.Mathlib.Omega.{arith}
use lib.Seq.{slice}
use Rattle.shared_words.proofs.Bytes.{bytes-all}
use Rattle.studio_rules.specs.Rules.{Parent, inside}
use Rattle.studio_rules.specs.Walk.{step}
use Rattle.studio_rules.proofs.Steps.{step-says}
use Rattle.studio_marks.specs.Marks.{no_marks}
use Rattle.studio_walk.specs.declared.Ran.{Ran}
use Rattle.studio_head.specs.Contexts.{Room, Context}
use Rattle.studio_walk.specs.Runs.{ClosesWith, ChunkWithin, ran_to}
use Rattle.studio_walk.proofs.Parts.{bytes-slice}
use Rattle.studio_walk.proofs.Chunks.{chunk-fault, chunk-skip, chunk-leaf}
use Rattle.studio_walk.proofs.Entering.{opened, ent, inner_context, children, no-children, enter-refused, enter-placed, enter-closed}
use Rattle.studio_walk.proofs.Runs.{stops-here, run_ends}
use Rattle.studio_walk.proofs.Passing.{sofar_stepped, sofar_passed}
use Rattle.std.proofs.lemmas.Result.{err_from_is_err_and}
use Rattle.studio_head.specs.declared.Head.{Head}
use Rattle.studio_head.specs.Heads.{HeadIs, HeadWithin}
use Rattle.studio_walk.proofs.+chunk_run.Goals as goal
use Rattle.std.specs.Prelude.{Result, Ok, Err}
use Rattle.shared_words.specs.declared.Refusal.{Refusal}

-- ---- a chunk

-- what is left of the bytes, where a chunk was closed
closed-within : (at end past n k : ℕ) (r : Result Ran Refusal) → ClosesWith past n k r → at < past → past ≤ end → 6 * (n + 1) + k ≤ past - at → ChunkWithin at end r
closed-within at end past n k (Err x) h o l m = tt
closed-within at end past n k (Ok r) h o l m = (omega (arith, h.0), omega (arith, h.0), omega (arith, h.0, h.1, h.2))

pub chunk-look-requires : goal.chunk-look-requires
chunk-look-requires t c = let x = c.requires in (x.0, x.2, x.4)

pub chunk-overflow_sub-result : goal.chunk-overflow_sub-result
chunk-overflow_sub-result t c = let v = subst (λ (h : Head). HeadWithin c.args.at c.args.end (Ok h)) c.in-Skip.is c.in_ok-head.ensures.within in omega arith

pub chunk-close-requires : goal.chunk-close-requires
chunk-close-requires t c =
    let x = c.args in
    let b = bytes-all x.file.now (λ i. omega (arith, c.type_inv.file i)) in
    let g = c.in-Enter in
    let v = subst (λ (h : Head). HeadWithin x.at x.end (Ok h)) g.is c.in_ok-head.ensures.within in
    let o = λ (q : Parent) (seen : List ℕ) (k : Context q seen x.parent x.count x.marks.now).
    opened x.file.now x.at x.end x.count q seen x.marks.now c.look.new.marks _ _ _ _ _ c.requires.0 c.requires.2 b
    (subst (λ (h : Head). HeadIs q seen x.at (step q seen x.at (slice x.at x.end x.file.now)) (Ok h)) g.is (c.in_ok-head.ensures.is q seen k)) (c.look.ensures.marks q seen k) v in
    let p = c.requires.3 in
    let e = o p.0 p.1 p.3 in
    (refl, enter-placed e (no-children e (omega (arith, c.if-from-stop.true))), omega arith)

pub chunk-returns-then-from-stop : goal.chunk-returns-then-from-stop
chunk-returns-then-from-stop t c =
    let x = c.args in
    let b = bytes-all x.file.now (λ i. omega (arith, c.type_inv.file i)) in
    let g = c.in-Enter in
    let v = subst (λ (h : Head). HeadWithin x.at x.end (Ok h)) g.is c.in_ok-head.ensures.within in
    let o = λ (q : Parent) (seen : List ℕ) (k : Context q seen x.parent x.count x.marks.now).
    opened x.file.now x.at x.end x.count q seen x.marks.now c.look.new.marks _ _ _ _ _ c.requires.0 c.requires.2 b
    (subst (λ (h : Head). HeadIs q seen x.at (step q seen x.at (slice x.at x.end x.file.now)) (Ok h)) g.is (c.in_ok-head.ensures.is q seen k)) (c.look.ensures.marks q seen k) v in
    let r = c.close in
    record {
      is = λ q seen rule k. let e = o q seen k in enter-closed e (no-children e (omega (arith, c.if-from-stop.true))) rule r.result r.ensures.is;
      six = c.look.ensures.six;
      within = closed-within _ _ _ 0 0 r.result r.ensures.counts (omega arith) (omega arith) (omega arith);
    }

pub chunk-run-requires : goal.chunk-run-requires
chunk-run-requires t c =
    let x = c.args in
    let b = bytes-all x.file.now (λ i. omega (arith, c.type_inv.file i)) in
    let g = c.in-Enter in
    let v = subst (λ (h : Head). HeadWithin x.at x.end (Ok h)) g.is c.in_ok-head.ensures.within in
    let o = λ (q : Parent) (seen : List ℕ) (k : Context q seen x.parent x.count x.marks.now).
    opened x.file.now x.at x.end x.count q seen x.marks.now c.look.new.marks _ _ _ _ _ c.requires.0 c.requires.2 b
    (subst (λ (h : Head). HeadIs q seen x.at (step q seen x.at (slice x.at x.end x.file.now)) (Ok h)) g.is (c.in_ok-head.ensures.is q seen k)) (c.look.ensures.marks q seen k) v in
    let p = c.requires.3 in
    let e = o p.0 p.1 p.3 in
    let r = c.requires.2 in
    let room : Room c.in-Enter.stop c.in-Enter.word x.file.now no_marks = record { ends = omega (arith, r.ends, v.2); short = r.short; word = (inner_context e).bound-is.small; six = refl } in
    (omega (arith, v.0, v.1, v.2, c.decreases), (v.1, omega (arith, v.0), room, (inside p.0 p.1 c.in-Enter.id (ent e).own, [], p.2, inner_context e), c.requires.4))

pub chunk-close-requires-in-Enter : goal.chunk-close-requires-in-Enter
chunk-close-requires-in-Enter t c =
    let x = c.args in
    let b = bytes-all x.file.now (λ i. omega (arith, c.type_inv.file i)) in
    let g = c.in-Enter in
    let v = subst (λ (h : Head). HeadWithin x.at x.end (Ok h)) g.is c.in_ok-head.ensures.within in
    let o = λ (q : Parent) (seen : List ℕ) (k : Context q seen x.parent x.count x.marks.now).
    opened x.file.now x.at x.end x.count q seen x.marks.now c.look.new.marks _ _ _ _ _ c.requires.0 c.requires.2 b
    (subst (λ (h : Head). HeadIs q seen x.at (step q seen x.at (slice x.at x.end x.file.now)) (Ok h)) g.is (c.in_ok-head.ensures.is q seen k)) (c.look.ensures.marks q seen k) v in
    let p = c.requires.3 in
    let e = o p.0 p.1 p.3 in
    let z = c.in_ok-kids-in-Enter.ensures.within in
    (c.run.ensures.six, enter-placed e (children e p.2 c.run.ensures.is c.in_ok-kids-in-Enter.was), omega (arith, c.requires.2.short, c.requires.2.ends))

pub chunk-returns-in_err-head : goal.chunk-returns-in_err-head
chunk-returns-in_err-head t c =
    let x = c.args in
    let e = err_from_is_err_and c.from_residual.result c.from_residual.ensures.1 in
    rw (e.1, e.2)
    record {
      is = λ q seen rule k. chunk-fault q seen x.at x.marks.now c.look.new.marks (step q seen x.at (slice x.at x.end x.file.now)) _ (c.in_err-head.ensures.is q seen k);
      six = c.look.ensures.six;
      within = tt;
    }

pub chunk-returns-in-Skip : goal.chunk-returns-in-Skip
chunk-returns-in-Skip t c =
    let x = c.args in
    let g = c.in-Skip in
    let v = subst (λ (h : Head). HeadWithin x.at x.end (Ok h)) g.is c.in_ok-head.ensures.within in
    record {
      is = λ q seen rule k. chunk-skip q seen x.at x.marks.now c.look.new.marks (step q seen x.at (slice x.at x.end x.file.now)) g.stop (subst (λ (h : Head). HeadIs q seen x.at (step q seen x.at (slice x.at x.end x.file.now)) (Ok h)) g.is (c.in_ok-head.ensures.is q seen k)) (c.look.ensures.marks q seen k);
      six = c.look.ensures.six;
      within = (omega arith, v.1, omega arith);
    }

pub chunk-returns-in-Leaf : goal.chunk-returns-in-Leaf
chunk-returns-in-Leaf t c =
    let x = c.args in
    let b = bytes-all x.file.now (λ i. omega (arith, c.type_inv.file i)) in
    let body = slice x.at x.end x.file.now in
    let g = c.in-Leaf in
    let v = subst (λ (h : Head). HeadWithin x.at x.end (Ok h)) g.is c.in_ok-head.ensures.within in
    record {
      is = λ q seen rule k.
          chunk-leaf q seen body x.at x.marks.now c.look.new.marks (step q seen x.at body) (step-says q seen x.at body (bytes-slice x.file.now x.at x.end b))
          g.stop (subst (λ (h : Head). HeadIs q seen x.at (step q seen x.at (slice x.at x.end x.file.now)) (Ok h)) g.is (c.in_ok-head.ensures.is q seen k)) (c.look.ensures.marks q seen k);
      six = c.look.ensures.six;
      within = (omega arith, v.1, omega arith);
    }

pub chunk-returns-in_err-kids-in-Enter : goal.chunk-returns-in_err-kids-in-Enter
chunk-returns-in_err-kids-in-Enter t c =
    let x = c.args in
    let b = bytes-all x.file.now (λ i. omega (arith, c.type_inv.file i)) in
    let g = c.in-Enter in
    let v = subst (λ (h : Head). HeadWithin x.at x.end (Ok h)) g.is c.in_ok-head.ensures.within in
    let o = λ (q : Parent) (seen : List ℕ) (k : Context q seen x.parent x.count x.marks.now).
    opened x.file.now x.at x.end x.count q seen x.marks.now c.look.new.marks _ _ _ _ _ c.requires.0 c.requires.2 b
    (subst (λ (h : Head). HeadIs q seen x.at (step q seen x.at (slice x.at x.end x.file.now)) (Ok h)) g.is (c.in_ok-head.ensures.is q seen k)) (c.look.ensures.marks q seen k) v in
    let y = err_from_is_err_and c.from_residual-in_err-kids-in-Enter.result c.from_residual-in_err-kids-in-Enter.ensures.1 in
    rw (y.1, y.2)
    record {
      is = λ q seen rule k. let e = o q seen k in enter-refused e (children e rule c.run.ensures.is c.in_err-kids-in-Enter.was);
      six = c.look.ensures.six;
      within = tt;
    }

pub chunk-returns-in_ok-kids-in-Enter : goal.chunk-returns-in_ok-kids-in-Enter
chunk-returns-in_ok-kids-in-Enter t c =
    let x = c.args in
    let b = bytes-all x.file.now (λ i. omega (arith, c.type_inv.file i)) in
    let g = c.in-Enter in
    let v = subst (λ (h : Head). HeadWithin x.at x.end (Ok h)) g.is c.in_ok-head.ensures.within in
    let o = λ (q : Parent) (seen : List ℕ) (k : Context q seen x.parent x.count x.marks.now).
    opened x.file.now x.at x.end x.count q seen x.marks.now c.look.new.marks _ _ _ _ _ c.requires.0 c.requires.2 b
    (subst (λ (h : Head). HeadIs q seen x.at (step q seen x.at (slice x.at x.end x.file.now)) (Ok h)) g.is (c.in_ok-head.ensures.is q seen k)) (c.look.ensures.marks q seen k) v in
    let z = c.in_ok-kids-in-Enter.ensures.within in
    let r = c.close-in-Enter in
    record {
      is = λ q seen rule k. let e = o q seen k in enter-closed e (children e rule c.run.ensures.is c.in_ok-kids-in-Enter.was) rule r.result r.ensures.is;
      six = c.look.ensures.six;
      within = closed-within _ _ _ _ _ r.result r.ensures.counts (omega arith) (omega arith) (omega arith);
    }

-- ---- a run

pub run-loop-p-init : goal.run-loop-p-init
run-loop-p-init t c =
    record {
      past = omega arith;
      before = c.requires.0;
      six = c.requires.2.six;
      within = omega arith;
      somewhere = c.requires.3;
      later = λ q seen rule k. record { seen' = seen; context = k; tells = λ r ms' h. h };
    }

pub run-chunk-requires : goal.run-chunk-requires
run-chunk-requires t c =
    let i = c.loop-p.invariant in
    let o = c.loop-p-test.true in
    let r = c.requires.2 in
    (omega (arith, i.past, o, c.decreases), (o, omega (arith, i.past, c.requires.1), record { ends = r.ends; short = r.short; word = r.word; six = i.six }, i.somewhere, c.requires.4))

pub run-returns-in_err-met : goal.run-returns-in_err-met
run-returns-in_err-met t c =
    let x = c.args in
    let i = c.loop-p in
    let ms = c.chunk.new.marks in
    let y = err_from_is_err_and c.from_residual.result c.from_residual.ensures.1 in
    rw (y.1, y.2)
    record {
      is = λ q seen rule k.
          let j = i.invariant.later q seen rule k in
          j.tells _ ms
          (stops-here q j.seen' x.file.now i.p x.end i.marks c.loop-p-test.true c.requires.2.ends i.records i.skipped _ ms (c.in_err-met.ensures.is q j.seen' rule j.context));
      six = c.chunk.ensures.six;
      within = tt;
    }

pub run-overflow_add-records : goal.run-overflow_add-records
run-overflow_add-records t c = let f = c.in_ok-met.ensures.within in omega (arith, c.requires.2.ends, c.requires.2.short)

pub run-overflow_add-skipped : goal.run-overflow_add-skipped
run-overflow_add-skipped t c = let f = c.in_ok-met.ensures.within in omega (arith, c.requires.2.ends, c.requires.2.short)

pub run-pass_over-p-requires : goal.run-pass_over-p-requires
run-pass_over-p-requires t c = (c.in_ok-met.ensures.within.1, c.requires.2.ends, c.requires.4)

pub run-overflow_sub-skipped : goal.run-overflow_sub-skipped
run-overflow_sub-skipped t c = c.pass_over-p.ensures.within.0

pub run-overflow_add-skipped-then-met-eq0 : goal.run-overflow_add-skipped-then-met-eq0
run-overflow_add-skipped-then-met-eq0 t c =
    let f = c.in_ok-met.ensures.within in
    let g = c.pass_over-p.ensures.within in
    omega (arith, c.requires.2.ends, c.requires.2.short)

pub run-loop-p-smaller-then-met-eq0 : goal.run-loop-p-smaller-then-met-eq0
run-loop-p-smaller-then-met-eq0 t c =
    let f = c.in_ok-met.ensures.within in
    let g = c.pass_over-p.ensures.within in
    omega arith

pub run-loop-p-preserved-then-met-eq0 : goal.run-loop-p-preserved-then-met-eq0
run-loop-p-preserved-then-met-eq0 t c =
    let b = bytes-all c.args.file.now (λ i. omega (arith, c.type_inv.file i)) in
    let f = c.in_ok-met.ensures in
    let g = c.pass_over-p.ensures in
    sofar_passed b c.requires.2.ends g.within.0 g.within.1 g.is (sofar_stepped _ _ _ b c.requires.2.ends c.requires.1 c.loop-p-test.true c.loop-p.invariant c.chunk.ensures.six f.within f.is)

pub run-loop-p-smaller : goal.run-loop-p-smaller
run-loop-p-smaller t c = let f = c.in_ok-met.ensures.within in omega arith

pub run-loop-p-preserved : goal.run-loop-p-preserved
run-loop-p-preserved t c =
    let b = bytes-all c.args.file.now (λ i. omega (arith, c.type_inv.file i)) in
    let f = c.in_ok-met.ensures in
    sofar_stepped _ _ _ b c.requires.2.ends c.requires.1 c.loop-p-test.true c.loop-p.invariant c.chunk.ensures.six f.within f.is

pub run-returns : goal.run-returns
run-returns t c =
    let x = c.args in
    let i = c.loop-p in
    record {
      is = λ q seen rule k.
          let j = i.invariant.later q seen rule k in
          j.tells (ran_to x.end i.records i.skipped) i.marks (run_ends q j.seen' x.file.now i.p x.end i.records i.skipped i.marks c.loop-p-test.false);
      six = i.invariant.six;
      within = omega (arith, i.invariant.within, i.invariant.before, i.invariant.past, c.loop-p-test.false);
    }
