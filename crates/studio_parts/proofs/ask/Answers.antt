-- The check's answer, and then the parts that are counted.
use Rattle.shared_words.specs.declared.Refusal.{Refusal}
use Rattle.std.specs.Prelude.{Result, Ok}
use Rattle.std.proofs.lemmas.Result.{err_from_is_err_and}
use mathlib.Core.Path.{◌≡◌, sym, ap, ◌∙◌}
use mathlib.Core.List.{List}
use mathlib.Core.Logic.{inr}
use Prim.Native.Nat.{ℕ}
use native.Mathlib.Omega.{arith}
use Rattle.shared_words.specs.declared.Refusal.TheVariants.{NoRoom}
use Rattle.shared_words.proofs.Bytes.{bytes-all}
use Rattle.studio_rules.specs.Calls.{check_call}
use Rattle.studio_rules.specs.declared.Counts.{Counts}
use Rattle.studio_check.proofs.Accepted.{Accepted, accepted-by, meets-by}
use Rattle.studio_rules.specs.Gives.{parts}
use Rattle.studio_counted.proofs.All.{file-refused}
use Rattle.studio_parts.proofs.ask.Goals as goal

-- the file is accepted: its layout
layout : (s : List ℕ) {x : Result Counts Refusal} {counts : Counts} → x ≡ check_call s → x ≡ Ok counts → Accepted s counts
layout s e f = accepted-by s _ (sym e ∙ f)

pub find_parts-run-requires : goal.find_parts-run-requires
find_parts-run-requires c =
    let s = c.args.file.now in
    let a = layout s c.check.ensures c.in_ok-check.was in
    (a.kids, meets-by (bytes-all s (λ i. omega (arith, c.type_inv.file i))) a)

pub count_parts-count-requires : goal.count_parts-count-requires
count_parts-count-requires c =
    let s = c.args.file.now in
    let a = layout s c.check.ensures c.in_ok-check.was in
    (a.kids, c.find_parts-run.ensures a.kids (meets-by (bytes-all s (λ i. omega (arith, c.type_inv.file i))) a))

pub returns-then-room-count : goal.returns-then-room-count
returns-then-room-count c =
    let s = c.args.file.now in
    let a = layout s c.check.ensures c.in_ok-check.was in
    let q = c.find_parts-run.ensures a.kids (meets-by (bytes-all s (λ i. omega (arith, c.type_inv.file i))) a) in
    let n = c.count_parts-count.ensures a.kids q in
    inr (a.kids, a.verdict-is, omega (arith, n, c.if-room-count.true), ap NoRoom n)

pub returns-in_err-check : goal.returns-in_err-check
returns-in_err-check c =
    let p = err_from_is_err_and c.from_residual.result c.from_residual.ensures.1 in
    rw (p.1, p.2) (file-refused parts c.args.file.now c.args.room (sym c.check.ensures ∙ c.in_err-check.was))

pub returns : goal.returns
returns c =
    let s = c.args.file.now in
    let a = layout s c.check.ensures c.in_ok-check.was in
    let q = c.find_parts-run.ensures a.kids (meets-by (bytes-all s (λ i. omega (arith, c.type_inv.file i))) a) in
    let n = c.count_parts-count.ensures a.kids q in
    (a.kids, a.verdict-is, n, (q, omega (arith, n, c.if-room-count.false)))
