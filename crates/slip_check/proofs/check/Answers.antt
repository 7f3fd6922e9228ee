-- The parts of the verdict, one after another.
use Rattle.std.specs.Prelude.{Result}
use Rattle.std.proofs.lemmas.Result.{err_from_is_err_and}
use mathlib.Core.Path.{◌≡◌, sym, ap, ◌∙◌}
use Prim.Native.Nat.{ℕ, ◌≤◌}
use native.Mathlib.Omega.{arith}
use lib.ListN.{length-replicate}
use Rattle.std.proofs.lemmas.Result.{IfOk-weaker}
use Rattle.shared_words.specs.declared.Refusal.{Refusal}
use Rattle.shared_name_tree.proofs.Row.{holds-none}
use Rattle.slip_rules.specs.Rules.{most_entries}
use Rattle.slip_check.specs.Entries.{Whole, walked_as}
use Rattle.slip_check.proofs.Head.{verdict_off, verdict-bad, verdict-good, head_few}
use Rattle.slip_check.proofs.check.Goals as goal

pub returns-then-not-is_headed : goal.returns-then-not-is_headed
returns-then-not-is_headed c = record { is = verdict_off c.args.s.now (sym c.is_headed.ensures.0 ∙ c.if-not-is_headed.true); whole = tt; few = tt }

pub walk_entries-requires : goal.walk_entries-requires
walk_entries-requires c =
    let h = c.is_headed.ensures in
    let e = c.if-not-is_headed.false in
    let s = c.args.s.now in
    let f = head_few s (sym h.0 ∙ e) in
    let n : c.word_at-count.result ≤ 1000 = omega (arith, c.word_at-count.ensures.is) in
    (h.1 e, n, holds-none s 4000, omega (arith, length-replicate {A = ℕ} 4000 0))

pub returns-in_err-walk_entries : goal.returns-in_err-walk_entries
returns-in_err-walk_entries c =
    let s = c.args.s.now in
    let n = c.word_at-count.result in
    let h = sym c.is_headed.ensures.0 ∙ c.if-not-is_headed.false in
    let p = err_from_is_err_and c.from_residual.result c.from_residual.ensures.1 in
    let w = c.walk_entries.ensures.is ∙ ap (λ (r : Result Unit Refusal). walked_as r s n) c.in_err-walk_entries.was in
    rw (p.1, p.2) record { is = verdict-bad s n h c.word_at-count.ensures.is _ w; whole = tt; few = tt }

pub returns : goal.returns
returns c =
    let s = c.args.s.now in
    let n = c.word_at-count.result in
    let h = sym c.is_headed.ensures.0 ∙ c.if-not-is_headed.false in
    let q = c.word_at-count.ensures.is in
    let f = head_few s h in
    let w = c.walk_entries.ensures.is ∙ ap (λ (r : Result Unit Refusal). walked_as r s n) c.in_ok-walk_entries.was in
    let labels = c.judge_labels.ensures in
    record {
      is = verdict-good s n h q w ∙ labels.is;
      whole = IfOk-weaker c.judge_labels.result (λ k. k ≡ n) (λ k. Whole k s 7) (λ k e. rw e c.in_ok-walk_entries.ensures.whole) labels.count;
      few = IfOk-weaker c.judge_labels.result (λ k. k ≡ n) (λ k. k ≤ most_entries) (λ k e. omega arith) labels.count;
    }
