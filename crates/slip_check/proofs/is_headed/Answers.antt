-- Each test of the code is one of the conditions.
use mathlib.Core.Path.{sym, ap, ◌∙◌}
use Prim.Native.Nat.{ℕ}
use mathlib.Core.Bool.{false≢true}
use native.Mathlib.Omega.{arith}
use lib.Dec.{leb}
use Rattle.slip_rules.specs.Rules.{most_entries}
use Rattle.slip_check.proofs.Head.{head_short, head_version, head_length, head_count}
use Rattle.slip_check.proofs.is_headed.Goals as goal

pub returns-then-s-lt7 : goal.returns-then-s-lt7
returns-then-s-lt7 c = (sym (head_short c.args.s.now (omega arith)), λ e. absurd (false≢true e))

pub returns-then-byte_at-ne1 : goal.returns-then-byte_at-ne1
returns-then-byte_at-ne1 c = (sym (head_version c.args.s.now (λ e. c.if-byte_at-ne1.true (omega (arith, e)))), λ e. absurd (false≢true e))

pub returns-then-long_at-s : goal.returns-then-long_at-s
returns-then-long_at-s c = (sym (head_length c.args.s.now (λ e. c.if-long_at-s.true (omega (arith, e)))), λ e. absurd (false≢true e))

pub returns : goal.returns
returns c =
    let s = c.args.s.now in
    (ap (λ (k : ℕ). leb k most_entries) c.word_at.ensures.is ∙ sym (head_count s (omega arith) (omega arith) (omega arith)), λ e. omega arith)
