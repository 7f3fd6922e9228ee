-- The three numbers, one by one.
use mathlib.Core.Path.{ap, ◌∙◌}
use Rattle.stick_evidence.specs.Evidence.{ending}
use Rattle.stick_evidence.proofs.Calls.{other_length, right_length, more_numbers}
use Rattle.stick_evidence.proofs.more.Goals as goal

pub returns-then-item-ne56 : goal.returns-then-item-ne56
returns-then-item-ne56 c = let both = other_length c.args.item.now _ _ c.if-item-ne56.true c.refusal_code.ensures in record { answer = both.0; row = both.1 }

pub returns : goal.returns
returns c =
    let a = c.args in
    let n = more_numbers a.part.now a.item.now _ _ _ _ _ c.eight_at.ensures c.sum_add-checksum.ensures c.eight_at-reader.ensures c.eight_at-2.ensures c.more_answer-answer.ensures in
    let both = right_length a.item.now _ _ c.if-item-ne56.false (c.put_numbers.ensures ∙ ap (ending a.item.now 32) n) in
    record { answer = both.0; row = both.1 }
