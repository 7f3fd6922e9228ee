-- What C is told of a stick, and of the evidence for a file.
use Rattle.shared_words.specs.declared.Refusal.{Refusal}
use Rattle.std.specs.Prelude.{Result, Ok, Err}
use mathlib.Core.Path.{refl}
use mathlib.Core.Logic.{inl, inr}
use mathlib.Core.List.{List}
use Prim.Native.Nat.{ℕ}
use native.Mathlib.Omega.{arith}
use lib.Dec.{eqb}
use lib.ListN.{length}
use Rattle.shared_words.specs.declared.Refusal.TheVariants.{NoRoom}
use Rattle.shared_words.proofs.Bools.{by_test}
use Rattle.stick_rules.specs.Records.{record_size, judge_call}
use Rattle.stick_evidence.specs.Evidence.{put_in_item, ending, file_numbers, numbers_of_more}
use Rattle.c_stick.specs.Codes.{one_or}
use Rattle.claim_numbers.specs.Sticks.{JudgedTold, EvidenceTold, SticksTold}
use Rattle.claim_numbers.proofs.Tells.{tells, capped}

judged-told : (j : Result Unit Refusal) → JudgedTold j (one_or j)
judged-told (Ok tt) = refl
judged-told (Err r) = capped r

item-told : (item item' : List ℕ) → EvidenceTold item (put_in_item item item')
item-told item item' =
    by_test (EvidenceTold item) (eqb (length item) record_size) (inl refl) (inr (tells (NoRoom record_size) (omega arith), refl))

pub sticks_told : SticksTold
sticks_told = record {
  judge = λ slip names items. judged-told (judge_call slip names items);
  file = λ path size s item. item-told item (ending item 16 (file_numbers path size s));
  more = λ part item. item-told item (ending item 32 (numbers_of_more part item));
}
