-- What C is told of slips and of the sums in them.
use Rattle.std.specs.Prelude.{Result}
use mathlib.Core.Path.{refl}
use mathlib.Core.Option.{Option, none, some}
use mathlib.Core.Bool.{◌&&◌}
use mathlib.Core.List.{List}
use Prim.Native.Nat.{ℕ, ◌≤◌}
use native.Mathlib.Omega.{arith}
use lib.Dec.{eqb, leb, ltb}
use lib.ListN.{length}
use Rattle.shared_words.specs.declared.Refusal.{Refusal}
use Rattle.shared_words.specs.declared.Refusal.TheVariants.{TooLong, NoRoom, Differs}
use Rattle.shared_words.specs.Conditions.{broken, refused, accepted}
use Rattle.shared_words.specs.Effects.{Effect}
use Rattle.shared_words.specs.Encodings.{Encoding}
use Rattle.shared_words.proofs.Bools.{by_test}
use Rattle.slip_sums.specs.declared.Sum.{Sum}
use Rattle.slip_sums.specs.Passes.{sums_call, match_of}
use Rattle.slip_rules.specs.declared.Numbers.{Numbers}
use Rattle.slip_rules.specs.Slip.{bytes}
use Rattle.slip_rules.specs.Rules.{most_entries}
use Rattle.slip_rules.specs.Walk.{Entries, verdict}
use Rattle.slip_rules.specs.Calls.{read_of, slip_read_call, entries_from, write_conditions, write_of, slip_write_call}
use Rattle.c_codes.specs.Codes.{count_or}
use Rattle.c_sums.specs.Numbers.{sums_or, zero_or}
use Rattle.claim_numbers.specs.Slips.{SumsTold, MatchTold, EntriesTold, SizeTold, SlipsTold}
use Rattle.claim_numbers.proofs.Tells.{tells}
use Rattle.claim_numbers.proofs.Conditions.{Ends, AnswerTo}
use Rattle.claim_numbers.proofs.SlipPlaces.{Few, most, verdict_to, written_to}

-- ---- the sums, which are remainders modulo 255

sums_told : (file : List ℕ) → SumsTold (sums_call file) (sums_or (sums_call file))
sums_told file = by_test (λ (x : Result Sum Refusal). SumsTold x (sums_or x)) (ltb 1_048_576 (length file)) (tells TooLong (omega arith)) (omega arith)

match_told : (sum : Sum) (l first second : ℕ) → MatchTold (match_of sum l first second) (zero_or (match_of sum l first second))
match_told sum l first second =
    let T : Result Unit Refusal → Type 0 = λ x. MatchTold x (zero_or x) in
    by_test T (eqb sum.len l) (by_test T (eqb sum.first first && eqb sum.second second) refl (tells (Differs 1) (omega arith)))
    (tells (Differs 0) (omega arith))

-- ---- the slip

read_told : (e : Encoding Numbers ℕ) (row : List ℕ) (a : Entries) → AnswerTo most (Few most_entries) a → EntriesTold (read_of e row a).answer (count_or (read_of e row a).answer)
read_told e row (refused r) h = tells r (omega arith)
read_told e row (accepted es) h =
    let n = h.count in
    by_test (λ (x : Effect (Result ℕ Refusal) (List ℕ)). EntriesTold x.answer (count_or x.answer)) (leb (length es) (e.room (length row))) (omega arith)
    (tells (NoRoom (length es)) (omega arith))

write-told : (new out : List ℕ) (r : Option Refusal) → Ends most (length new ≤ most) r → SizeTold (write_of new out r).answer (count_or (write_of new out r).answer)
write-told new out none h = omega arith
write-told new out (some r) h = tells r (omega arith)

pub slips_told : SlipsTold
unfolding slip_read_call slip_write_call
slips_told = record {
  sums = sums_told;
  matches = match_told;
  read = λ e s row. read_told e row (verdict s) (verdict_to s);
  write = λ names given out.
      write-told (bytes (entries_from names given.rows)) out (broken (write_conditions names given (length out))) (written_to names given (length out));
}
