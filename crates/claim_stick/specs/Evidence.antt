-- What the tool owes the judge: the evidence for a file is made of its bytes.
use Rattle.std.specs.Prelude.{◌≡◌, true, ℕ, ◌^◌, ◌<◌}
use mathlib.Core.List.{List, flatten}
use Rattle.shared_words.specs.Bytes.{Bytes}
use Rattle.c_sums.specs.Numbers.{sum_by_parts}
use Rattle.stick_evidence.specs.Evidence.{answer_of}
use Rattle.stick_rules.specs.Items.{Item, is_file}

-- the sum is what tds_sum_add made of all its bytes, in whatever parts; and an answer that is no refusal is that of the reader which was
-- given them. (Nothing is asked of the size that the system told: the judge holds it against the sum.)
pub record EvidenceOf (s : List ℕ) (t : Item) : Type 0 where
  pub are_bytes : Bytes s
  pub parts : List (List ℕ)
  pub all-parts : flatten parts ≡ s
  pub sum_is : t.checksum ≡ sum_by_parts 0 parts
  pub answer-is : t.answer < 2 ^ 32 → t.answer ≡ answer_of t.reader s

-- of each file; what stands in place of the bytes of anything else does not matter
abbrev pub OfFile : (List ℕ → Item → Type 0) → List ℕ → Item → Type 0
OfFile R s t = is_file t ≡ true → R s t
