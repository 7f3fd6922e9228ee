-- What the calls alone promise: tds_stick_file and tds_stick_more make the evidence, tds_stick_judge tells C of a pass.
use Rattle.std.specs.Prelude.{◌≡◌, true, ℕ, ◌*◌, ◌<◌, length, take, drop, get_or}
use mathlib.Core.List.{List, [], ◌∷◌, ◌++◌, flatten}
use Rattle.std.proofs.Math.Option.{some}
use Rattle.shared_words.specs.Bytes.{Bytes}
use Rattle.slip_sums.specs.Fletcher.{sum_of}
use Rattle.slip_rules.specs.Slip.{Entry}
use Rattle.slip_rules.specs.Rules.{Meets}
use Rattle.stick_rules.specs.Items.{is_file}
use Rattle.stick_rules.specs.Judge.{manifest, entry_of}
use Rattle.stick_rules.specs.Records.{record_size, item_no, item_count, items_in, judge_call}
use Rattle.stick_evidence.specs.Evidence.{file_call, more_call}
use Rattle.c_stick.specs.Codes.{one_or}
use Rattle.claim_sums.specs.Damage.{turn}
use Rattle.claim_stick.specs.Evidence.{EvidenceOf}
use Rattle.claim_stick.specs.Verified.{entry_sum, Verified}

-- the record of a file after tds_stick_more with each of these parts
abbrev pub grown : List ℕ → List (List ℕ) → List ℕ
grown item [] = item
grown item (part ∷ parts) = grown (more_call part item).rows parts

-- after tds_stick_file with its first part, and these
abbrev pub gathered : List ℕ → ℕ → List ℕ → List (List ℕ) → List ℕ → List ℕ
gathered path size first parts item = grown (file_call path size first item).rows parts

-- WHATEVER STOOD IN THE RECORD, and whatever the system told of the size, the item that is handed over in it has evidence of all the bytes
-- that the calls were given.
abbrev pub CallsGather : Type 0
CallsGather = (names items path : List ℕ) (size : ℕ) (first : List ℕ) (parts : List (List ℕ)) (item : List ℕ) (i : ℕ) → length item ≡ record_size →
    take record_size (drop (record_size * i) items) ≡ gathered path size first parts item → Bytes (first ++ flatten parts) →
    EvidenceOf (first ++ flatten parts) (item_no names items i)

-- ---- a pass, of the three calls

-- the i-th record is what the calls left, and they were given these bytes, in whatever parts
pub record GatheredOf (items : List ℕ) (i : ℕ) (s : List ℕ) : Type 0 where
  pub are_bytes : Bytes s
  pub path : List ℕ
  pub size : ℕ
  pub first : List ℕ
  pub parts : List (List ℕ)
  pub all-parts : first ++ flatten parts ≡ s
  pub lent : List ℕ
  pub room : length lent ≡ record_size
  pub left : take record_size (drop (record_size * i) items) ≡ gathered path size first parts lent

-- so is the record of each file, of the bytes that stand for it in `contents`
pub record ByCalls (names items : List ℕ) (contents : List (List ℕ)) : Type 0 where
  pub one_each : length contents ≡ item_count items
  pub every-file : (i : ℕ) → i < item_count items → is_file (item_no names items i) ≡ true → GatheredOf items i (get_or contents i [])

-- WHERE C IS TOLD 1, the bytes that the calls were given are those of the slip, as far as length and sums tell, every figure meets the
-- rules of its format, nothing is missing and nothing is more.
abbrev pub PassOfCalls : Type 0
PassOfCalls = (slip names items : List ℕ) (contents : List (List ℕ)) → Bytes slip → ByCalls names items contents →
    one_or (judge_call slip names items) ≡ 1 → Verified slip (items_in names items) contents

-- ONE TURNED BIT: where the entry of a file was made of the bytes s, and the calls were given s with one bit turned, C is not told 1.
abbrev pub TurnedBitNeverPasses : Type 0
TurnedBitNeverPasses = (slip names items : List ℕ) (contents : List (List ℕ)) → Bytes slip → ByCalls names items contents →
    (es : List Entry) → Meets slip es → (i : ℕ) → i < item_count items → is_file (item_no names items i) ≡ true →
    (e : Entry) → entry_of (manifest slip es) (item_no names items i).path ≡ some e → (s : List ℕ) → sum_of s ≡ entry_sum e →
    (at k : ℕ) → at < length s → k < 8 → get_or contents i [] ≡ turn at k s → ¬ (one_or (judge_call slip names items) ≡ 1)
