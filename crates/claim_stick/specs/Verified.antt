-- WHAT A PASS IS WORTH: where the judge finds nothing wrong, and the evidence was gathered as it should be, the bytes given to the sum and
-- the reader are those of the slip, as far as length and sums tell, and every figure meets the rules of its format.
use Rattle.std.specs.Prelude.{◌≡◌, List, ℕ}
use Rattle.std.proofs.Math.Option.{some}
use Rattle.shared_words.specs.Bytes.{Bytes}
use Rattle.shared_words.specs.Lists.{All, Pairwise}
use Rattle.studio_rules.specs.Layout.{Run}
use Rattle.studio_rules.specs.Rules.{Meets as MeetsStudio}
use Rattle.cob_rules.specs.Layout.{Layout as CobLayout}
use Rattle.cob_rules.specs.Rules.{Meets as MeetsCob}
use Rattle.c4d_rules.specs.Layout.{Layout as C4dLayout}
use Rattle.c4d_rules.specs.Rules.{Meets as MeetsC4d}
use Rattle.slip_sums.specs.declared.Sum.{Sum}
use Rattle.slip_sums.specs.Fletcher.{sum_of}
use Rattle.slip_rules.specs.Slip.{Entry}
use Rattle.slip_rules.specs.Rules.{Meets}
use Rattle.stick_rules.specs.Names.{format_of}
use Rattle.stick_rules.specs.Items.{Item}
use Rattle.stick_rules.specs.Judge.{manifest, entry_of}
use Rattle.stick_rules.specs.Records.{items_in, judge_call}
use Rattle.stick_rules.specs.Theorems.{MatchedOnce, AllMet}
use Rattle.c_stick.specs.Codes.{one_or}
use Rattle.claim_stick.specs.Evidence.{EvidenceOf, OfFile}

-- the rules of a format, by its number
pub record InFormat (format : ℕ) (s : List ℕ) : Type 0 where
  pub studio : format ≡ 1 → (kids : Run) × MeetsStudio s kids
  pub cob : format ≡ 2 → (l : CobLayout) × MeetsCob s l
  pub c4d : format ≡ 3 → (l : C4dLayout) × MeetsC4d s l

-- what an entry says of a file, with its length
abbrev pub entry_sum : Entry → Sum
entry_sum e = record { len = e.file; first = e.first; second = e.second }

-- a file of which these bytes were given to the sum and the reader: it has an entry, these are its length and sums, and it meets the rules
-- of the format that it is named as
pub record VerifiedFile (es : List Entry) (s : List ℕ) (t : Item) : Type 0 where
  pub entry : Entry
  pub its_own : entry_of es t.path ≡ some entry
  pub same : sum_of s ≡ entry_sum entry
  pub in_format : InFormat (format_of t.path) s

-- the stick of a slip, with all its items and what bytes of them were given to the sum and the reader
pub record Verified (slip : List ℕ) (ts : List Item) (contents : List (List ℕ)) : Type 0 where
  pub entries : List Entry
  pub is-slip : Meets slip entries
  pub every-file : Pairwise (OfFile (VerifiedFile (manifest slip entries))) contents ts
  pub every-entry : All (MatchedOnce ts) (manifest slip entries)
  pub nothing-more : AllMet ts

-- C is told of a pass by the number 1
abbrev pub PassIsVerified : Type 0
PassIsVerified = (slip names items : List ℕ) (contents : List (List ℕ)) → Bytes slip → Pairwise (OfFile EvidenceOf) contents (items_in names items) →
    one_or (judge_call slip names items) ≡ 1 → Verified slip (items_in names items) contents
