-- Exactly when another length is accepted: whole unlisted chunks change their parent. The chunk takes in such chunks
-- that follow it, where its row ends in "+", or gives up such chunks at its end.
use Rattle.std.specs.Prelude.{◌≡◌, ◌↔◌, ◌⊎◌, ℕ, zero, suc, ◌+◌, ◌-◌, ◌<◌, true, cond, List, ltb}
use Rattle.studio_rules.specs.declared.Record.{Record}
use Rattle.studio_rules.specs.Table.{plus}
use Rattle.studio_rules.specs.Layout.{Run, end, skip, known, figure, size, ◌then◌, with_length}
use Rattle.shared_words.specs.Conditions.{accepted}
use Rattle.studio_rules.specs.Walk.{verdict}
use Rattle.studio_rules.specs.Gives.{record_count}
use Rattle.claim_turned.specs.Turned.{OtherLength}

-- a run from its known chunk number i on, as the list counts them: that chunk, and what follows it in the same parent
abbrev pub from : ℕ → Run → Run
from i end = end
from i (skip id body rest) = from i rest
from zero (known id own kids rest) = known id own kids rest
from (suc i) (known id own kids rest) = cond (ltb i (record_count kids)) (from i kids) (from (i - record_count kids) rest)

-- A chunk of length `len` that `rest` follows: the first chunks of the rest are unlisted, and end at the new end.
pub record TakesIn (id len n : ℕ) (rest : Run) : Type 0 where
  pub taken : Run
  pub left : Run
  pub first : rest ≡ taken then left
  pub none-known : record_count taken ≡ 0
  pub new-end : n ≡ len + size taken
  pub row-ends_in_plus : plus id ≡ true

-- A chunk of length `len` with the children `kids`: the last of them are unlisted, and begin at the new end. It is not
-- 4D4D, the first record: no chunk is around that one to hold them.
pub record GivesUp (i len n : ℕ) (kids : Run) : Type 0 where
  pub not_first : 0 < i
  pub kept : Run
  pub given : Run
  pub last : kids ≡ kept then given
  pub none-known : record_count given ≡ 0
  pub new-end : n + size given ≡ len

-- EXACTLY WHEN the result is accepted
abbrev pub Exact : Type 0
Exact = (s : List ℕ) (kids : Run) (i : ℕ) (r : Record) (n : ℕ) → OtherLength s kids i r n →
    (id : ℕ) (own : List ℕ) (inner rest : Run) → from i (figure kids) ≡ known id own inner rest →
    ((kids' : Run) × (verdict (with_length r.offset n s) ≡ accepted kids')) ↔ (TakesIn id r.len n rest ⊎ GivesUp i r.len n inner)
