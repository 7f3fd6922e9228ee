-- Another value in the length field of one known chunk of an accepted file, as a turned bit makes one: what strict
-- reading answers.
use Rattle.std.specs.Prelude.{◌≡◌, ℕ, ◌+◌, ◌^◌, ◌<◌, List, get_or, set}
use Rattle.std.proofs.Math.Option.{some}
use Rattle.std.proofs.Math.ListN.{get_elem?}
use Rattle.studio_rules.specs.declared.Record.{Record}
use Rattle.shared_words.specs.declared.Refusal.{Refusal}
use Rattle.shared_words.specs.Bytes.{Bytes}
use Rattle.studio_rules.specs.Layout.{Run, figure, with_length}
use Rattle.shared_words.specs.Conditions.{accepted, refused}
use Rattle.studio_rules.specs.Walk.{verdict}
use Rattle.studio_rules.specs.Gives.{list, skipped, meshes, parts}
use Rattle.studio_rules.specs.Calls.{counts_of}

-- The file s is accepted with the layout `kids`; r is record number i of its list, so it speaks of any one known chunk;
-- n is another length than r's, which four bytes can hold.
pub record OtherLength (s : List ℕ) (kids : Run) (i : ℕ) (r : Record) (n : ℕ) : Type 0 where
  pub are_bytes : Bytes s
  pub reads : verdict s ≡ accepted kids
  pub in_list : get_elem? (list kids) i ≡ some r
  pub in_field : n < 2 ^ 32
  pub another : ¬ (n ≡ r.len)

-- a record with another length
abbrev pub resized : ℕ → Record → Record
resized n r = record { identifier = r.identifier; offset = r.offset; len = n; depth = r.depth; parent = r.parent; own = r.own; next = r.next }

-- All that a reader gets of the second layout it gets of the first, but that n is the length in record number i, which
-- is r: the same known chunks in the same order, the same counts of records and bytes, the same tables, names and parts.
pub record SameButLength (i : ℕ) (r : Record) (n : ℕ) (kids kids' : Run) : Type 0 where
  pub one-length : list kids' ≡ set (list kids) i (resized n r)
  pub counts_same : counts_of kids' ≡ counts_of kids
  pub meshes-same : meshes kids' ≡ meshes kids
  pub parts_same : parts kids' ≡ parts kids

-- ANY OTHER VALUE IN ONE LENGTH FIELD: the result is refused, or accepted with the same but for that length.
-- (It is accepted where whole unlisted chunks have changed their parent, and nothing else: specs/Exact.)
abbrev pub SameOrRefused : Type 0
SameOrRefused = (s : List ℕ) (kids : Run) (i : ℕ) (r : Record) (n : ℕ) → OtherLength s kids i r n →
    (kids' : Run) → verdict (with_length r.offset n s) ≡ accepted kids' → SameButLength i r n kids kids'

-- NO UNLISTED CHUNK IN THE FILE: the result is refused.
abbrev pub RefusedWithoutUnlisted : Type 0
RefusedWithoutUnlisted = (s : List ℕ) (kids : Run) (i : ℕ) (r : Record) (n : ℕ) → OtherLength s kids i r n →
    skipped (figure kids) ≡ 0 → (why : Refusal) × (verdict (with_length r.offset n s) ≡ refused why)

-- ONE BYTE of the field set to another value, so one turned bit too, is such a change.
abbrev pub ByteTurned : Type 0
ByteTurned = (s : List ℕ) (kids : Run) (i : ℕ) (r : Record) → Bytes s → verdict s ≡ accepted kids → get_elem? (list kids) i ≡ some r →
    (j b : ℕ) → j < 4 → b < 256 → ¬ (b ≡ get_or s (r.offset + 2 + j) 0) →
    (n : ℕ) × OtherLength s kids i r n × (set s (r.offset + 2 + j) b ≡ with_length r.offset n s)
