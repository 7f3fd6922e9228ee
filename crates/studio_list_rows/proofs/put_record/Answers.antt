-- Into each row that is in use; an empty one stays empty.
use mathlib.Core.Path.{◌≡◌, sym, ap, ◌∙◌}
use mathlib.Core.List.{List, [], ◌∷◌}
use Prim.Native.Nat.{ℕ, ◌*◌}
use native.Mathlib.Omega.{arith}
use lib.ListN.{length}
use lib.Seq.{sets, length-sets}
use Rattle.shared_words.specs.Bytes.{packed}
use Rattle.studio_rules.specs.Gives.{record_numbers, flat}
use Rattle.studio_list_rows.proofs.Rows.{sets-empty}
use Rattle.studio_list_rows.proofs.put_record.Goals as goal
use Rattle.studio_list_rows.proofs.put_record.Goals.{then-records-ne0, else-records-ne0}

empty-stays : (row : List ℕ) (i : ℕ) (xs : List ℕ) → length row ≡ 0 → row ≡ sets row i xs
empty-stays [] i xs e = sym (sets-empty i xs)
empty-stays (x ∷ row) i xs e = absurd (omega arith)

pub put_numbers-requires : goal.put_numbers-requires
put_numbers-requires c = let r = c.requires.1.numbers (omega arith) in omega arith

pub put_bytes-requires : goal.put_bytes-requires
put_bytes-requires c = let r = c.requires.1.bytes (omega arith) in omega arith

pub returns-then-bytes-ne0 : goal.returns-then-bytes-ne0
returns-then-bytes-ne0 c =
    let x = c.args in
    let b = c.put_bytes.ensures in
    elim c.if-records-ne0.branch [
      | then-records-ne0 w ↦ let n = w.records-is ∙ w.put_numbers.ensures in cc
      | else-records-ne0 w ↦ let n = w.records-is ∙ empty-stays x.records.now (record_numbers * x.next) (flat (x.r ∷ [])) w.if-records-ne0.false in cc
    ]

pub returns-else-bytes-ne0 : goal.returns-else-bytes-ne0
returns-else-bytes-ne0 c =
    let x = c.args in
    let b = empty-stays x.bytes.now (4 * record_numbers * x.next) (packed 4 (flat (x.r ∷ []))) c.if-bytes-ne0.false in
    elim c.if-records-ne0.branch [
      | then-records-ne0 w ↦ let n = w.records-is ∙ w.put_numbers.ensures in cc
      | else-records-ne0 w ↦ let n = w.records-is ∙ empty-stays x.records.now (record_numbers * x.next) (flat (x.r ∷ [])) w.if-records-ne0.false in cc
    ]
