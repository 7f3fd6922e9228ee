-- How C hands items over: all paths in one row of bytes, and a record of seven numbers an item, little-endian, eight bytes each.
use Rattle.shared_words.specs.declared.Refusal.{Refusal}
use Rattle.std.specs.Prelude.{Bool, cond, List, [], ◌∷◌, ℕ, zero, suc, ◌+◌, ◌*◌, ◌/◌, ◌%◌, eqb, leb, length, take, drop, Result, Err}
use Rattle.shared_words.specs.Bytes.{value}
use Rattle.shared_words.specs.Conditions.{refused, accepted}
use Rattle.slip_rules.specs.Walk.{Entries, verdict}
use Rattle.shared_words.specs.declared.Refusal.TheVariants.{Unchecked}
use Rattle.stick_rules.specs.declared.ItemRecord.{ItemRecord}
use Rattle.stick_rules.specs.Items.{Item}
use Rattle.stick_rules.specs.Judge.{manifest, judgement}

-- the number of eight bytes at an offset
unfoldable pub eight_at : List ℕ → ℕ → ℕ
eight_at s at = value (take 8 (drop at s))

abbrev pub record_size : ℕ
record_size = 56

abbrev pub record_at : List ℕ → ℕ → ItemRecord
record_at s at = record {
  name = eight_at s at;
  len = eight_at s (at + 8);
  kind = eight_at s (at + 16);
  size = eight_at s (at + 24);
  checksum = eight_at s (at + 32);
  reader = eight_at s (at + 40);
  answer = eight_at s (at + 48);
}

-- its path stands among the names whole
abbrev pub has_name : List ℕ → ItemRecord → Bool
has_name names r = leb (r.name + r.len) (length names)

-- As it is seen. An item is known by its path: where that does not stand among the names, nothing is known of it, and it is of kind 0,
-- neither a file nor a folder, which is refused as unchecked.
abbrev pub seen : List ℕ → ItemRecord → ItemRecord
seen names r = record {
  name = r.name;
  len = r.len;
  kind = cond (has_name names r) r.kind 0;
  size = r.size;
  checksum = r.checksum;
  reader = r.reader;
  answer = r.answer;
}

abbrev pub path_of : List ℕ → ItemRecord → List ℕ
path_of names r = take r.len (drop r.name names)

abbrev pub item_of : List ℕ → ItemRecord → Item
item_of names r = record { path = path_of names r; kind = r.kind; size = r.size; checksum = r.checksum; reader = r.reader; answer = r.answer }

-- the record and the item of number i, and k items from it on
abbrev pub record_no : List ℕ → List ℕ → ℕ → ItemRecord
record_no names s i = seen names (record_at s (record_size * i))

abbrev pub item_no : List ℕ → List ℕ → ℕ → Item
item_no names s i = item_of names (record_no names s i)

unfoldable pub items_from : ℕ → List ℕ → List ℕ → ℕ → List Item
items_from zero names s i = []
items_from (suc k) names s i = item_no names s i ∷ items_from k names s (suc i)

-- how many are handed over; a part of one behind them was not looked at
abbrev pub item_count : List ℕ → ℕ
item_count s = length s / record_size

abbrev pub items_in : List ℕ → List ℕ → List Item
items_in names s = items_from (item_count s) names s 0

-- ---- the call

abbrev pub judge_records : List ℕ → Entries → List ℕ → List ℕ → Result Unit Refusal
judge_records slip (refused r) names s = Err (r)
judge_records slip (accepted es) names s =
    cond (eqb (length s % record_size) 0) (judgement (manifest slip es) (items_in names s)) (Err (Unchecked (item_count s)))

-- THE ANSWER to a slip, and the items of its stick
unfoldable pub judge_call : List ℕ → List ℕ → List ℕ → Result Unit Refusal
judge_call slip names s = judge_records slip (verdict slip) names s
