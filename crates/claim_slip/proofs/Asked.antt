-- An entry from its making to its comparison. The reader's row holds the numbers of the slip's entries, which written again with the slip
-- itself as the names are the same slip: so they stand for the entries that were written.
use Rattle.shared_words.specs.declared.Refusal.{Refusal}
use Rattle.std.specs.Prelude.{Result, Ok, Err}
use mathlib.Core.Path.{◌≡◌, refl, sym, ap, subst, ◌∙◌}
use mathlib.Core.Bool.{Bool, true, false, cond}
use mathlib.Core.List.{List, [], ◌∷◌, ◌++◌}
use mathlib.Core.Option.{some}
use Prim.Native.Nat.{ℕ, zero, suc, ◌+◌, ◌*◌, ◌/◌, ◌%◌, ◌≤◌, ◌<◌, ◌^◌}
use native.Mathlib.Omega.{arith}
use lib.Dec.{leb, ltb}
use lib.ListN.{length, take, drop, get_elem?}
use lib.Seq.{take_at}
use borrow.Author.Tests.{leb-true, ltb-false}
use Rattle.shared_words.specs.declared.Refusal.TheVariants.{TooLong}
use Rattle.shared_words.specs.Bytes.{le, be, packed, Bytes}
use Rattle.shared_words.specs.Conditions.{accepted}
use Rattle.shared_words.specs.Effects.{Effect}
use Rattle.shared_words.specs.Lists.{All}
use Rattle.shared_words.proofs.Bools.{and_parts}
use Rattle.shared_words.proofs.Bytes.{value-le, bytes_le, bytes_append, bytes_take, bytes_drop}
use Rattle.slip_sums.specs.declared.Sum.{Sum}
use Rattle.slip_sums.specs.Fletcher.{sum_of}
use Rattle.slip_sums.specs.Passes.{match_of}
use Rattle.slip_rules.specs.declared.Numbers.{Numbers}
use Rattle.slip_rules.specs.Slip.{Entry, sum_bytes, behind_name, entry_bytes, all_bytes, rest, bytes}
use Rattle.slip_rules.specs.Rules.{remember, AllLawful, Meets}
use Rattle.slip_rules.specs.Walk.{behind, verdict}
use Rattle.slip_rules.specs.Calls.{all_numbers, flat, byte_row, entry_from, entries_from, Given, whole, rows_in, given_bytes, slip_read_call}
use Rattle.slip_rules.proofs.Verdict.{accepted_exactly, verdict-good}
use Rattle.slip_rules.proofs.Given.{Small, given_back, all_small}
use Rattle.slip_rules.proofs.Again.{reads-back, writes_back}
use Rattle.c_sums.specs.Numbers.{sums_or}
use Rattle.c_sums.proofs.Numbers.{matches_by_parts}
use Rattle.claim_sums.specs.Damage.{turn}
use Rattle.claim_sums.proofs.Passes.{one-bit-never-passes}
use Rattle.claim_slip.specs.Exact.{Writable}
use Rattle.claim_slip.specs.Asked.{slip_in, OnSlip, EntryReadBack, MadeOf, AskedAsMade, BitFound, OneBitAway}
use Rattle.claim_slip.proofs.Exact.{slips_exactly}

-- ---- rows and entries by their number

entry_at : (names : List ℕ) (ns : List Numbers) (k : ℕ) (n : Numbers) → get_elem? ns k ≡ some n → get_elem? (entries_from names ns) k ≡ some (entry_from names n)
entry_at names [] k n h = let z : ◌≡◌ {A = ℕ} 0 1 = cc in absurd (omega arith)
entry_at names (m ∷ ns) zero n h = let e : m ≡ n = cc in ap (λ (x : Numbers). some (entry_from names x)) e
entry_at names (m ∷ ns) (suc k) n h = entry_at names ns k n h

-- rows as bytes, with more behind them
rows-front : (ns : List Numbers) (more : List ℕ) → All Small (flat ns) → rows_in (length ns) (packed 4 (flat ns) ++ more) ≡ ns
rows-front [] more h = refl
rows-front (n ∷ ns) more h =
    let t = rows-front ns more h.1.1.1.1 in
    rw (value-le 4 n.name h.0, value-le 4 n.len h.1.0, value-le 4 n.file h.1.1.0, value-le 4 n.sums h.1.1.1.0, t)

bytes_packed : (w : ℕ) (ns : List ℕ) → Bytes (packed w ns)
bytes_packed w [] = tt
bytes_packed w (n ∷ ns) = bytes_append (le w n) (packed w ns) (bytes_le w n) (bytes_packed w ns)

all-counted : (o : ℕ) (es : List Entry) → length (all_numbers o es) ≡ length es
all-counted o [] = refl
all-counted o (e ∷ es) = ap suc (all-counted (behind o e) es)

-- ---- the slip's own entries, by its numbers

own_entries : (s : List ℕ) → Bytes s → (es : List Entry) → verdict s ≡ accepted es → entries_from s (all_numbers 7 es) ≡ es
own_entries s b es v =
    let ns : List Numbers = all_numbers 7 es in
    let m = (accepted_exactly s b es).0 v in
    let f = m.few in
    let g : given_bytes (packed 4 (flat ns)) ≡ whole ns = given_back ns (all_small es [] 7 m.lawful (omega arith)) in
    let w = writes_back s b es v s (omega arith) in
    let r = reads-back s (packed 4 (flat ns)) s (bytes_packed 4 (flat ns)) (length s) (ap (λ (x : Effect (Result ℕ Refusal) (List ℕ)). x.answer) w) in
    let back : verdict (take (length s) (s ++ drop (length s) s)) ≡ accepted (entries_from s (given_bytes (packed 4 (flat ns))).rows) =
    subst (λ (x : Effect (Result ℕ Refusal) (List ℕ)). verdict (take (length s) x.rows) ≡ accepted (entries_from s (given_bytes (packed 4 (flat ns))).rows)) w r in
    let front : take (length s) (s ++ drop (length s) s) ≡ s = take_at s (drop (length s) s) (length s) refl in
    let there : verdict s ≡ accepted (entries_from s (whole ns).rows) = ap verdict (sym front) ∙ back ∙ ap (λ (x : Given). accepted (entries_from s x.rows)) g in
    let same : accepted (entries_from s ns) ≡ accepted es = sym there ∙ v in
    cc

-- ---- a slip that is written is bytes

be_4 : (n : ℕ) → Bytes (be 4 n)
be_4 n = (omega arith, (omega arith, (omega arith, (omega arith, tt))))

be_2 : (n : ℕ) → Bytes (be 2 n)
be_2 n = (omega arith, (omega arith, tt))

entries-bytes : (names : List ℕ) (ns : List Numbers) (seen : List (List ℕ)) → Bytes names → AllLawful seen (entries_from names ns) → Bytes (all_bytes (entries_from names ns))
entries-bytes names [] seen b h = tt
entries-bytes names (n ∷ ns) seen b h =
    let e : Entry = entry_from names n in
    let i = and_parts (leb 1 (length e.name)) (leb (length e.name) 255) h.0.is-named in
    let l = leb-true (length e.name) 255 i.1 in
    let p = and_parts (leb e.first 254) (leb e.second 254) h.0.sums_proper_lem in
    let f = leb-true e.first 254 p.0 in
    let g = leb-true e.second 254 p.1 in
    let sums : Bytes (sum_bytes e) = (omega arith, (omega arith, tt)) in
    let own : Bytes (e.name ++ behind_name e) =
    bytes_append e.name (behind_name e) (bytes_take n.len (drop n.name names) (bytes_drop n.name names b)) (bytes_append (be 4 e.file) (sum_bytes e) (be_4 e.file) sums) in
    bytes_append (entry_bytes e) (all_bytes (entries_from names ns)) (omega arith, own) (entries-bytes names ns (remember seen e) b h.1)

slip-bytes : (names : List ℕ) (ns : List Numbers) → Bytes names → AllLawful [] (entries_from names ns) → Bytes (bytes (entries_from names ns))
slip-bytes names ns b h =
    let es : List Entry = entries_from names ns in (
      omega arith,
      bytes_append (be 4 (length (rest es))) (rest es) (be_4 (length (rest es)))
          (bytes_append (be 2 (length es)) (all_bytes es) (be_2 (length es)) (entries-bytes names ns [] b h)),
    )

-- ---- two digits, the lower below the base

low : (a b : ℕ) → a < 256 → (a + 256 * b) % 256 ≡ a
low a b h = omega arith

high : (a b : ℕ) → a < 256 → (a + 256 * b) / 256 ≡ b
high a b h = omega arith

-- ---- what was written is read

module _ (names entries out row : List ℕ) (bn : Bytes names) (be' : Bytes entries) (k : ℕ) (given found : Numbers) (w : OnSlip names entries out row k given found) where
  abbrev g : Given
  g = given_bytes entries

  abbrev es : List Entry
  es = entries_from names g.rows

  abbrev slip : List ℕ
  slip = slip_in names entries out w.size

  can : Writable names g (length out)
  can = ((slips_exactly.write names entries out be' w.size).0 w.written).0

  slip-is : slip ≡ bytes es
  slip-is =
      ap (λ (x : Effect (Result ℕ Refusal) (List ℕ)). take w.size x.rows) (slips_exactly.laid-down names entries out can) ∙
      take_at (bytes es) (drop (length (bytes es)) out) w.size (sym ((slips_exactly.write names entries out be' w.size).0 w.written).1)

  slip-read : verdict slip ≡ accepted es
  slip-read = reads-back names entries out be' w.size w.written

  is-bytes : Bytes slip
  is-bytes = subst Bytes (sym slip-is) (slip-bytes names g.rows bn can.meets.lawful)

  slip-meets : Meets slip es
  slip-meets = (accepted_exactly slip is-bytes es).0 slip-read

  -- as many entries, for which there is room
  many : (w.count ≡ length es) × (w.count ≤ byte_row.room (length row))
  many =
      let r = (slips_exactly.read byte_row slip is-bytes row w.count).0 w.read in
      let v = verdict-good slip r.0 r.1 in
      let q = slip-read in
      let e : r.0 ≡ es = cc in
      (r.2 ∙ ap length e, r.3)

  -- the row holds their numbers
  row-holds : rows_in w.count (slip_read_call byte_row slip row).rows ≡ all_numbers 7 es
  row-holds =
      let ns : List Numbers = all_numbers 7 es in
      let f = slip-meets.few in
      let m = many.0 in
      let c : w.count ≡ length ns = many.0 ∙ sym (all-counted 7 es) in
      let r = slips_exactly.given byte_row slip es slip-meets row (omega (arith, many.1)) in
      ap (λ (x : ℕ). rows_in x (slip_read_call byte_row slip row).rows) c ∙
      ap (λ (x : Effect (Result ℕ Refusal) (List ℕ)). rows_in (length ns) x.rows) r ∙
      rows-front ns (drop (length (packed 4 (flat ns))) row) (all_small es [] 7 slip-meets.lawful (omega arith))

  entry-same : entry_from slip found ≡ entry_from names given
  entry-same =
      let ns : List Numbers = all_numbers 7 es in
      let there : get_elem? ns k ≡ some found = ap (λ (x : List Numbers). get_elem? x k) (sym row-holds) ∙ w.found-there in
      let a : get_elem? es k ≡ some (entry_from slip found) = ap (λ (x : List Entry). get_elem? x k) (sym (own_entries slip is-bytes es slip-read)) ∙ entry_at slip ns k found there in
      let b : get_elem? es k ≡ some (entry_from names given) = entry_at names g.rows k given w.given-there in
      let same : some (entry_from slip found) ≡ some (entry_from names given) = sym a ∙ b in
      cc

  -- ---- asked of the entry

  module _ (original : List ℕ) (m : MadeOf original given) where
    length-same : found.file ≡ (sum_of original).len
    length-same = ap (λ (x : Entry). x.file) entry-same ∙ m.length-is

    sums_are : given.sums ≡ (sum_of original).first + 256 * (sum_of original).second
    sums_are = m.sums_are ∙ made (ltb 1_048_576 (length original)) m.made
      where
        made : (t : Bool) → cond t (Err TooLong) (Ok (sum_of original)) ≡ Ok m.sums →
            sums_or (cond t (Err TooLong) (Ok (sum_of original))) ≡ (sum_of original).first + 256 * (sum_of original).second
        made true h = let z : ◌≡◌ {A = ℕ} 0 1 = cc in absurd (omega arith)
        made false h = refl

    first-same : found.sums % 256 ≡ (sum_of original).first
    first-same = ap (λ (x : Entry). x.first) entry-same ∙ ap (λ n. n % 256) sums_are ∙ low (sum_of original).first (sum_of original).second (omega arith)

    second-same : found.sums / 256 ≡ (sum_of original).second
    second-same = ap (λ (x : Entry). x.second) entry-same ∙ ap (λ n. n / 256) sums_are ∙ high (sum_of original).first (sum_of original).second (omega arith)

    asked : (a : Sum) → match_of a found.file (found.sums % 256) (found.sums / 256) ≡ match_of a (sum_of original).len (sum_of original).first (sum_of original).second
    asked a = rw (length-same, first-same, second-same)

    bit_found : (i b : ℕ) → i < length original → b < 8 → BitFound original found i b
    bit_found i b l h = record {
      whole = asked (sum_of (turn i b original)) ∙ one-bit-never-passes original i b l h;
      in_parts = λ parts e.
          matches_by_parts parts found.file found.sums file_small ∙
          ap (λ (s : List ℕ). match_of (sum_of s) found.file (found.sums % 256) (found.sums / 256)) e ∙
          asked (sum_of (turn i b original)) ∙ one-bit-never-passes original i b l h;
    }
      where
        file_small : found.file < 2 ^ 32
        file_small = omega (arith, length-same, made-short (ltb 1_048_576 (length original)) refl m.made)
          where
            made-short : (t : Bool) → ltb 1_048_576 (length original) ≡ t → cond t (Err TooLong) (Ok (sum_of original)) ≡ Ok m.sums → length original ≤ 1_048_576
            made-short true q h = let z : ◌≡◌ {A = ℕ} 0 1 = cc in absurd (omega arith)
            made-short false q h = ltb-false 1_048_576 (length original) q

pub entry-read-back : EntryReadBack
entry-read-back = entry-same

pub asked_as_made : AskedAsMade
asked_as_made names entries out row bn be' k given found w original m file = asked names entries out row bn be' k given found w original m (sum_of file)

pub one-bit_away : OneBitAway
one-bit_away = bit_found
