-- What the writer is given: the bytes that the reader fills in are its numbers again, as each fits four bytes; and of any
-- bytes each number does.
use mathlib.Core.Path.{◌≡◌, refl, ap}
use Prim.Native.Nat.{ℕ, zero, suc, ◌+◌, ◌*◌, ◌/◌, ◌%◌, ◌^◌, ◌<◌, ◌≤◌}
use native.Mathlib.Omega.{arith}
use mathlib.Core.List.{List, [], ◌∷◌}
use lib.Dec.{leb}
use lib.ListN.{length, drop}
use borrow.Author.Tests.{leb-true}
use Rattle.shared_words.specs.Bytes.{packed, Bytes}
use Rattle.shared_words.specs.Lists.{All}
use Rattle.shared_words.proofs.Bools.{and_parts}
use Rattle.shared_words.proofs.Bytes.{bytes_drop, length-packed, value-le, long_small}
use Rattle.slip_rules.specs.declared.Numbers.{Numbers}
use Rattle.slip_rules.specs.Slip.{Entry}
use Rattle.slip_rules.specs.Rules.{remember, AllLawful}
use Rattle.slip_rules.specs.Walk.{behind}
use Rattle.slip_rules.specs.Calls.{entries_from, all_numbers, flat, whole, rows_in, given_bytes}

abbrev pub Small : ℕ → Type 0
Small n = n < 256 ^ 4

-- as many entries as rows
pub length-entries : (names : List ℕ) (ns : List Numbers) → length (entries_from names ns) ≡ length ns
length-entries names [] = refl
length-entries names (n ∷ ns) = ap suc (length-entries names ns)

-- ---- numbers, as bytes and back

rows_back : (ns : List Numbers) → All Small (flat ns) → rows_in (length ns) (packed 4 (flat ns)) ≡ ns
rows_back [] h = refl
rows_back (n ∷ ns) h =
    let t = rows_back ns h.1.1.1.1 in
    rw (value-le 4 n.name h.0, value-le 4 n.len h.1.0, value-le 4 n.file h.1.1.0, value-le 4 n.sums h.1.1.1.0, t)

length-flat : (ns : List Numbers) → length (flat ns) ≡ 4 * length ns
length-flat [] = refl
length-flat (n ∷ ns) = omega (arith, length-flat ns)

pub given_back : (ns : List Numbers) → All Small (flat ns) → given_bytes (packed 4 (flat ns)) ≡ whole ns
given_back ns h =
    let l : length (packed 4 (flat ns)) ≡ 16 * length ns = omega (arith, length-packed 4 (flat ns), length-flat ns) in
    let d : length (packed 4 (flat ns)) / 16 ≡ length ns = omega arith in
    let m : length (packed 4 (flat ns)) % 16 ≡ 0 = omega arith in
    rw (d, m, rows_back ns h)

-- ---- the numbers of a slip's entries are small

pub all_small : (es : List Entry) (seen : List (List ℕ)) (o : ℕ) → AllLawful seen es → o + 262 * length es ≤ 300000 → All Small (flat (all_numbers o es))
all_small [] seen o h l = tt
all_small (e ∷ es) seen o h l =
    let n = and_parts (leb 1 (length e.name)) (leb (length e.name) 255) h.0.is-named in
    let k = leb-true (length e.name) 255 n.1 in
    let s = and_parts (leb e.first 254) (leb e.second 254) h.0.sums_proper_lem in
    let f = leb-true e.first 254 s.0 in
    let g = leb-true e.second 254 s.1 in
    (omega arith, (omega arith, (h.0.file-fits, (omega arith, all_small es (remember seen e) (behind o e) h.1 (omega arith)))))

-- ---- and so is every number that is given

abbrev pub FileFits : Numbers → Type 0
FileFits n = Small n.file

rows_fit : (k : ℕ) (s : List ℕ) → Bytes s → All FileFits (rows_in k s)
rows_fit zero s h = tt
rows_fit (suc k) s h = (long_small (drop 8 s) (bytes_drop 8 s h), rows_fit k (drop 16 s) (bytes_drop 16 s h))

pub given_fit : (s : List ℕ) → Bytes s → All FileFits (given_bytes s).rows
given_fit s h = rows_fit (length s / 16) s h
