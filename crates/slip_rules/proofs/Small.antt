-- The answers are small, as there are at most 1,000 entries of at most 70 bytes.
use Rattle.std.specs.Prelude.{Result, Ok, Err}
use mathlib.Core.Path.{◌≡◌, refl, subst}
use Prim.Native.Nat.{ℕ, ◌+◌, ◌*◌, ◌≤◌}
use native.Mathlib.Omega.{arith}
use mathlib.Core.Bool.{Bool, true, false, cond}
use mathlib.Core.List.{List, [], ◌∷◌}
use mathlib.Core.Option.{Option, none, some}
use lib.Dec.{leb}
use lib.ListN.{length, length-append}
use borrow.Author.Tests.{leb-true}
use Rattle.shared_words.specs.declared.Refusal.{Refusal}
use Rattle.shared_words.specs.declared.Refusal.TheVariants.{NoRoom}
use Rattle.shared_words.specs.Bytes.{Bytes}
use Rattle.shared_words.specs.Lists.{every}
use Rattle.shared_words.specs.Labels.{printable, fits_label}
use Rattle.shared_words.specs.Conditions.{broken, refused, accepted}
use Rattle.shared_words.specs.Effects.{leaving, filled}
use Rattle.shared_words.specs.Encodings.{Encoding}
use Rattle.shared_words.proofs.Bools.{and_parts}
use Rattle.shared_words.proofs.Conditions.{met}
use Rattle.slip_rules.specs.declared.Numbers.{Numbers}
use Rattle.slip_rules.specs.Slip.{Entry, behind_name, entry_bytes, all_bytes, bytes}
use Rattle.slip_rules.specs.Rules.{is_labelled, most_entries, Meets}
use Rattle.slip_rules.specs.Walk.{Entries, verdict}
use Rattle.slip_rules.specs.Calls.{all_numbers, read_of, slip_read_call, entries_from, given_bytes, write_conditions, write_of, slip_write_call}
use Rattle.slip_rules.specs.Theorems.{FewEntries, SmallSize}
use Rattle.slip_rules.proofs.Verdict.{accepted_exactly}
use Rattle.slip_rules.proofs.Given.{given_fit}
use Rattle.slip_rules.proofs.Again.{written-meets}

-- ---- entries

abbrev Few : Result ℕ Refusal → Type 0
Few (Ok n) = n ≤ most_entries
Few (Err r) = Unit

read-few : (c : Encoding Numbers ℕ) (s row : List ℕ) → Bytes s → Few (slip_read_call c s row).answer
unfolding slip_read_call
read-few c s row b = go (verdict s) refl
  where
    room : (es : List Entry) → length es ≤ most_entries → (t : Bool) →
        Few (cond t (leaving (Ok (length es)) (filled (c.encode (all_numbers 7 es)) row)) (leaving (Err (NoRoom (length es))) row)).answer
    room es l true = l
    room es l false = tt

    go : (a : Entries) → verdict s ≡ a → Few (read_of c row a).answer
    go (refused r) e = tt
    go (accepted es) e = room es ((accepted_exactly s b es).0 e).few (leb (length es) (c.room (length row)))

pub few-entries : FewEntries
few-entries c s row n b e = subst Few e (read-few c s row b)

-- ---- sizes

abbrev Short : Result ℕ Refusal → Type 0
Short (Ok n) = n ≤ 7 + 70 * most_entries
Short (Err r) = Unit

-- a name that fits the label has at most 63 bytes
label_short : (name : List ℕ) → fits_label name ≡ true → length name ≤ 63
unfolding fits_label
label_short name h = leb-true (length name) 63 (and_parts (leb (length name) 63) (every printable name) h).0

all-labelled : (es : List Entry) → every is_labelled es ≡ true → length (all_bytes es) ≤ 70 * length es
unfolding every
all-labelled [] h = omega arith
all-labelled (e ∷ es) h =
    let k = and_parts (is_labelled e) (every is_labelled es) h in
    omega (arith, label_short e.name k.0, all-labelled es k.1, length-append (entry_bytes e) (all_bytes es), length-append e.name (behind_name e))

meets-short : (es : List Entry) → Meets (bytes es) es → length (bytes es) ≤ 7 + 70 * most_entries
meets-short es m = let f = m.few in omega (arith, all-labelled es m.labelled)

write-short : (names entries out : List ℕ) → Bytes entries → Short (slip_write_call names (given_bytes entries) out).answer
unfolding slip_write_call
write-short names entries out b = go (broken (write_conditions names (given_bytes entries) (length out))) refl
  where
    es : List Entry
    es = entries_from names (given_bytes entries).rows

    go : (r : Option Refusal) → broken (write_conditions names (given_bytes entries) (length out)) ≡ r → Short (write_of (bytes es) out r).answer
    go (some r) e = tt
    go none e = meets-short es (written-meets names (given_bytes entries) (length out) (given_fit entries b) (met _ e))

pub small_size : SmallSize
small_size names entries out size b e = subst Short e (write-short names entries out b)
