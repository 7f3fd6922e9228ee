-- A slip, exactly: the reader's call is a fold of the verdict, the writer's of its conditions, which are the rules.
use Rattle.std.specs.Prelude.{Ok, Err}
use mathlib.Core.Path.{◌≡◌, refl, sym, ap}
use mathlib.Core.Bool.{Bool, true, false, not}
use mathlib.Core.List.{List, [], ◌∷◌}
use mathlib.Core.Option.{Option, none, some}
use Prim.Native.Nat.{ℕ, suc, ◌+◌, ◌≤◌}
use native.Mathlib.Omega.{arith}
use lib.Dec.{leb}
use lib.ListN.{length}
use borrow.Author.Tests.{leb-true, le-leb, lt-ltb}
use Rattle.shared_words.specs.declared.Refusal.{Refusal}
use Rattle.shared_words.specs.declared.Refusal.TheVariants.{NoRoom}
use Rattle.shared_words.specs.Bytes.{Bytes}
use Rattle.shared_words.specs.Conditions.{Condition, broken, refused, accepted}
use Rattle.shared_words.specs.Lists.{All}
use Rattle.shared_words.specs.Effects.{leaving, filled}
use Rattle.shared_words.specs.Encodings.{Encoding}
use Rattle.shared_words.proofs.Conditions.{Met, met, unbroken}
use Rattle.slip_rules.specs.declared.Numbers.{Numbers}
use Rattle.slip_rules.specs.Slip.{Entry}
use Rattle.slip_rules.specs.Rules.{remember, most_entries, AllLawful, Meets}
use Rattle.slip_rules.specs.Walk.{Entries, verdict}
use Rattle.slip_rules.specs.Calls.{all_numbers, read_of, slip_read_call, entry_from, entries_from, Given, given_bytes, row_conditions, one_on, write_conditions, write_of, slip_write_call}
use Rattle.slip_rules.proofs.Labels.{labels_met, met_labels}
use Rattle.slip_rules.proofs.Verdict.{accepted_exactly, verdict-good}
use Rattle.slip_rules.proofs.Given.{given_fit}
use Rattle.slip_rules.proofs.Again.{written-meets}
use Rattle.claim_slip.specs.Exact.{slip_of, Writable, SlipsExactly}

-- ---- reading

given : (e : Encoding Numbers ℕ) (s : List ℕ) (es : List Entry) → Meets s es → (row : List ℕ) → length es ≤ e.room (length row) →
    slip_read_call e s row ≡ leaving (Ok (length es)) (filled (e.encode (all_numbers 7 es)) row)
unfolding slip_read_call
given e s es m row l = rw (verdict-good s es m, le-leb (length es) (e.room (length row)) l)

read-met : (e : Encoding Numbers ℕ) (row : List ℕ) (n : ℕ) (a : Entries) → (read_of e row a).answer ≡ Ok n →
    (es : List Entry) × (a ≡ accepted es) × (n ≡ length es) × (n ≤ e.room (length row))
read-met e row n (refused r) h = let z : ◌≡◌ {A = ℕ} 0 1 = cc in absurd (omega arith)
read-met e row n (accepted es) h = go (leb (length es) (e.room (length row))) refl
  where
    go : (b : Bool) → leb (length es) (e.room (length row)) ≡ b → (fs : List Entry) × (accepted es ≡ accepted fs) × (n ≡ length fs) × (n ≤ e.room (length row))
    go true q =
        let w : Ok (length es) ≡ Ok n = rw q at h in
        let k : length es ≡ n = cc in
        (es, refl, sym k, omega (arith, leb-true (length es) (e.room (length row)) q))
    go false q = let w : Err (NoRoom (length es)) ≡ Ok n = rw q at h in let z : ◌≡◌ {A = ℕ} 0 1 = cc in absurd (omega arith)

-- ---- writing: the conditions are met, so the names are there; and back

module _ (names : List ℕ) where
  abbrev There : Numbers → Type 0
  There n = n.name + n.len ≤ length names

  names-met : (seen : List (List ℕ)) (i : ℕ) (ns : List Numbers) (later : List Condition) → Met (row_conditions names seen i ns later) → All There ns × Met later
  names-met seen i [] later h = (tt, h)
  names-met seen i (n ∷ ns) later h =
      let t = names-met (remember seen (entry_from names n)) (suc i) ns later h.1.1.1.1.1 in
      ((leb-true (n.name + n.len) (length names) h.1.0, t.0), t.1)

  met-rows : (seen : List (List ℕ)) (i : ℕ) (ns : List Numbers) (later : List Condition) → All There ns → AllLawful seen (entries_from names ns) →
      i + length (entries_from names ns) ≤ most_entries → Met later → Met (row_conditions names seen i ns later)
  met-rows seen i [] later a l m k = k
  met-rows seen i (n ∷ ns) later a l m k =
      let t = met-rows (remember seen (entry_from names n)) (suc i) ns later a.1 l.1 (omega arith) k in
      (lt-ltb i most_entries (omega arith), (le-leb (n.name + n.len) (length names) a.0, (l.0.is-named, (l.0.sums_proper_lem, (l.0.not_twice_lem, t)))))

no-part-left : (b : Bool) → not b ≡ true → b ≡ false
no-part-left false h = refl
no-part-left true h = let z : ◌≡◌ {A = ℕ} 0 1 = cc in absurd (omega arith)

writable : (names entries : List ℕ) (room : ℕ) → Bytes entries → Met (write_conditions names (given_bytes entries) room) → Writable names (given_bytes entries) room
writable names entries room b h =
    let g : Given = given_bytes entries in
    let t = names-met names [] 0 g.rows _ h in
    let l = (labels_met one_on _ 0 (entries_from names g.rows) t.1.1).1 in
    record {
      no_part = no-part-left g.part t.1.0;
      names-there = t.0;
      meets = written-meets names g room (given_fit entries b) h;
      fits_in = leb-true (length (slip_of names g)) room l.0;
    }

met_writable : (names : List ℕ) (g : Given) (room : ℕ) → Writable names g room → Met (write_conditions names g room)
met_writable names g room w =
    let f = w.meets.few in
    met-rows names [] 0 g.rows _ w.names-there w.meets.lawful (omega arith)
    (ap not w.no_part, met_labels one_on _ 0 (entries_from names g.rows) w.meets.labelled (le-leb (length (slip_of names g)) room w.fits_in, tt))

laid-down : (names : List ℕ) (g : Given) (out : List ℕ) → Writable names g (length out) →
    slip_write_call names g out ≡ leaving (Ok (length (slip_of names g))) (filled (slip_of names g) out)
unfolding slip_write_call
laid-down names g out w = rw (unbroken (write_conditions names g (length out)) (met_writable names g (length out) w))

was-written : (new out : List ℕ) (size : ℕ) (r : Option Refusal) → (write_of new out r).answer ≡ Ok size → (r ≡ none) × (size ≡ length new)
was-written new out size (some r) h = let z : ◌≡◌ {A = ℕ} 0 1 = cc in absurd (omega arith)
was-written new out size none h = (refl, cc)

pub slips_exactly : SlipsExactly
unfolding slip_read_call slip_write_call
slips_exactly = record {
  read = λ e s b row n. (
    λ h. let r = read-met e row n (verdict s) h in (r.0, (accepted_exactly s b r.0).0 r.1, r.2, r.3),
    λ r. rw (given e s r.0 r.1 row (omega (arith, r.2, r.3)), r.2),
  );
  given = given;
  write = λ names entries out b size. (
    λ h.
        let g : Given = given_bytes entries in
        let r = was-written (slip_of names g) out size (broken (write_conditions names g (length out))) h in
        (writable names entries (length out) b (met _ r.0), r.1),
    λ w. rw (laid-down names (given_bytes entries) out w.0, w.1),
  );
  laid-down = λ names entries out w. laid-down names (given_bytes entries) out w;
}
