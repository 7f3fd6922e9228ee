-- The writer: what it writes reads back, and what is read is written again as it was.
-- Its conditions are the rules of the entries that its numbers stand for; and the numbers of a slip's entries stand for
-- those entries, with the slip itself as the names.
use Rattle.std.specs.Prelude.{Ok, Err}
use mathlib.Core.Path.{◌≡◌, refl, sym, ap, ap₂, subst, ◌∙◌}
use Prim.Native.Nat.{ℕ, suc, ◌+◌, ◌*◌, ◌/◌, ◌%◌, ◌≤◌}
use native.Mathlib.Omega.{arith}
use mathlib.Core.Bool.{true}
use mathlib.Core.List.{List, [], ◌∷◌, ◌++◌, append_assoc}
use mathlib.Core.Option.{Option, none, some}
use lib.Arith.{digits_div, digits_mod}
use lib.Dec.{leb}
use lib.ListN.{length, take, drop, length-append}
use lib.Seq.{take_at, drop-append-add}
use borrow.Author.Tests.{ltb-true, lt-ltb, le-leb, leb-true}
use Rattle.shared_words.specs.declared.Refusal.{Refusal}
use Rattle.shared_words.specs.Bytes.{be}
use Rattle.shared_words.specs.Conditions.{Condition, broken, accepted}
use Rattle.shared_words.specs.Effects.{leaving, filled}
use Rattle.shared_words.specs.Lists.{All}
use Rattle.shared_words.proofs.Bools.{and_parts}
use Rattle.shared_words.proofs.Conditions.{Met, met, unbroken}
use Rattle.slip_rules.specs.declared.Numbers.{Numbers}
use Rattle.slip_rules.specs.Slip.{Entry, behind_name, entry_bytes, all_bytes, rest, bytes}
use Rattle.slip_rules.specs.Rules.{sums_proper, remember, most_entries, AllLawful, Meets}
use Rattle.slip_rules.specs.Conditions.{entry_conditions}
use Rattle.slip_rules.specs.Walk.{behind, verdict}
use Rattle.slip_rules.specs.Calls.{numbers_of, all_numbers, entry_from, entries_from, Given, whole, given_bytes, within, row_conditions, one_on, write_conditions, write_of, slip_write_call}
use Rattle.slip_rules.specs.Theorems.{ReadsBack, WritesBack}
use Rattle.slip_rules.proofs.Labels.{labels_met, met_labels}
use Rattle.slip_rules.proofs.Verdict.{verdict-good, accepted_exactly}
use Rattle.slip_rules.proofs.Given.{FileFits, given_back, given_fit, all_small}

-- ---- what is written reads back

pub record RowsMet (seen : List (List ℕ)) (i : ℕ) (es : List Entry) (later : List Condition) : Type 0 where
  pub lawful : AllLawful seen es
  pub few : i + length es ≤ most_entries
  pub then : Met later

rows-met : (names : List ℕ) (seen : List (List ℕ)) (i : ℕ) (ns : List Numbers) (later : List Condition) → i ≤ most_entries → All FileFits ns →
    Met (row_conditions names seen i ns later) → RowsMet seen i (entries_from names ns) later
rows-met names seen i [] later l f h = record { lawful = tt; few = omega arith; then = h }
rows-met names seen i (n ∷ ns) later l f h =
    let b = ltb-true i most_entries h.0 in
    let r = h.1.1 in
    let t = rows-met names (remember seen (entry_from names n)) (suc i) ns later (omega arith) f.1 r.1.1.1 in
    record {
      lawful = (record { is-named = r.0; sums_proper_lem = r.1.0; not_twice_lem = r.1.1.0; file-fits = f.0 }, t.lawful);
      few = omega (arith, t.few);
      then = t.then;
    }

pub written-meets : (names : List ℕ) (g : Given) (room : ℕ) → All FileFits g.rows → Met (write_conditions names g room) →
    Meets (bytes (entries_from names g.rows)) (entries_from names g.rows)
written-meets names g room f h =
    let t = rows-met names [] 0 g.rows _ (omega arith) f h in
    record { is = refl; few = omega (arith, t.few); lawful = t.lawful; labelled = (labels_met one_on _ 0 (entries_from names g.rows) t.then.1).0 }

pub reads-back : ReadsBack
unfolding slip_write_call
reads-back names entries out b size = test (broken (write_conditions names g (length out))) refl
  where
    g : Given
    g = given_bytes entries

    new : List ℕ
    new = bytes (entries_from names g.rows)

    test : (r : Option Refusal) → broken (write_conditions names g (length out)) ≡ r → (write_of new out r).answer ≡ Ok size →
        verdict (take size (write_of new out r).rows) ≡ accepted (entries_from names g.rows)
    test (some r) q a = absurd (never a)
      where
        never : Err r ≡ Ok size → ⊥
        never a = let z : ◌≡◌ {A = ℕ} 0 1 = cc in omega arith
    test none q a =
        let n : length new ≡ size = cc in
        rw (take_at new (drop (length new) out) size n)
        (verdict-good new (entries_from names g.rows) (written-meets names g (length out) (given_fit entries b) (met _ q)))

-- ---- what is read is written again

sums_back : (e : Entry) → sums_proper e ≡ true → ((e.first + 256 * e.second) % 256 ≡ e.first) × ((e.first + 256 * e.second) / 256 ≡ e.second)
sums_back e h =
    let l = leb-true e.first 254 (and_parts (leb e.first 254) (leb e.second 254) h).0 in
    let c : e.first + 256 * e.second ≡ e.second * 256 + e.first = omega arith in
    (rw c (digits_mod e.second (omega arith)), rw c (digits_div e.second (omega arith)))

module _ (before : List ℕ) (e : Entry) (more : List ℕ) where
  -- the name of the entry that stands behind `before`
  name_back : take (length e.name) (drop (length before + 1) (before ++ (entry_bytes e ++ more))) ≡ e.name
  name_back =
      rw (drop-append-add before (entry_bytes e ++ more) 1, append_assoc e.name (behind_name e) more)
      (take_at e.name (behind_name e ++ more) (length e.name) refl)

  entry-back : sums_proper e ≡ true → entry_from (before ++ (entry_bytes e ++ more)) (numbers_of (length before) e) ≡ e
  entry-back h =
      let s = sums_back e h in
      rw (name_back, s.0, s.1)

  -- it stands there whole
  within-back : within (before ++ (entry_bytes e ++ more)) (numbers_of (length before) e) ≡ true
  within-back =
      let names = before ++ (entry_bytes e ++ more) in
      le-leb (length before + 1 + length e.name) (length names)
      (omega (arith, length-append before (entry_bytes e ++ more), length-append (entry_bytes e) more, length-append e.name (behind_name e)))

  -- behind it
  next-back : before ++ (entry_bytes e ++ more) ≡ before ++ entry_bytes e ++ more
  next-back = sym (append_assoc before (entry_bytes e) more)

  behind-back : behind (length before) e ≡ length (before ++ entry_bytes e)
  behind-back = omega (arith, length-append before (entry_bytes e), length-append e.name (behind_name e))

entries-back : (es : List Entry) (seen : List (List ℕ)) (before : List ℕ) → AllLawful seen es →
    entries_from (before ++ all_bytes es) (all_numbers (length before) es) ≡ es
entries-back [] seen before h = refl
entries-back (e ∷ es) seen before h =
    let n = entries-back es (remember seen e) (before ++ entry_bytes e) h.1 in
    ap₂ (λ (x : Entry) (xs : List Entry). x ∷ xs) (entry-back before e (all_bytes es) h.0.sums_proper_lem)
    (ap₂ (λ (names : List ℕ) (at : ℕ). entries_from names (all_numbers at es)) (next-back before e (all_bytes es)) (behind-back before e (all_bytes es)) ∙ n)

rows_back : (es : List Entry) (seen : List (List ℕ)) (i : ℕ) (before : List ℕ) (later : List Condition) → AllLawful seen es →
    i + length es ≤ most_entries → Met later → Met (row_conditions (before ++ all_bytes es) seen i (all_numbers (length before) es) later)
rows_back [] seen i before later h l k = k
rows_back (e ∷ es) seen i before later h l k =
    let n = rows_back es (remember seen e) (suc i) (before ++ entry_bytes e) later h.1 (omega arith) k in
    let p = h.0 in
    let names = before ++ (entry_bytes e ++ all_bytes es) in (
      lt-ltb i most_entries (omega arith),
      (
        within-back before e (all_bytes es),
        subst (λ (x : Entry). Met (entry_conditions seen i x (row_conditions names (remember seen x) (suc i) (all_numbers (behind (length before) e) es) later)))
            (sym (entry-back before e (all_bytes es) p.sums_proper_lem)) (
              p.is-named,
              (
                p.sums_proper_lem,
                (
                  p.not_twice_lem,
                  subst (λ (s : List ℕ). Met (row_conditions s (remember seen e) (suc i) (all_numbers (behind (length before) e) es) later)) (sym (next-back before e (all_bytes es)))
                      (subst (λ (at : ℕ). Met (row_conditions (before ++ entry_bytes e ++ all_bytes es) (remember seen e) (suc i) (all_numbers at es) later)) (sym (behind-back before e (all_bytes es))) n),
                ),
              ),
            ),
      ),
    )

-- the seven bytes before the entries
abbrev seven : List Entry → List ℕ
seven es = 1 ∷ be 4 (length (rest es)) ++ be 2 (length es)

module _ (es : List Entry) (m : Meets (bytes es) es) (out : List ℕ) (l : length (bytes es) ≤ length out) where
  entries_are : entries_from (bytes es) (all_numbers 7 es) ≡ es
  entries_are = entries-back es [] (seven es) m.lawful

  conditions-back : Met (write_conditions (bytes es) (whole (all_numbers 7 es)) (length out))
  conditions-back =
      let f = m.few in
      rows_back es [] 0 (seven es) _ m.lawful (omega arith)
      (refl, rw entries_are (met_labels one_on _ 0 es m.labelled (le-leb (length (bytes es)) (length out) l, tt)))

  good-back : slip_write_call (bytes es) (whole (all_numbers 7 es)) out ≡ leaving (Ok (length (bytes es))) (filled (bytes es) out)
  unfolding slip_write_call
  good-back =
      let q : broken (write_conditions (bytes es) (whole (all_numbers 7 es)) (length out)) ≡ none = unbroken _ conditions-back in
      rw q (ap (λ (x : List Entry). leaving (Ok (length (bytes x))) (filled (bytes x) out)) entries_are)

pub writes_back : WritesBack
writes_back s h es a out l =
    let m = (accepted_exactly s h es).0 a in
    let e = m.is in
    let f = m.few in
    let n = given_back (all_numbers 7 es) (all_small es [] 7 m.lawful (omega arith)) in
    let g = good-back es record { is = refl; few = m.few; lawful = m.lawful; labelled = m.labelled } out (omega (arith, ap length e)) in
    ap (λ (x : Given). slip_write_call s x out) n ∙
    subst (λ (x : List ℕ). slip_write_call x (whole (all_numbers 7 es)) out ≡ leaving (Ok (length x)) (filled x out)) e g
