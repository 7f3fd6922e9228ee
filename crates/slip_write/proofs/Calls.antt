-- The writer's answer, by what the judgement answers; and what is known once it answers a size.
use Rattle.std.specs.Prelude.{Result, Ok, Err}
use mathlib.Core.Path.{◌≡◌, refl, sym, ap, subst, ◌∙◌}
use Prim.Native.Nat.{ℕ, suc, ◌+◌, ◌-◌, ◌*◌, ◌/◌, ◌≤◌}
use native.Mathlib.Omega.{arith}
use mathlib.Core.List.{List, [], ◌∷◌, ◌++◌}
use mathlib.Core.Option.{Option, none, some}
use lib.Dec.{leb}
use lib.ListN.{length, length-append}
use borrow.Author.Tests.{ltb-true, leb-true}
use Rattle.shared_words.specs.declared.Refusal.{Refusal}
use Rattle.shared_words.specs.Bytes.{be}
use Rattle.shared_words.specs.Conditions.{Condition, broken}
use Rattle.shared_words.specs.Effects.{leaving, filled}
use Rattle.shared_words.specs.Lists.{All}
use Rattle.shared_words.proofs.Bools.{and_parts}
use Rattle.shared_words.proofs.Conditions.{Met, met}
use Rattle.shared_numbers.specs.Put.{Put}
use Rattle.shared_numbers.proofs.Put.{put_then}
use Rattle.slip_rules.specs.declared.Numbers.{Numbers}
use Rattle.slip_rules.specs.Slip.{behind_name, entry_bytes, all_bytes, rest, bytes}
use Rattle.slip_rules.specs.Rules.{remember, most_entries}
use Rattle.slip_rules.specs.Calls.{entry_from, entries_from, given_bytes, row_conditions, one_on, write_conditions, slip_write_call}
use Rattle.slip_rules.proofs.Given.{length-entries}
use Rattle.slip_rules.proofs.Labels.{labels_met}
use Rattle.slip_write_judge.specs.Judged.{size_unless, judged}
use Rattle.slip_write_judge.proofs.Rows.{name-long}
use Rattle.slip_write_judge.proofs.Answers.{length-rows}
use Rattle.slip_write.specs.Ready.{Fitting, Ready}

-- ---- what the conditions tell of the rows

pub record Told (names : List ℕ) (i : ℕ) (ns : List Numbers) (later : List Condition) : Type 0 where
  pub fitting : All (Fitting names) ns
  pub few : i + length ns ≤ most_entries
  pub then : Met later

told : (names : List ℕ) (seen : List (List ℕ)) (i : ℕ) (ns : List Numbers) (later : List Condition) → i ≤ most_entries → Met (row_conditions names seen i ns later) →
    Told names i ns later
told names seen i [] later l h = record { fitting = tt; few = omega arith; then = h }
told names seen i (n ∷ ns) later l h =
    let b = ltb-true i most_entries h.0 in
    let w = leb-true (n.name + n.len) (length names) h.1.0 in
    let e = entry_from names n in
    let s = leb-true (length e.name) 255 (and_parts (leb 1 (length e.name)) (leb (length e.name) 255) h.1.1.0).1 in
    let t = leb-true e.second 254 (and_parts (leb e.first 254) (leb e.second 254) h.1.1.1.0).1 in
    let r = told names (remember seen e) (suc i) ns later (omega arith) h.1.1.1.1.1 in
    record { fitting = (record { inside = w; short = omega (arith, s, name-long names n w); second = t }, r.fitting); few = omega (arith, r.few); then = r.then }

-- an entry that fits has at most 262 bytes
pub fitting-short : (names : List ℕ) (ns : List Numbers) → All (Fitting names) ns → length (all_bytes (entries_from names ns)) ≤ 262 * length ns
fitting-short names [] h = omega arith
fitting-short names (n ∷ ns) h =
    let e = entry_from names n in
    let f = h.0 in
    omega (
      arith,
      f.short,
      name-long names n f.inside,
      fitting-short names ns h.1,
      length-append (entry_bytes e) (all_bytes (entries_from names ns)),
      length-append e.name (behind_name e),
    )

pub ready-short : {names s : List ℕ} {size room : ℕ} → Ready names s size room → size ≤ 7 + 262 * most_entries
ready-short {names} {s} r =
    omega (arith, r.is, r.few, fitting-short names (given_bytes s).rows r.fitting, length-rows (length s / 16) s)

-- ---- the answer

module _ (names s out : List ℕ) where
  abbrev pub WriteIs : Result ℕ Refusal → Type 0
  WriteIs (Err r) = slip_write_call names (given_bytes s) out ≡ leaving (Err r) out
  WriteIs (Ok size) =
      Ready names s size (length out) × (slip_write_call names (given_bytes s) out ≡ leaving (Ok size) (filled (bytes (entries_from names (given_bytes s).rows)) out))

  pub write-is : WriteIs (judged names (given_bytes s) (length out))
  unfolding slip_write_call judged
  write-is = test (broken (write_conditions names (given_bytes s) (length out))) refl
    where
      size : ℕ
      size = length (bytes (entries_from names (given_bytes s).rows))

      test : (r : Option Refusal) → broken (write_conditions names (given_bytes s) (length out)) ≡ r → WriteIs (size_unless size r)
      test (some r) q = rw q
      test none q =
          let t = told names [] 0 (given_bytes s).rows _ (omega arith) (met _ q) in (
            record {
              fitting = t.fitting;
              few = omega (arith, t.few, length-rows (length s / 16) s);
              is = refl;
              fits = leb-true size (length out) (labels_met one_on _ 0 (entries_from names (given_bytes s).rows) t.then.1).1.0;
            },
            rw q,
          )

-- ---- the bytes

-- the four pieces of a slip
pub slip-puts : {o o₁ o₂ o₃ o₄ : List ℕ} {k₁ k₂ k₃ k₄ : ℕ} {names s : List ℕ} {size room : ℕ} → Ready names s size room → Put o 0 (1 ∷ []) o₁ k₁ →
    Put o₁ k₁ (be 4 (size - 5)) o₂ k₂ → Put o₂ k₂ (be 2 (length s / 16)) o₃ k₃ → Put o₃ k₃ (all_bytes (entries_from names (given_bytes s).rows)) o₄ k₄ →
    Put o 0 (bytes (entries_from names (given_bytes s).rows)) o₄ k₄
slip-puts {o} {o₄ = o₄} {k₄ = k₄} {names} {s} {size} r a b c d =
    let es = entries_from names (given_bytes s).rows in
    let z : 0 ≤ length o = omega arith in
    let l : size - 5 ≡ length (rest es) = omega (arith, r.is) in
    let n : length s / 16 ≡ length es = sym (length-entries names (given_bytes s).rows ∙ length-rows (length s / 16) s) in
    let q = ap (λ (k : ℕ). 1 ∷ be 4 k ++ (be 2 (length s / 16) ++ all_bytes es)) l ∙ ap (λ (k : ℕ). 1 ∷ be 4 (length (rest es)) ++ (be 2 k ++ all_bytes es)) n in
    subst (λ (x : List ℕ). Put o 0 x o₄ k₄) q (put_then z (put_then z (put_then z a b) c) d)
