-- Entries put one behind the other, and what is left of them to put.
use mathlib.Core.Path.{◌≡◌, refl, sym, ap, subst, ◌∙◌}
use Prim.Native.Nat.{ℕ, zero, suc, ◌+◌, ◌-◌, ◌/◌, ◌%◌, ◌<◌, ◌≤◌}
use native.Mathlib.Numerals.{add-one}
use native.Mathlib.Omega.{arith}
use mathlib.Core.List.{List, [], ◌∷◌, ◌++◌, append_assoc, append-nil}
use lib.ListN.{length, take, drop, length-append}
use Rattle.shared_words.specs.Bytes.{be}
use Rattle.shared_words.specs.Lists.{All}
use Rattle.shared_numbers.specs.Put.{Put}
use Rattle.shared_numbers.proofs.Put.{put-none, put_then}
use Rattle.slip_rules.specs.declared.Numbers.{Numbers}
use Rattle.slip_rules.specs.Slip.{behind_name, entry_bytes, all_bytes}
use Rattle.slip_rules.specs.Calls.{entry_from, entries_from}
use Rattle.slip_write_judge.specs.Rows.{row_no, entry_no, rows_from}
use Rattle.slip_write_judge.proofs.Rows.{name-long}
use Rattle.slip_write_judge.proofs.Judging.{row-size}
use Rattle.slip_write.specs.Ready.{Fitting}

-- ---- one entry

-- its five pieces
pub entry-puts : {o o₁ o₂ o₃ o₄ o₅ : List ℕ} {at k₁ k₂ k₃ k₄ k₅ : ℕ} (names : List ℕ) (n : Numbers) → Fitting names n → at ≤ length o →
    Put o at (n.len ∷ []) o₁ k₁ → Put o₁ k₁ (take n.len (drop n.name names)) o₂ k₂ → Put o₂ k₂ (be 4 n.file) o₃ k₃ →
    Put o₃ k₃ (n.sums % 256 ∷ []) o₄ k₄ → Put o₄ k₄ (n.sums / 256 ∷ []) o₅ k₅ → Put o at (entry_bytes (entry_from names n)) o₅ k₅
entry-puts {o} {o₅ = o₅} {at} {k₅ = k₅} names n f h a b c d e =
    let e₁ = entry_from names n in
    let l : length e₁.name ≡ n.len = name-long names n f.inside in
    let p = put_then h (put_then h (put_then h (put_then h a b) c) d) e in
    let q : n.len ∷ (((e₁.name ++ be 4 n.file) ++ (n.sums % 256 ∷ [])) ++ (n.sums / 256 ∷ [])) ≡ entry_bytes e₁ =
    rw l (simp append_assoc) in
    subst (λ (x : List ℕ). Put o at x o₅ k₅) q p

-- ---- all entries

-- the bytes of the first rows, and of one more
bytes-more : (names : List ℕ) (k : ℕ) (s : List ℕ) (i : ℕ) →
    all_bytes (entries_from names (rows_from k s i)) ++ entry_bytes (entry_no names s (i + k)) ≡ all_bytes (entries_from names (rows_from (suc k) s i))
bytes-more names zero s i =
    let q : i + 0 ≡ i = omega arith in
    rw q (sym (append-nil (entry_bytes (entry_no names s i))))
bytes-more names (suc k) s i =
    let q : i + suc k ≡ suc i + k = omega arith in
    append_assoc (entry_bytes (entry_no names s i)) (all_bytes (entries_from names (rows_from k s (suc i)))) (entry_bytes (entry_no names s (i + suc k))) ∙
    ap (λ (x : List ℕ). entry_bytes (entry_no names s i) ++ x) (rw q (bytes-more names k s (suc i)))

-- what is left is fitting
first_fits : (names s : List ℕ) (i k : ℕ) → 0 < k → All (Fitting names) (rows_from k s i) → Fitting names (row_no s i)
first_fits names s i zero p h = absurd (omega arith)
first_fits names s i (suc k) p h = h.0

rest-fits : (names s : List ℕ) (i k : ℕ) → 0 < k → All (Fitting names) (rows_from k s i) → All (Fitting names) (rows_from (k - 1) s (suc i))
rest-fits names s i zero p h = absurd (omega arith)
rest-fits names s i (suc k) p h =
    let q : suc k - 1 ≡ k = omega arith in
    rw q h.1

pub record Putting (names s : List ℕ) (n at : ℕ) (out₀ out : List ℕ) (next i : ℕ) : Type 0 where
  pub few : i ≤ n
  pub long : length out ≡ length out₀
  pub left : All (Fitting names) (rows_from (n - i) s i)
  pub room : next + length (all_bytes (entries_from names (rows_from (n - i) s i))) ≤ length out₀
  pub puts : Put out₀ at (all_bytes (entries_from names (rows_from i s 0))) out next

pub putting_start : (names s : List ℕ) (n at : ℕ) (out : List ℕ) → All (Fitting names) (rows_from n s 0) →
    at + length (all_bytes (entries_from names (rows_from n s 0))) ≤ length out → Putting names s n at out out at 0
putting_start names s n at out h l =
    let q : n - 0 ≡ n = omega arith in
    record { few = omega arith; long = refl; left = rw q h; room = rw q l; puts = put-none out at }

module _ {names s : List ℕ} {n at : ℕ} {out₀ out : List ℕ} {next i : ℕ} (p : Putting names s n at out₀ out next i) (l : i < n) where
  pub putting_fits : Fitting names (row_no s i)
  putting_fits = first_fits names s i (n - i) (omega arith) p.left

  size-here : length (all_bytes (entries_from names (rows_from (n - i) s i))) ≡ 7 + (row_no s i).len + length (all_bytes (entries_from names (rows_from (n - i - 1) s (suc i))))
  size-here = row-size names s i (n - i) (omega arith) putting_fits.inside

  pub putting_room : next + (7 + (row_no s i).len) ≤ length out
  putting_room = omega (arith, p.room, p.long, size-here)

  pub putting_more : at ≤ length out₀ → {out' : List ℕ} {next' : ℕ} → length out' ≡ length out → Put out next (entry_bytes (entry_no names s i)) out' next' →
      Putting names s n at out₀ out' next' (i + 1)
  putting_more h {out'} {next'} e q =
      let k : n - i - 1 ≡ n - suc i = omega arith in
      let z : 0 + i ≡ i = omega arith in
      let b = rw z at (bytes-more names i s 0) in
      let m = name-long names (row_no s i) putting_fits.inside in
      let len : next' ≡ next + (7 + (row_no s i).len) = q.ends ∙ omega (arith, m, length-append (entry_no names s i).name (behind_name (entry_no names s i))) in
      rw (add-one i) record {
        few = omega arith;
        long = e ∙ p.long;
        left = rw (← k) (rest-fits names s i (n - i) (omega arith) p.left);
        room = rw (← k) (omega (arith, p.room, size-here));
        puts = rw (← b) (put_then h p.puts q);
      }
