-- Entries in a row of bytes: four numbers after four, and entries after others.
use Rattle.std.specs.Prelude.{Ok, Err}
use mathlib.Core.Path.{◌≡◌, refl, sym, ap, subst, ◌∙◌}
use Prim.Native.Nat.{ℕ, zero, suc, ◌+◌, ◌-◌, ◌*◌, ◌/◌, ◌<◌, ◌≤◌}
use native.Mathlib.Omega.{arith}
use mathlib.Core.List.{List, [], ◌∷◌, ◌++◌}
use lib.ListN.{length, drop, take, get_or}
use lib.Seq.{sets, sets-eq, length-sets, drop-drop}
use borrow.Author.Tests.{le-leb, lt-leb}
use Rattle.shared_words.specs.declared.Refusal.{Refusal}
use Rattle.shared_words.specs.declared.Refusal.TheVariants.{NoRoom}
use Rattle.shared_numbers.specs.Put.{Put}
use Rattle.shared_numbers.proofs.At.{head_is}
use Rattle.shared_numbers.proofs.Put.{put_then, put-sets, sets_append}
use Rattle.slip_rules.specs.declared.Numbers.{Numbers}
use Rattle.shared_words.specs.Bytes.{le, packed, value_be, be_at}
use Rattle.shared_words.specs.Conditions.{refused, accepted}
use Rattle.shared_words.specs.Effects.{leaving, filled}
use Rattle.slip_rules.specs.Slip.{Entry}
use Rattle.slip_rules.specs.Rules.{most_entries}
use Rattle.slip_rules.specs.Walk.{entry_at, behind, verdict}
use Rattle.slip_rules.specs.Calls.{numbers_of, all_numbers, flat, byte_row, slip_read_call}
use Rattle.slip_check.specs.Entries.{entry_in, next_at, entries_in, Whole}
use Rattle.slip_check.proofs.Names.{name-length, whole-first, whole-on}
use Rattle.slip_check.proofs.Good.{first-is, second_is}

-- ---- one entry

-- four numbers put one behind the other
pub four-puts : {r r₁ r₂ r₃ r₄ : List ℕ} {i i₁ i₂ i₃ i₄ : ℕ} (a b c d : ℕ) → i ≤ length r → Put r i (le 4 a) r₁ i₁ → Put r₁ i₁ (le 4 b) r₂ i₂ →
    Put r₂ i₂ (le 4 c) r₃ i₃ → Put r₃ i₃ (le 4 d) r₄ i₄ → Put r i (packed 4 (a ∷ b ∷ c ∷ d ∷ [])) r₄ i₄
four-puts a b c d h p q s t = put_then h (put_then h (put_then h p q) s) t

pub put_as : {r r' : List ℕ} {i i' : ℕ} {xs ys : List ℕ} → xs ≡ ys → Put r i (packed 4 xs) r' i' → Put r i (packed 4 ys) r' i'
put_as {r} {r'} {i} {i'} e p = subst (λ (x : List ℕ). Put r i (packed 4 x) r' i') e p

file-is : (s : List ℕ) (o : ℕ) → (entry_in s o).file ≡ be_at (o + 1 + get_or s o 0) 4 s
unfolding entry_at
file-is s o =
    let n = get_or (drop o s) 0 0 in
    let k : o + (1 + n) ≡ o + 1 + get_or s o 0 = omega (arith, head_is s o) in
    ap (λ (x : List ℕ). value_be (take 4 x)) (drop-drop n 1 (drop o s) ∙ drop-drop (1 + n) o s ∙ ap (λ (i : ℕ). drop i s) k)

pub numbers-from : (s : List ℕ) (o len file first second : ℕ) → next_at s o ≤ length s → len ≡ get_or s o 0 → file ≡ be_at (o + 1 + len) 4 s →
    first ≡ get_or s (o + 5 + len) 0 → second ≡ get_or s (o + 5 + len + 1) 0 →
    ((o + 1) ∷ len ∷ file ∷ (first + 256 * second) ∷ []) ≡ flat (numbers_of o (entry_in s o) ∷ [])
numbers-from s o len file first second l p q f g =
    let a = name-length s o l in
    let b = file-is s o in
    let c = first-is [] s o (omega arith) in
    let d = second_is [] s o (omega arith) in
    let p' : length (entry_in s o).name ≡ len = cc in
    let q' : (entry_in s o).file ≡ file = cc in
    let f' : (entry_in s o).first ≡ first = cc in
    let g' : (entry_in s o).second ≡ second = cc in
    rw (p', q', f', g')

-- ---- all entries

pub record Filling (s : List ℕ) (count : ℕ) (row₀ row : List ℕ) (left o at : ℕ) : Type 0 where
  pub whole : Whole left s o
  pub room : at + 16 * left ≤ length row
  pub low : at + 16 * left ≤ 16 * most_entries
  pub long : length row ≡ length row₀
  -- an entry has at most 262 bytes
  pub near : o + 262 * left ≤ 7 + 262 * most_entries
  pub fills : sets row at (packed 4 (flat (all_numbers o (entries_in left s o)))) ≡ sets row₀ 0 (packed 4 (flat (all_numbers 7 (entries_in count s 7))))

first_then : (row : List ℕ) (i : ℕ) (n : Numbers) (ns : List Numbers) →
    sets row i (packed 4 (flat (n ∷ ns))) ≡ sets (sets row i (packed 4 (flat (n ∷ [])))) (i + 16) (packed 4 (flat ns))
first_then row i n ns = sets_append row i (packed 4 (flat (n ∷ []))) (packed 4 (flat ns))

fill_on : (s row : List ℕ) (o i left : ℕ) → 0 < left → next_at s o ≤ length s →
    sets row i (packed 4 (flat (all_numbers o (entries_in left s o)))) ≡
    sets (sets row i (packed 4 (flat (numbers_of o (entry_in s o) ∷ [])))) (i + 16) (packed 4 (flat (all_numbers (next_at s o) (entries_in (left - 1) s (next_at s o)))))
fill_on s row o i zero p l = absurd (omega arith)
fill_on s row o i (suc k) p l =
    let q : suc k - 1 ≡ k = omega arith in
    let b : behind o (entry_in s o) ≡ next_at s o = omega (arith, name-length s o l) in
    first_then row i (numbers_of o (entry_in s o)) (all_numbers (behind o (entry_in s o)) (entries_in k s (next_at s o))) ∙ rw (q, b)

pub filling_on : {s : List ℕ} {count : ℕ} {row₀ row row' : List ℕ} {left o i i' : ℕ} → Filling s count row₀ row left o i → 0 < left →
    Put row i (byte_row.encode (numbers_of o (entry_in s o) ∷ [])) row' i' → get_or s o 0 < 256 → Filling s count row₀ row' (left - 1) (next_at s o) i'
filling_on {s} {count} {row₀} {row} {row'} {left} {o} {i} {i'} f p q b =
    let w = whole-first s o left p f.whole in
    let j : i' ≡ i + 16 = q.ends in
    let e = put-sets (omega (arith, f.room)) q in
    let n = ap length e ∙ length-sets row i (packed 4 (flat (numbers_of o (entry_in s o) ∷ []))) in
    record {
      whole = whole-on s o left p f.whole;
      room = omega (arith, f.room, n);
      low = omega (arith, f.low);
      long = n ∙ f.long;
      near = omega (arith, f.near);
      fills = rw (j, e) (sym (fill_on s row o i left p w) ∙ f.fills);
    }

-- ---- the call

length-entries : (n : ℕ) (s : List ℕ) (o : ℕ) → length (entries_in n s o) ≡ n
length-entries zero s o = refl
length-entries (suc n) s o = ap suc (length-entries n s (next_at s o))

length-rows : (o : ℕ) (es : List Entry) → length (packed 4 (flat (all_numbers o es))) ≡ 16 * length es
length-rows o [] = refl
length-rows o (e ∷ es) = omega (arith, length-rows (behind o e) es)

module _ (s row : List ℕ) where
  pub read-refused : (r : Refusal) → verdict s ≡ refused r → slip_read_call byte_row s row ≡ leaving (Err r) row
  unfolding slip_read_call
  read-refused r e = rw e

  module _ (n : ℕ) (e : verdict s ≡ accepted (entries_in n s 7)) where
    pub read_small : length row / 16 < n → slip_read_call byte_row s row ≡ leaving (Err (NoRoom n)) row
    unfolding slip_read_call
    read_small l = rw (e, length-entries n s 7, lt-leb n (length row / 16) l)

    pub read-filled : n ≤ length row / 16 → slip_read_call byte_row s row ≡ leaving (Ok n) (sets row 0 (packed 4 (flat (all_numbers 7 (entries_in n s 7)))))
    unfolding slip_read_call
    read-filled l =
        let new = packed 4 (flat (all_numbers 7 (entries_in n s 7))) in
        let k : length new ≡ 16 * n = length-rows 7 (entries_in n s 7) ∙ ap (λ (x : ℕ). 16 * x) (length-entries n s 7) in
        let z : 0 + length new ≡ length new = omega arith in
        let f : sets row 0 new ≡ filled new row = sets-eq new row 0 (omega arith) ∙ ap (λ (x : ℕ). new ++ drop x row) z in
        rw (e, length-entries n s 7, le-leb n (length row / 16) l) (ap (leaving (Ok n)) (sym f))
