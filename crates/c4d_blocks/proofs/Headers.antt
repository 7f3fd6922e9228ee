-- What a header tells, by the numbers that stand in the file; and when its block is whole. For every kind of header.
use mathlib.Core.Path.{◌≡◌, sym, ap, ◌∙◌}
use Prim.Native.Nat.{ℕ, ◌+◌, ◌*◌, ◌/◌, ◌%◌, ◌<◌, ◌≤◌}
use native.Mathlib.Omega.{arith}
use mathlib.Core.List.{List, [], ◌∷◌}
use mathlib.Core.Option.{some}
use lib.Dec.{leb}
use lib.ListN.{length, take, drop, get_or, length-drop}
use lib.Seq.{get_or-drop, slice, length-slice, length-take-le, take-take, take_all}
use borrow.Author.Tests.{le-leb, lt-leb}
use Rattle.shared_words.specs.declared.Refusal.TheVariants.{Overrun}
use Rattle.shared_words.specs.Bytes.{value_be, be_at}
use Rattle.shared_words.proofs.Conditions.{broken-here, broken-later, unbroken}
use Rattle.shared_numbers.proofs.Slices.{drop-slice, take-slice, front-slice}
use Rattle.shared_big_endian.proofs.At.{word_is, long-is}
use Rattle.c4d_rules.specs.Blocks.{Header, width, identifier, told}
use Rattle.c4d_rules.specs.Read.{block_at}
use Rattle.c4d_blocks.specs.Headers.{block_in, overrun, Tells, Headed}

-- ---- a header of four bytes, read as one number

one-is : (t : List ℕ) → 1 ≤ length t → value_be (take 1 t) ≡ get_or t 0 0
one-is [] l = absurd (omega arith)
one-is (a ∷ t) l = omega arith

three-is : (t : List ℕ) → 3 ≤ length t → value_be (take 3 t) ≡ 65536 * get_or t 0 0 + 256 * get_or t 1 0 + get_or t 2 0
three-is [] l = absurd (omega arith)
three-is (a ∷ []) l = absurd (omega arith)
three-is (a ∷ b ∷ []) l = absurd (omega arith)
three-is (a ∷ b ∷ c ∷ t) l = omega arith

module _ (s : List ℕ) (at : ℕ) (l : at + 4 ≤ length s) (b : (i : ℕ) → get_or s i 0 < 256) where
  byte_at : (k i : ℕ) → get_or (drop k s) i 0 ≡ get_or s (k + i) 0
  byte_at k i = get_or-drop k s i 0

  -- a byte and three
  pub first_byte : be_at at 4 s / 16777216 ≡ be_at at 1 s
  first_byte =
      let z : get_or (drop at s) 0 0 ≡ get_or s at 0 = byte_at at 0 ∙ ap (λ (k : ℕ). get_or s k 0) (omega arith) in
      omega (arith, one-is (drop at s) (omega (arith, length-drop at s)), long-is s at l, b (at + 1), b (at + 2), b (at + 3))

  pub other_bytes : be_at at 4 s % 16777216 ≡ be_at (at + 1) 3 s
  other_bytes =
      let t = drop (at + 1) s in
      let p : get_or t 0 0 ≡ get_or s (at + 1) 0 = byte_at (at + 1) 0 ∙ ap (λ (k : ℕ). get_or s k 0) (omega arith) in
      let q : get_or t 1 0 ≡ get_or s (at + 2) 0 = byte_at (at + 1) 1 ∙ ap (λ (k : ℕ). get_or s k 0) (omega arith) in
      let r : get_or t 2 0 ≡ get_or s (at + 3) 0 = byte_at (at + 1) 2 ∙ ap (λ (k : ℕ). get_or s k 0) (omega arith) in
      omega (arith, three-is t (omega (arith, length-drop (at + 1) s)), long-is s at l, b (at + 1), b (at + 2), b (at + 3))

  -- two and two
  pub first_word : be_at at 4 s / 65536 ≡ be_at at 2 s
  first_word = omega (arith, word_is s at (omega arith), long-is s at l, b (at + 2), b (at + 3))

  pub second_word : be_at at 4 s % 65536 ≡ be_at (at + 2) 2 s
  second_word =
      let z : at + 2 + 1 ≡ at + 3 = omega arith in
      let w : be_at (at + 2) 2 s ≡ 256 * get_or s (at + 2) 0 + get_or s (at + 3) 0 = rw z at (word_is s (at + 2) (omega arith)) in
      omega (arith, long-is s at l, b (at + 2), b (at + 3))

-- ---- a part of the file

pub slice_is : (a n : ℕ) (s : List ℕ) → a + n ≤ length s → slice a (a + n) s ≡ take n (drop a s)
slice_is a n s l =
    let k : length (slice a (a + n) s) ≤ n = omega (arith, length-slice a (a + n) s l) in
    sym (take_all n (slice a (a + n) s) k) ∙ front-slice n a (a + n) s (omega arith)

-- ---- for every kind of header

module _ (h : Header) (s : List ℕ) (at to : ℕ) (m : to ≤ length s) where
  -- ---- too few bytes for a header

  pub cut_head : at ≤ to → to < at + width h → overrun h s at to ≡ some (Overrun at)
  cut_head k l =
      let n = length-slice at to s m in
      broken-here (leb (width h) (length (slice at to s))) (Overrun at) _ (lt-leb (width h) (length (slice at to s)) (omega arith))

  -- ---- what the header tells

  module _ (l : at + width h ≤ to) where
    pub id-at : identifier h (block_in h s at to).head ≡ be_at at h.identifier_bytes s
    unfolding block_at
    id-at =
        ap value_be (take-take h.identifier_bytes (width h) (slice at to s) (omega arith) ∙ front-slice h.identifier_bytes at to s (omega arith))

    size-bytes : drop h.identifier_bytes (take (width h) (slice at to s)) ≡ take h.size_bytes (drop (at + h.identifier_bytes) s)
    size-bytes =
        let i = h.identifier_bytes in
        let e : at + width h ≡ at + i + h.size_bytes = omega arith in
        ap (drop i) (take-slice (width h) at to s l) ∙ drop-slice i at (at + width h) s ∙
        ap (λ (k : ℕ). slice (at + i) k s) e ∙ slice_is (at + i) h.size_bytes s (omega arith)

    pub told_at : told h (block_in h s at to).head ≡ be_at (at + h.identifier_bytes) h.size_bytes s
    unfolding block_at
    told_at = ap value_be size-bytes

    -- ---- the block, whose size is told

    module _ (len : ℕ) (q : len ≡ told h (block_in h s at to).head) where
      pub cut-body : to < at + (width h + len) → overrun h s at to ≡ some (Overrun at)
      cut-body k =
          let n = length-slice at to s m in
          broken-later (leb (width h) (length (slice at to s))) (Overrun at) _ (le-leb (width h) (length (slice at to s)) (omega arith)) ∙
          broken-here (leb (width h + told h (block_in h s at to).head) (length (slice at to s))) (Overrun at) []
          (lt-leb (width h + told h (block_in h s at to).head) (length (slice at to s)) (omega arith))

      body-long : at + (width h + len) ≤ to → length (block_in h s at to).body ≡ told h (block_in h s at to).head
      unfolding block_at
      body-long k =
          length-take-le (told h (block_in h s at to).head) (drop (width h) (slice at to s))
          (omega (arith, length-drop (width h) (slice at to s), length-slice at to s m))

      pub is_whole : (id : ℕ) → id ≡ identifier h (block_in h s at to).head → at + (width h + len) ≤ to →
          Tells h s at to id len
      is_whole id i k =
          let n = length-slice at to s m in
          record {
            whole = unbroken _ (
              le-leb (width h) (length (slice at to s)) (omega arith),
              (le-leb (width h + told h (block_in h s at to).head) (length (slice at to s)) (omega arith), tt),
            );
            id-is = i;
            told_is = q;
            len_is = q ∙ sym (body-long k);
            fits = k;
          }

-- ---- the number that an object's header is read as

-- four bytes hold it only where there is one
pub head_there : {s : List ℕ} {at to head : ℕ} → Headed s at to head → head < 0x1_0000_0000 → at + 4 ≤ to
head_there {s} {at} {to} {head} h k = let absent : to < at + 4 → ⊥ = λ w. let e = h.absent w in omega arith in omega arith
