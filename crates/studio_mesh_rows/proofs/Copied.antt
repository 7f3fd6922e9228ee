-- Numbers of the file, given out as bytes: they are the bytes that stand there.
use mathlib.Core.Path.{◌≡◌, ap, ◌∙◌}
use mathlib.Core.List.{List, ◌++◌}
use Prim.Native.Nat.{ℕ, ◌+◌, ◌*◌, ◌≤◌}
use native.Mathlib.Omega.{arith}
use lib.ListN.{length, take, drop, length-drop}
use lib.Seq.{drop-drop, take-add}
use Rattle.shared_words.specs.Bytes.{value, le, packed, numbers, Bytes}
use Rattle.studio_rules.specs.OwnData.{corners}
use Rattle.shared_words.proofs.Bytes.{bytes_drop, packed_append}
use Rattle.shared_words.proofs.Numbers.{front, numbers-bytes}
use Rattle.shared_numbers.specs.Numbers.{word_at, long_at}
use Rattle.studio_scan.proofs.Lists.{faces-more}

-- ---- corners

-- the corners of a face are its first three words, or a 4-byte number and a word
corners_are : (s : List ℕ) → corners 1 s ≡ numbers 2 3 s
corners_are s = rw (drop-drop 2 2 s)

face-bytes : (s : List ℕ) → Bytes s → 6 ≤ length s → packed 2 (corners 1 s) ≡ le 4 (value (take 4 s)) ++ le 2 (value (take 2 (drop 4 s)))
face-bytes s b h =
    let a = front 4 s b (omega arith) in
    let w = front 2 (drop 4 s) (bytes_drop 4 s b) (omega (arith, length-drop 4 s)) in
    ap (packed 2) (corners_are s) ∙ numbers-bytes 2 3 s b h ∙ take-add 4 2 s ∙ cc

-- one face more
pub face-bytes-more : (s : List ℕ) (at i : ℕ) → Bytes s → at + 8 * i + 6 ≤ length s → (a c : ℕ) → a ≡ long_at s (at + 8 * i) → c ≡ word_at s (at + 8 * i + 4) →
    packed 2 (corners (i + 1) (drop at s)) ≡ packed 2 (corners i (drop at s)) ++ (le 4 a ++ le 2 c)
unfolding long_at word_at
face-bytes-more s at i b h a c e g =
    let f = at + 8 * i in
    let l : 6 ≤ length (drop f s) = omega (arith, length-drop f s) in
    rw (e, g, faces-more s at i, packed_append 2 (corners i (drop at s)) (corners 1 (drop f s)), face-bytes (drop f s) (bytes_drop f s b) l, drop-drop 4 f s)
