-- One byte of a length field set to another value puts another value into the field.
use mathlib.Core.Path.{◌≡◌, sym, ap, ◌∙◌}
use Prim.Native.Nat.{ℕ, zero, suc, ◌+◌, ◌^◌, ◌<◌, ◌≤◌}
use native.Mathlib.Omega.{arith}
use mathlib.Core.List.{List, [], ◌∷◌, ◌++◌}
use lib.ListN.{length, take, drop, take-append-drop, length-drop, get_or, set, length-set}
use lib.Seq.{length-take-le, drop-drop, take-set-le, drop-set-lt, get_or-set_same}
use Rattle.shared_words.specs.Bytes.{value, le, Bytes}
use Rattle.shared_words.proofs.Bytes.{bytes_take, bytes_drop, le-value, taken_small}
use Rattle.claim_turned.specs.Turned.{ByteTurned}
use Rattle.studio_rules.specs.Layout.{with_length}
use Rattle.claim_turned.proofs.Chunk.{old-length, field-within}

bytes-set : (s : List ℕ) (i b : ℕ) → Bytes s → b < 256 → Bytes (set s i b)
bytes-set [] i b h l = h
bytes-set (a ∷ s) zero b h l = (l, h.1)
bytes-set (a ∷ s) (suc i) b h l = (h.0, bytes-set s i b h.1 l)

-- four bytes are those of their value
four_bytes : (s : List ℕ) → Bytes s → 4 ≤ length s → le 4 (value (take 4 s)) ++ drop 4 s ≡ s
four_bytes s h l =
    let v : le 4 (value (take 4 s)) ≡ take 4 s = ap (λ (k : ℕ). le k (value (take 4 s))) (sym (length-take-le 4 s l)) ∙ le-value (take 4 s) (bytes_take 4 s h) in
    ap (λ (x : List ℕ). x ++ drop 4 s) v ∙ take-append-drop 4 s

-- a file that differs from s in a length field only is s with another value there
field-set : (o : ℕ) (s s' : List ℕ) → Bytes s' → o + 6 ≤ length s' → take (o + 2) s' ≡ take (o + 2) s → drop (o + 6) s' ≡ drop (o + 6) s →
    s' ≡ with_length o (value (take 4 (drop (o + 2) s'))) s
field-set o s s' b h e f =
    let k : o + 2 + 4 ≡ o + 6 = omega arith in
    let g : drop 4 (drop (o + 2) s') ≡ drop (o + 6) s = drop-drop 4 (o + 2) s' ∙ ap (λ (k : ℕ). drop k s') k ∙ f in
    let v : List ℕ = le 4 (value (take 4 (drop (o + 2) s'))) in
    let q : v ++ drop (o + 6) s ≡ drop (o + 2) s' = rw (← g) (four_bytes (drop (o + 2) s') (bytes_drop (o + 2) s' b) (omega (arith, length-drop (o + 2) s'))) in
    sym (take-append-drop (o + 2) s') ∙ ap (λ (x : List ℕ). take (o + 2) s' ++ x) (sym q) ∙ ap (λ (x : List ℕ). x ++ (v ++ drop (o + 6) s)) e

pub byte_turned : ByteTurned
byte_turned s kids i r are_bytes reads in_list j b j-small b-small other =
    let o : ℕ = r.offset in
    let s' : List ℕ = set s (o + 2 + j) b in
    let n : ℕ = value (take 4 (drop (o + 2) s')) in
    let l : o + 6 ≤ length s = field-within s kids i r are_bytes reads in_list in
    let bs = bytes-set s (o + 2 + j) b are_bytes b-small in
    let is : s' ≡ with_length o n s = field-set o s s' bs (omega (arith, length-set s (o + 2 + j) b)) (take-set-le (o + 2) s (o + 2 + j) b (omega arith)) (drop-set-lt (o + 6) s (o + 2 + j) b (omega arith)) in
    let small : n < 2 ^ 32 = taken_small 4 (drop (o + 2) s') (bytes_drop (o + 2) s' bs) in (
      n,
      record {
        are_bytes = are_bytes;
        reads = reads;
        in_list = in_list;
        in_field = small;
        another = λ e. other (sym (get_or-set_same s (o + 2 + j) b 0 (omega arith)) ∙ ap (λ (x : List ℕ). get_or x (o + 2 + j) 0) (is ∙ ap (λ (m : ℕ). with_length o m s) e ∙ old-length s kids i r are_bytes reads in_list));
      },
      is,
    )
