-- The length field of the chunk at a place: setting it changes the bytes there and nothing around them.
use mathlib.Core.Path.{◌≡◌, refl, ap, ◌∙◌}
use Prim.Native.Nat.{ℕ, ◌+◌, ◌≤◌}
use native.Mathlib.Omega.{arith}
use mathlib.Core.List.{List, ◌++◌, append_assoc}
use lib.ListN.{length, take, length-append}
use lib.Seq.{take-append-add, drop-append-add, take-append-le, drop-append-le}
use Rattle.studio_rules.specs.Layout.{header, size, bytes, with_length}
use Rattle.studio_rules.proofs.Sound.{length-bytes}
use Rattle.claim_turned.proofs.Context.{Context, behind, inner, fill}

field-behind : (x y : List ℕ) (o o' n : ℕ) → o ≡ length x + o' → with_length o n (x ++ y) ≡ x ++ with_length o' n y
field-behind x y o o' n h =
    let e : o + 2 ≡ length x + (o' + 2) = omega arith in
    let f : o + 6 ≡ length x + (o' + 6) = omega arith in
    rw (e, f, take-append-add x y (o' + 2), drop-append-add x y (o' + 6), append_assoc x)

field-within : (x y : List ℕ) (o n : ℕ) → o + 6 ≤ length x → with_length o n (x ++ y) ≡ with_length o n x ++ y
field-within x y o n h =
    rw (take-append-le (o + 2) x y (omega arith), drop-append-le (o + 6) x y h, append_assoc (take (o + 2) x))

-- how many bytes stand before the place
abbrev pub offset_in : Context → ℕ
offset_in (behind a) = size a
offset_in (inner a id own c rest) = size a + (6 + length own + offset_in c)

pub offset_within : (c : Context) (x : List ℕ) → offset_in c + length x ≤ length (fill c x)
offset_within (behind a) x = omega (arith, length-append (bytes a) x, length-bytes a)
offset_within (inner a id own c rest) x =
    omega (arith, offset_within c x, length-bytes a, length-append (bytes a) (header id (6 + length own + length (fill c x)) ++ (own ++ (fill c x ++ bytes rest))), length-append own (fill c x ++ bytes rest), length-append (fill c x) (bytes rest))

fill-length : (c : Context) (x y : List ℕ) → length x ≡ length y → length (fill c x) ≡ length (fill c y)
fill-length (behind a) x y e = omega (arith, length-append (bytes a) x, length-append (bytes a) y)
fill-length (inner a id own c rest) x y e = simp (length-append, fill-length c x y e) (omega arith)

pub field_fill : (c : Context) (id m n : ℕ) (x : List ℕ) → with_length (offset_in c) n (fill c (header id m ++ x)) ≡ fill c (header id n ++ x)
field_fill (behind a) id m n x = field-behind (bytes a) (header id m ++ x) (size a) 0 n (omega (arith, length-bytes a))
field_fill (inner a id₁ own c rest) id m n x =
    let y : List ℕ = fill c (header id m ++ x) in
    let k : ℕ = 6 + length own + length y in
    let l : length (fill c (header id n ++ x)) ≡ length y = fill-length c (header id n ++ x) (header id m ++ x) refl in
    field-behind (bytes a) (header id₁ k ++ (own ++ (y ++ bytes rest))) (size a + (6 + length own + offset_in c)) (6 + length own + offset_in c) n (omega (arith, length-bytes a)) ∙
    ap (λ (s : List ℕ). bytes a ++ s)
    (field-behind (header id₁ k) (own ++ (y ++ bytes rest)) (6 + length own + offset_in c) (length own + offset_in c) n (omega arith) ∙
    ap (λ (s : List ℕ). header id₁ k ++ s)
    (field-behind own (y ++ bytes rest) (length own + offset_in c) (offset_in c) n refl ∙
    ap (λ (s : List ℕ). own ++ s) (field-within y (bytes rest) (offset_in c) n (omega (arith, offset_within c (header id m ++ x))))) ∙
    rw (field_fill c id m n x, l))
