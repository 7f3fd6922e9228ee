-- The sums byte by byte: each byte is a part of its own.
use mathlib.Core.Path.{◌≡◌, sym, ap, ◌∙◌}
use mathlib.Core.List.{List, [], ◌∷◌, ◌++◌, append-nil, append_assoc}
use Prim.Native.Nat.{ℕ, ◌+◌, ◌*◌, ◌%◌}
use native.Mathlib.Nat.{add-mod-mod}
use native.Mathlib.Omega.{arith}
use Rattle.slip_sums.specs.declared.Sum.{Sum}
use Rattle.slip_sums.specs.Fletcher.{sum_of, with_byte, with_bytes, ByteByByte}
use Rattle.slip_sums.specs.Joined.{join}
use Rattle.slip_sums.proofs.Remainders.{sum_same}
use Rattle.slip_sums.proofs.Joined.{join_law}

one_byte : (a : Sum) (b : ℕ) → with_byte a b ≡ join a (sum_of (b ∷ []))
one_byte a b =
    let lone : b + 0 ≡ b = omega arith in
    let second : a.second + (b + 0) % 255 + 1 * a.first ≡ a.second + a.first + b % 255 = rw lone (omega arith) in
    sum_same
    (omega arith)
    (sym (add-mod-mod a.first b 255) ∙ ap (λ (x : ℕ). (a.first + x % 255) % 255) (sym lone))
    (add-mod-mod a.second (a.first + b) 255 ∙ ap (λ (x : ℕ). x % 255) (omega arith) ∙ sym (add-mod-mod (a.second + a.first) b 255) ∙ ap (λ (x : ℕ). x % 255) (omega arith))

with-bytes : (xs s : List ℕ) → with_bytes (sum_of xs) s ≡ sum_of (xs ++ s)
with-bytes xs [] = ap sum_of (sym (append-nil xs))
with-bytes xs (b ∷ s) =
    ap (λ (x : Sum). with_bytes x s) (one_byte (sum_of xs) b ∙ sym (join_law xs (b ∷ []))) ∙
    with-bytes (xs ++ (b ∷ [])) s ∙
    ap sum_of (append_assoc xs (b ∷ []) s)

pub byte_by_byte : ByteByByte
byte_by_byte s = with-bytes [] s
