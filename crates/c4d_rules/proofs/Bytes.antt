-- What the file's header says of the file's size.
use mathlib.Core.Path.{◌≡◌, refl, sym, ap, ◌∙◌, subst}
use Prim.Native.Nat.{ℕ, ◌^◌, ◌<◌}
use native.Mathlib.Omega.{arith}
use mathlib.Core.List.{List, ◌++◌}
use lib.ListN.{length, take, drop, length-take, length-drop, take-append-drop}
use lib.Seq.{drop-drop}
use Rattle.shared_words.specs.Bytes.{value_be, be}
use Rattle.shared_words.proofs.Bytes.{bytes_take, bytes_drop}
use Rattle.shared_words.proofs.BigEndian.{value-be, be-value}
use Rattle.c4d_rules.specs.Layout.{form, mc4d, file_header}
use Rattle.c4d_rules.specs.Theorems.{HeaderTells, HeaderRead}

tells : (n : ℕ) (rest : List ℕ) → n < 2 ^ 32 → HeaderTells (file_header n ++ rest) n
tells n rest l = record { form-first = refl; size-next = value-be 4 n l; mc4d-next = refl }

-- a list by its first four, its next four, and the four behind them
parts : (s : List ℕ) → take 4 s ++ (take 4 (drop 4 s) ++ (take 4 (drop 8 s) ++ drop 12 s)) ≡ s
parts s =
    let c : take 4 (drop 8 s) ++ drop 12 s ≡ drop 8 s = rw (drop-drop 4 8 s) at (take-append-drop 4 (drop 8 s)) in
    let b : take 4 (drop 4 s) ++ drop 8 s ≡ drop 4 s = rw (drop-drop 4 4 s) at (take-append-drop 4 (drop 4 s)) in
    rw (c, b) (take-append-drop 4 s)

pub header_read : HeaderRead
header_read s h n l = (
  λ e.
      let w : file_header n ++ drop 12 s ≡ s = ap (λ (x : List ℕ). x ++ drop 12 s) (sym e) ∙ take-append-drop 12 s in
      subst (λ (x : List ℕ). HeaderTells x n) w (tells n (drop 12 s) l),
  λ t.
      let m = ap length t.mc4d-next in
      let four : List ℕ = take 4 (drop 4 s) in
      let k : length four ≡ 4 = omega (arith, length-take 4 (drop 8 s), length-drop 8 s, length-take 4 (drop 4 s), length-drop 4 s) in
      let z : four ≡ be 4 n =
      sym (be-value four (bytes_take 4 (drop 4 s) (bytes_drop 4 s h))) ∙ ap (λ (w : ℕ). be w (value_be four)) k ∙ ap (be 4) t.size-next in
      let w : form ++ (be 4 n ++ (mc4d ++ drop 12 s)) ≡ s = rw (t.form-first, z, t.mc4d-next) at (parts s) in
      ap (take 12) (sym w),
)
