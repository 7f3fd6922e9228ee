-- The three numbers of the header.
use mathlib.Core.Path.{sym, ap, ◌∙◌}
use mathlib.Core.Bool.{false≢true}
use Prim.Native.Nat.{ℕ, ◌-◌}
use native.Mathlib.Omega.{arith}
use lib.Dec.{eqb}
use lib.ListN.{length}
use borrow.Author.Tests.{eqb-true, leb-true}
use Rattle.shared_words.proofs.Bytes.{bytes-all}
use Rattle.c4d_check.proofs.Form.{last_tells}
use Rattle.c4d_check.proofs.is_form.Goals.{then-file-ge12, else-file-ge12, then-long_at-eq-FORM, else-long_at-eq-FORM}
use Rattle.c4d_check.proofs.is_form.Goals as goal

pub returns-then-long_at-file-clause-is : goal.returns-then-long_at-file-clause-is
returns-then-long_at-file-clause-is c =
    let s = c.args.file.now in
    let b = bytes-all s (λ i. omega (arith, c.type_inv.file i)) in
    elim c.if-long_at-eq-FORM.branch [
      | then-long_at-eq-FORM w ↦ elim c.if-file-ge12.branch [
        | then-file-ge12 v ↦
            ap (λ (x : ℕ). eqb x 0x4D43_3444) c.long_at-then-long_at-file.ensures.is ∙
            sym (last_tells s b (length s - 8) (omega arith) v.if-file-ge12.true
            (sym v.long_at.ensures.is ∙ eqb-true v.long_at.result 0x464F_524D (sym v.value-is ∙ w.if-long_at-eq-FORM.true))
            (sym w.long_at-then-long_at-eq-FORM.ensures.is ∙ eqb-true w.long_at-then-long_at-eq-FORM.result (length s - 8) (sym w.value-is ∙ c.if-long_at-file.true)))
        | else-file-ge12 v ↦ let l = leb-true 12 (length s) (sym v.value-is ∙ w.if-long_at-eq-FORM.true) in absurd (omega (arith, l, v.if-file-ge12.false))
      ]
      | else-long_at-eq-FORM w ↦ absurd (false≢true (sym (w.value-is ∙ w.if-long_at-eq-FORM.false) ∙ c.if-long_at-file.true))
    ]
