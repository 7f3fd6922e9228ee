-- `studio_figure_chunks::put_smoothing` meets its contract.
use mathlib.Core.Path.{sym, subst, ◌∙◌}
use Rattle.std.proofs.lemmas.Bool.{eqb-true, eqb-false}
use Prim.Native.Nat.{ℕ}
use native.Mathlib.Omega.{arith}
use mathlib.Core.List.{List}
use lib.ListN.{length}
use Rattle.shared_words.proofs.Bytes.{length-packed}
use Rattle.shared_numbers.specs.Put.{Put}
use Rattle.shared_numbers.proofs.Put.{put-none, put_then}
use Rattle.studio_figure_chunks.proofs.Chunks.{over-le, smoothing_bytes, no_words, words_are}
use Rattle.studio_figure_chunks.proofs.put_smoothing.Goals as goal

pub returns-then-is_empty : goal.returns-then-is_empty
returns-then-is_empty c = rw (no_words c.args.words.now (eqb-true _ _ (sym c.is_empty.ensures ∙ c.if-is_empty.true))) (put-none c.args.out.now c.args.at)

pub put_header-own-requires : goal.put_header-own-requires
put_header-own-requires c =
    let w = words_are (length c.args.words.now) (eqb-false _ _ (sym c.is_empty.ensures ∙ c.if-is_empty.false)) in
    (omega arith, omega arith)

pub put_numbers-requires : goal.put_numbers-requires
put_numbers-requires c = rw (over-le 4 c.args.words.now) (omega (arith, length-packed 4 c.args.words.now, words_are (length c.args.words.now) (eqb-false _ _ (sym c.is_empty.ensures ∙ c.if-is_empty.false))))

pub returns : goal.returns
returns c =
    let a = c.args in
    let w = words_are (length a.words.now) (eqb-false _ _ (sym c.is_empty.ensures ∙ c.if-is_empty.false)) in
    let p = c.put_numbers in
    subst (λ (new : List ℕ). Put a.out.now a.at new p.new.out p.result) (sym (smoothing_bytes a.words.now (eqb-false _ _ (sym c.is_empty.ensures ∙ c.if-is_empty.false))))
    (rw (← over-le 4 a.words.now) (put_then (omega arith) c.put_header-own.ensures p.ensures))
