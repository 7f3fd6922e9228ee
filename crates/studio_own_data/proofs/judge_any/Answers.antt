-- Each test of the code answers one condition.
use mathlib.Core.Path.{refl, sym, ◌∙◌}
use native.Mathlib.Omega.{arith}
use Prim.Native.Nat.{◌+◌}
use lib.Seq.{slice}
use Rattle.shared_words.specs.Bytes.{le}
use Rattle.studio_own_data.proofs.Conditions.{some-around}
use Rattle.std.proofs.lemmas.Result.{err_from_is_err_and, MatchResult-weaker}
use borrow.Author.Rules.{rules}
use Rattle.studio_own_data.proofs.Flaws.{still_ok, flawed}
use Rattle.studio_own_data.proofs.Bounds.{own_around}
use Rattle.studio_own_data.proofs.Sized.{own_of_row, sized, own_ends, exact, is-left-over, has_bad_number, has_bad_index, has_bad_father, is_fine}
use Rattle.studio_own_data.proofs.judge_any.Goals as goal

pub overflow_add-from-2 : goal.overflow_add-from-2
overflow_add-from-2 c =
    let x = c in
    let w = c.own_size in
    let z = sized x.requires.0 x.requires.1 x.requires.3 x.requires.4 (le 2 x.args.count) w.result (w.ensures _ (some-around x.args.count x.requires.2)) (still_ok c.own_size.result c.in_ok-size.ensures.cases) in
    omega (arith, own_ends z)

pub returns-then-leaves_bytes : goal.returns-then-leaves_bytes
returns-then-leaves_bytes c = λ p u h.
    let x = c in
    let w = c.own_size in
    let z = sized x.requires.0 x.requires.1 x.requires.3 x.requires.4 p.own w.result (own_around p x.args.id x.args.count u h x.args.row x.requires.3 x.requires.4 _ w.result w.ensures) (still_ok c.own_size.result c.in_ok-size.ensures.cases) in
    is-left-over p z (sym c.leaves_bytes.ensures ∙ c.if-leaves_bytes.true)

pub numbers_finite-requires : goal.numbers_finite-requires
numbers_finite-requires c =
    let x = c in
    let w = c.own_size in
    let z = sized x.requires.0 x.requires.1 x.requires.3 x.requires.4 (le 2 x.args.count) w.result (w.ensures _ (some-around x.args.count x.requires.2)) (still_ok c.own_size.result c.in_ok-size.ensures.cases) in
    (omega arith, omega (arith, own_ends z), exact z)

pub returns-then-not-numbers_finite : goal.returns-then-not-numbers_finite
returns-then-not-numbers_finite c = λ p u h.
    let x = c in
    let w = c.own_size in
    let z = sized x.requires.0 x.requires.1 x.requires.3 x.requires.4 p.own w.result (own_around p x.args.id x.args.count u h x.args.row x.requires.3 x.requires.4 _ w.result w.ensures) (still_ok c.own_size.result c.in_ok-size.ensures.cases) in
    let l = sym c.leaves_bytes.ensures ∙ c.if-leaves_bytes.false in
    has_bad_number p z l (sym (c.numbers_finite.ensures p) ∙ c.if-not-numbers_finite.true)

pub face_numbers_below-requires : goal.face_numbers_below-requires
face_numbers_below-requires c =
    let x = c in
    let w = c.own_size in
    let z = sized x.requires.0 x.requires.1 x.requires.3 x.requires.4 (le 2 x.args.count) w.result (w.ensures _ (some-around x.args.count x.requires.2)) (still_ok c.own_size.result c.in_ok-size.ensures.cases) in
    (omega arith, omega (arith, own_ends z), exact z)

pub returns-then-not-face_numbers_below : goal.returns-then-not-face_numbers_below
returns-then-not-face_numbers_below c = λ p u h.
    let x = c in
    let w = c.own_size in
    let z = sized x.requires.0 x.requires.1 x.requires.3 x.requires.4 p.own w.result (own_around p x.args.id x.args.count u h x.args.row x.requires.3 x.requires.4 _ w.result w.ensures) (still_ok c.own_size.result c.in_ok-size.ensures.cases) in
    let l = sym c.leaves_bytes.ensures ∙ c.if-leaves_bytes.false in
    let n = sym (c.numbers_finite.ensures p) ∙ c.if-not-numbers_finite.false in
    has_bad_index p z l n (sym (c.face_numbers_below.ensures p u h) ∙ c.if-not-face_numbers_below.true)

pub father_earlier-requires : goal.father_earlier-requires
father_earlier-requires c =
    let x = c in
    let w = c.own_size in
    let z = sized x.requires.0 x.requires.1 x.requires.3 x.requires.4 (le 2 x.args.count) w.result (w.ensures _ (some-around x.args.count x.requires.2)) (still_ok c.own_size.result c.in_ok-size.ensures.cases) in
    (omega arith, omega (arith, own_ends z), exact z)

pub returns-then-not-father_earlier : goal.returns-then-not-father_earlier
returns-then-not-father_earlier c = λ p u h.
    let x = c in
    let w = c.own_size in
    let z = sized x.requires.0 x.requires.1 x.requires.3 x.requires.4 p.own w.result (own_around p x.args.id x.args.count u h x.args.row x.requires.3 x.requires.4 _ w.result w.ensures) (still_ok c.own_size.result c.in_ok-size.ensures.cases) in
    let l = sym c.leaves_bytes.ensures ∙ c.if-leaves_bytes.false in
    let n = sym (c.numbers_finite.ensures p) ∙ c.if-not-numbers_finite.false in
    let b = sym (c.face_numbers_below.ensures p u h) ∙ c.if-not-face_numbers_below.false in
    has_bad_father p z l n b (sym (c.father_earlier.ensures p u h) ∙ c.if-not-father_earlier.true)

pub returns-in_err-size : goal.returns-in_err-size
returns-in_err-size c = λ p u h.
    let x = c in
    let w = c.own_size in
    let m = c.in_err-size.ensures.cases in
    let q = err_from_is_err_and c.from_residual.result c.from_residual.ensures.1 in
    rw (q.1, q.2)
    (flawed p x.args.at x.args.id (slice (x.args.at + 6) x.args.stop x.args.file.now) w.result
    (own_of_row x.args.id x.args.row x.requires.3 x.requires.4 p.own _ w.result (own_around p x.args.id x.args.count u h x.args.row x.requires.3 x.requires.4 _ w.result w.ensures) w.result refl) c.in_err-size.field-0.0 (MatchResult-weaker w.result m (λ z q. q) (λ e q. search rules)))

pub returns : goal.returns
returns c = λ p u h.
    let x = c in
    let w = c.own_size in
    let z = sized x.requires.0 x.requires.1 x.requires.3 x.requires.4 p.own w.result (own_around p x.args.id x.args.count u h x.args.row x.requires.3 x.requires.4 _ w.result w.ensures) (still_ok c.own_size.result c.in_ok-size.ensures.cases) in
    let l = sym c.leaves_bytes.ensures ∙ c.if-leaves_bytes.false in
    let n = sym (c.numbers_finite.ensures p) ∙ c.if-not-numbers_finite.false in
    let b = sym (c.face_numbers_below.ensures p u h) ∙ c.if-not-face_numbers_below.false in
    is_fine p z l n b (sym (c.father_earlier.ensures p u h) ∙ c.if-not-father_earlier.false)
