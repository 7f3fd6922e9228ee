-- How many vertices and faces a mesh has, as two numbers into a lent row; or a refusal, which leaves the row as it was.
use native.Mathlib.Omega.{arith}
use Rattle.std.proofs.lemmas.Result.{err_from_is_err_and}
use Rattle.cob_tables.proofs.Answers.{body-stands, sizes-refused, sizes-of-body}
use Rattle.cob_tables.proofs.sizes.Goals as goal

pub slice_bounds-put_sizes-count : goal.slice_bounds-put_sizes-count
slice_bounds-put_sizes-count c = omega (arith, (body-stands c.ask.ensures c.in_ok-body.was).rises)

pub slice_bounds-put_sizes-start : goal.slice_bounds-put_sizes-start
slice_bounds-put_sizes-start c = omega (arith, (body-stands c.ask.ensures c.in_ok-body.was).rises)

pub slice_bounds-put_sizes-end : goal.slice_bounds-put_sizes-end
slice_bounds-put_sizes-end c = omega (arith, (body-stands c.ask.ensures c.in_ok-body.was).inside)

pub put_sizes-requires : goal.put_sizes-requires
put_sizes-requires c = (body-stands c.ask.ensures c.in_ok-body.was).exact-is

pub returns-in_err-body : goal.returns-in_err-body
returns-in_err-body c =
    let both = sizes-refused c.ask.ensures _ c.in_err-body.was in
    let p = err_from_is_err_and c.from_residual.result c.from_residual.ensures.1 in
    rw (p.1, p.2) record { answer = both.0; row = both.1 }

pub returns : goal.returns
returns c = let both = sizes-of-body c.ask.ensures _ c.in_ok-body.was (c.put_sizes.ensures.answer, c.put_sizes.ensures.row) in record { answer = both.0; row = both.1 }
