-- The vertices and the corners of a mesh, into lent rows; answers how many vertices there are, or a refusal, which leaves the rows as they were.
use native.Mathlib.Omega.{arith}
use Rattle.std.proofs.lemmas.Result.{err_from_is_err_and}
use Rattle.cob_tables.proofs.Answers.{body-stands, tables-refused, tables-of-body}
use Rattle.cob_tables.proofs.tables.Goals as goal

pub slice_bounds-put_tables-count : goal.slice_bounds-put_tables-count
slice_bounds-put_tables-count c = omega (arith, (body-stands c.ask.ensures c.in_ok-body.was).rises)

pub slice_bounds-put_tables-start : goal.slice_bounds-put_tables-start
slice_bounds-put_tables-start c = omega (arith, (body-stands c.ask.ensures c.in_ok-body.was).rises)

pub slice_bounds-put_tables-end : goal.slice_bounds-put_tables-end
slice_bounds-put_tables-end c = omega (arith, (body-stands c.ask.ensures c.in_ok-body.was).inside)

pub put_tables-requires : goal.put_tables-requires
put_tables-requires c = (body-stands c.ask.ensures c.in_ok-body.was).exact-is

pub returns-in_err-body : goal.returns-in_err-body
returns-in_err-body c =
    let both = tables-refused c.ask.ensures c.args.vertices.now c.args.corners.now c.in_err-body.was in
    let p = err_from_is_err_and c.from_residual.result c.from_residual.ensures.1 in
    rw (p.1, p.2) record { answer = both.0; rows = both.1 }

pub returns : goal.returns
returns c = let both = tables-of-body c.ask.ensures c.args.vertices.now c.args.corners.now c.in_ok-body.was c.put_tables.ensures in record { answer = both.0; rows = both.1 }
