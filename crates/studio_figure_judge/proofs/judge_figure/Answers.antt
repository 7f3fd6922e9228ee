-- The rows, then the names, the objects and the size of what they give.
use Rattle.std.proofs.lemmas.Result.{err_from_is_err_and}
use mathlib.Core.Path.{◌≡◌, sym, ap, ◌∙◌}
use Prim.Native.Nat.{◌/◌}
use native.Mathlib.Omega.{arith}
use lib.ListN.{length}
use Rattle.studio_figure_rules.specs.Described.{Flat}
use Rattle.studio_figure_rows.specs.Rows.{sum_to}
use Rattle.studio_figure_rows.specs.Given.{given}
use Rattle.studio_figure_rows.specs.Same.{Fits}
use Rattle.studio_figure_judge.proofs.Whole.{fits_told, misfits, names-refused, objects-refused, sized}
use Rattle.studio_figure_judge.proofs.judge_figure.Goals as goal

-- as many groups as the objects have are there
faces-inside : (r : Flat) → Fits r → sum_to 2 1 r.groups (sum_to 5 4 r.objects (length r.objects / 5)) ≡ length r.faces
faces-inside r f =
    let e : sum_to 5 4 r.objects (length r.objects / 5) ≡ length r.groups / 2 = omega (arith, f.groups) in
    ap (sum_to 2 1 r.groups) e ∙ sym f.faces

pub judge_all_names-requires : goal.judge_all_names-requires
judge_all_names-requires c =
    let a = c.args in
    let r = given a.rows.now in
    let f = fits_told r c.in_ok-fits.ensures in
    omega (arith, f.names)

pub judge_all_objects-requires : goal.judge_all_objects-requires
judge_all_objects-requires c =
    let a = c.args in
    let r = given a.rows.now in
    let f = fits_told r c.in_ok-fits.ensures in
    record {
      objects_in_bounds = (omega (arith, f.vertices), omega (arith, f.corners));
      objects_in_bounds_2 = (omega (arith, f.groups), omega (arith, faces-inside r f));
    }

pub judge_size-requires : goal.judge_size-requires
judge_size-requires c =
    let a = c.args in
    let r = given a.rows.now in
    let f = fits_told r c.in_ok-fits.ensures in
    (omega (arith, f.groups), omega (arith, f.names))

pub returns-in_err-fits : goal.returns-in_err-fits
returns-in_err-fits c =
    let a = c.args in
    let r = given a.rows.now in
    let p = err_from_is_err_and c.from_residual.result c.from_residual.ensures.1 in
    rw (p.1, p.2) (misfits r a.room _ c.in_err-fits.ensures)

pub returns-in_err-judge_all_names : goal.returns-in_err-judge_all_names
returns-in_err-judge_all_names c =
    let a = c.args in
    let r = given a.rows.now in
    let b = a.rows.now.floats in
    let p = err_from_is_err_and c.from_residual-in_err-judge_all_names.result c.from_residual-in_err-judge_all_names.ensures.1 in
    rw (p.1, p.2) (names-refused r a.room b c.in_ok-fits.ensures _ c.in_err-judge_all_names.ensures)

pub returns-in_err-judge_all_objects : goal.returns-in_err-judge_all_objects
returns-in_err-judge_all_objects c =
    let a = c.args in
    let r = given a.rows.now in
    let b = a.rows.now.floats in
    let p = err_from_is_err_and c.from_residual-in_err-judge_all_objects.result c.from_residual-in_err-judge_all_objects.ensures.1 in
    rw (p.1, p.2) (objects-refused r a.room b c.in_ok-fits.ensures c.in_ok-judge_all_names.ensures _ c.in_err-judge_all_objects.ensures)

pub returns : goal.returns
returns c =
    let a = c.args in
    let r = given a.rows.now in
    let b = a.rows.now.floats in
    c.judge_size.ensures ∙ sized r a.room b c.in_ok-fits.ensures c.in_ok-judge_all_names.ensures c.in_ok-judge_all_objects.ensures
