use native.Mathlib.Omega.{arith}
use Rattle.studio_figure_rows.proofs.Runs.{sum-next, sum_inside}
use Rattle.studio_figure_objects.specs.Sizes.{object_bytes}
use Rattle.studio_figure_objects.proofs.Sizes.{sizing_none, sizing_on, sizing_left, sizing_all}
use Rattle.studio_figure_objects.proofs.objects_size.Goals as goal

pub loop-i-init : goal.loop-i-init
loop-i-init c =
    let a = c.args in
    (omega arith, sizing_none (object_bytes a.objects.now a.groups.now) a.first a.n (omega arith))

pub returns-then-size-gt-LIMIT : goal.returns-then-size-gt-LIMIT
returns-then-size-gt-LIMIT c =
    let l = c.loop-i in
    let a = c.args in
    sizing_left (object_bytes a.objects.now a.groups.now) a.first a.n l.i l.size c.if-size-gt-LIMIT.true l.invariant.1

pub object_size-size-requires : goal.object_size-size-requires
object_size-size-requires c =
    let a = c.args in
    (omega arith, c.loop-i.invariant.0, omega (arith, c.loop-i.invariant.0, sum_inside 5 4 a.objects.now c.loop-i.i a.n (omega arith)))

pub overflow_add-size : goal.overflow_add-size
overflow_add-size c = omega (arith, c.object_size-size.ensures.1)

pub number-group-requires : goal.number-group-requires
number-group-requires c = (omega arith, omega arith)

pub overflow_add-group : goal.overflow_add-group
overflow_add-group c =
    let a = c.args in
    omega (arith, c.loop-i.invariant.0, c.number-group.ensures.0, sum_inside 5 4 a.objects.now c.loop-i.i a.n (omega arith))

pub loop-i-preserved : goal.loop-i-preserved
loop-i-preserved c =
    let l = c.loop-i in
    let a = c.args in (
      omega (arith, l.invariant.0, c.number-group.ensures.0, sum-next 5 4 a.objects.now l.i),
      sizing_on (object_bytes a.objects.now a.groups.now) a.first a.n l.i l.size c.object_size-size.result (omega arith) c.if-size-gt-LIMIT.false l.invariant.1 c.object_size-size.ensures.0 c.object_size-size.ensures.1,
    )

pub returns : goal.returns
returns c =
    let l = c.loop-i in
    let a = c.args in
    sizing_all (object_bytes a.objects.now a.groups.now) a.first a.n l.i l.size (omega arith) l.invariant.1
