use mathlib.Core.Path.{refl, subst, ◌∙◌, ◌≡◌}
use mathlib.Core.Bool.{Bool}
use native.Mathlib.Omega.{arith}
use Rattle.shared_name_tree.specs.Names.{Grown}
use Rattle.studio_figure_rows.specs.Rows.{part, name_at}
use Rattle.studio_figure_rows.proofs.Runs.{stride, sum-next, sum_inside}
use Rattle.studio_figure_names.proofs.Gathering.{gathering_none, gathering_on, gathered-again, gathered-all}
use Rattle.studio_figure_names.proofs.gather.Goals as goal

pub loop-i-init : goal.loop-i-init
loop-i-init c =
    let s = c in
    let a = s.args in
    (gathering_none a.names.now (name_at a.width a.row.now a.names.now a.from) a.n a.nodes.now s.requires.blank.none, omega arith, refl)

pub number-len-requires : goal.number-len-requires
number-len-requires c =
    let a = c.args in
    (omega arith, omega (arith, stride a.width c.loop-i.i a.n (omega arith)))

pub add-requires : goal.add-requires
add-requires c =
    let l = c.loop-i in
    let s = c in
    let b = s.requires.blank in
    let w = sum_inside s.args.width 0 s.args.row.now l.i s.args.n (omega arith) in
    let k = c.number-len.ensures.0 in
    record {
      holds = l.invariant.0.holds;
      node = omega (arith, b.room, l.invariant.2);
      small = omega (arith, b.few);
      begins = omega (arith, l.invariant.1, k, w, b.short);
      spans = omega (arith, k, w, b.short);
      whole = omega (arith, l.invariant.1, k, w);
    }

pub returns-then-not-add : goal.returns-then-not-add
returns-then-not-add c =
    let l = c.loop-i in
    let a = c.args in
    let d = c.add in
    let x = part l.at c.number-len.result a.names.now in
    gathered-again a.names.now (name_at a.width a.row.now a.names.now a.from) a.n l.nodes d.new.nodes l.i x l.invariant.0 (omega arith)
    (rw (l.invariant.1, c.number-len.ensures.0) refl)
    (subst (λ (b : Bool). Grown a.names.now l.nodes l.i x b d.new.nodes) c.if-not-add.true d.ensures)

pub overflow_add-at : goal.overflow_add-at
overflow_add-at c =
    let l = c.loop-i in
    let a = c.args in
    omega (arith, l.invariant.1, c.number-len.ensures.0, sum_inside a.width 0 a.row.now l.i a.n (omega arith))

pub loop-i-preserved : goal.loop-i-preserved
loop-i-preserved c =
    let l = c.loop-i in
    let a = c.args in
    let d = c.add in
    let k = c.number-len in
    let x = part l.at k.result a.names.now in (
      gathering_on a.names.now (name_at a.width a.row.now a.names.now a.from) a.n l.nodes d.new.nodes l.i x l.invariant.0 (omega arith)
          (rw (l.invariant.1, k.ensures.0) refl)
          (subst (λ (b : Bool). Grown a.names.now l.nodes l.i x b d.new.nodes) c.if-not-add.false d.ensures),
      omega (arith, l.invariant.1, k.ensures.0, sum-next a.width 0 a.row.now l.i),
      d.ensures.size ∙ l.invariant.2,
    )

pub returns : goal.returns
returns c =
    let l = c.loop-i in
    let a = c.args in
    let e : l.i ≡ a.n = omega arith in
    rw e at (gathered-all a.names.now (name_at a.width a.row.now a.names.now a.from) a.n l.nodes l.i (omega arith) l.invariant.0)
