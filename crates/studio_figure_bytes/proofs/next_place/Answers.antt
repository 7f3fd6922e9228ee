-- `studio_figure_bytes::next_place` meets its contract.
use mathlib.Core.Path.{◌≡◌, ap}
use Prim.Native.Nat.{ℕ, ◌+◌}
use native.Mathlib.Omega.{arith}
use Rattle.studio_figure_rows.specs.Rows.{entry, sum_to}
use Rattle.studio_figure_rows.proofs.Runs.{capped-under}
use Rattle.studio_figure_bytes.proofs.next_place.Lts as lts
use Rattle.studio_figure_bytes.proofs.next_place.Reads as reads
use Rattle.studio_figure_bytes.proofs.next_place.Tie as tie
use Rattle.studio_figure_bytes.proofs.next_place.Goals as goal

-- what is known at a place of the code
abbrev Lts-After-sum-labels : Type 0
Lts-After-sum-labels = lts.After-sum tie.the-claims reads.Pre reads.Post tie.handed_clauses

-- what is known at a place of the code
abbrev Lts-After-sum-faces : Type 0
Lts-After-sum-faces = lts.After-sum2 tie.the-claims reads.Pre reads.Post tie.handed_clauses

-- what the groups of the object add up to
labels : (c : Lts-After-sum-labels) →
    let x = c.before.before.before.before in
    sum_to 2 0 x.args.groups.now x.args.p.group + c.sum-labels.result ≡ sum_to 2 0 x.args.groups.now (x.args.p.group + entry 5 4 x.args.objects.now x.args.i)
labels c =
    let a = c.args in
    let g : sum_to 2 0 a.groups.now (a.p.group + c.number.result) ≡ sum_to 2 0 a.groups.now (a.p.group + entry 5 4 a.objects.now a.i) = ap (λ (k : ℕ). sum_to 2 0 a.groups.now (a.p.group + k)) c.number.ensures.0 in
    let x = capped-under _ _ _ _ c.sum-labels.ensures (omega (arith, g, c.requires.i_bound_3.0)) in
    omega (arith, g)

faces : (c : Lts-After-sum-faces) →
    let x = c.before.before.before.before.before in
    sum_to 2 1 x.args.groups.now x.args.p.group + c.sum-faces.result ≡ sum_to 2 1 x.args.groups.now (x.args.p.group + entry 5 4 x.args.objects.now x.args.i)
faces c =
    let a = c.args in
    let g : sum_to 2 1 a.groups.now (a.p.group + c.number.result) ≡ sum_to 2 1 a.groups.now (a.p.group + entry 5 4 a.objects.now a.i) = ap (λ (k : ℕ). sum_to 2 1 a.groups.now (a.p.group + k)) c.number.ensures.0 in
    let x = capped-under _ _ _ _ c.sum-faces.ensures (omega (arith, g, c.requires.i_bound_3.1)) in
    omega (arith, g)

pub overflow_add-result-3 : goal.overflow_add-result-3
overflow_add-result-3 c = omega (arith, c.requires.i_bound_2.0, c.number-4.ensures.0)

pub number-requires-5 : goal.number-requires-5
number-requires-5 c = (omega arith, omega (arith, c.requires.i_in_bounds.0))

pub overflow_add-result-4 : goal.overflow_add-result-4
overflow_add-result-4 c = omega (arith, c.requires.i_bound_2.1, c.number-5.ensures.0)

pub overflow_add-result-5 : goal.overflow_add-result-5
overflow_add-result-5 c =
    let c10 = c.before.before.before.before.before.before.before.before.before.before.before in
    omega (arith, c.requires.i_bound_3.0, c.requires.label_bound.0, labels c10)

pub overflow_add-result-6 : goal.overflow_add-result-6
overflow_add-result-6 c =
    let c10 = c.before.before.before.before.before.before.before.before.before.before.before in
    omega (arith, c.requires.i_bound_3.1, c.requires.label_bound.1, faces c10)

pub returns : goal.returns
returns c =
    record {
      name = omega (arith, c.number-2.ensures.0);
      vertex = omega (arith, c.number-3.ensures.0);
      corner = omega (arith, c.number-4.ensures.0);
      word = omega (arith, c.number-5.ensures.0);
      group = omega (arith, c.number.ensures.0);
      label = omega (arith, labels c.before.before.before.before.before.before.before.before.before.before.before.before);
      face = omega (arith, faces c.before.before.before.before.before.before.before.before.before.before.before);
    }
