use mathlib.Core.Path.{◌≡◌, refl, subst}
use Prim.Native.Nat.{ℕ, ◌+◌, ◌-◌, ◌≤◌}
use native.Mathlib.Omega.{arith}
use mathlib.Core.List.{List}
use Rattle.shared_numbers.specs.Put.{Put}
use Rattle.shared_numbers.proofs.Put.{put-none, put_then}
use Rattle.studio_figure_rows.specs.Rows.{entry, sum_to, part, name_at}
use Rattle.studio_figure_rows.proofs.Runs.{sum-next, sum-up, sum_inside, part-is, part_length}
use Rattle.studio_figure_chunks.specs.Chunks.{group_bytes, group_of, group_in}
use Rattle.studio_figure_chunks.proofs.Chunks.{over_last, group-length}
use Rattle.studio_figure_chunks.proofs.put_groups.Goals as goal

-- what the loop knows of the sums at i
record Inside (groups : List ℕ) (first i n : ℕ) : Type 0 where
  names : sum_to 2 0 groups (first + i) + entry 2 0 groups (first + i) ≤ sum_to 2 0 groups (first + n)
  faces : sum_to 2 1 groups (first + i) + entry 2 1 groups (first + i) ≤ sum_to 2 1 groups (first + n)
  names-up : sum_to 2 0 groups first ≤ sum_to 2 0 groups (first + i)
  faces-up : sum_to 2 1 groups first ≤ sum_to 2 1 groups (first + i)

inside : (groups : List ℕ) (first i n : ℕ) → i + 1 ≤ n → Inside groups first i n
inside groups first i n h = record {
  names = sum_inside 2 0 groups (first + i) (first + n) (omega arith);
  faces = sum_inside 2 1 groups (first + i) (first + n) (omega arith);
  names-up = sum-up 2 0 groups first (first + i) (omega arith);
  faces-up = sum-up 2 1 groups first (first + i) (omega arith);
}

pub loop-i-init : goal.loop-i-init
loop-i-init c =
    let a = c.args in
    let z : a.first + 0 ≡ a.first = omega arith in
    (refl, rw z c.requires.n_in_bounds.1, rw z c.requires.n_in_bounds.2, rw z (omega arith), put-none _ _)

pub number-requires : goal.number-requires
number-requires c = (omega arith, omega arith)

pub overflow_add-end : goal.overflow_add-end
overflow_add-end c =
    let s = inside c.args.groups.now c.args.first c.loop-i.i c.args.n (omega arith) in omega (arith, c.loop-i.invariant.1, c.number.ensures.0)

pub number-requires-in-loop-i : goal.number-requires-in-loop-i
number-requires-in-loop-i c = (omega arith, omega arith)

pub overflow_add-last : goal.overflow_add-last
overflow_add-last c =
    let s = inside c.args.groups.now c.args.first c.loop-i.i c.args.n (omega arith) in omega (arith, c.loop-i.invariant.2, c.number-in-loop-i.ensures.0)

pub slice_bounds-put_group-end : goal.slice_bounds-put_group-end
slice_bounds-put_group-end c =
    let s = inside c.args.groups.now c.args.first c.loop-i.i c.args.n (omega arith) in omega (arith, c.loop-i.invariant.1, c.number.ensures.0)

pub offset_bounds-faces-place : goal.offset_bounds-faces-place
offset_bounds-faces-place c =
    let s = inside c.args.groups.now c.args.first c.loop-i.i c.args.n (omega arith) in omega (arith, c.loop-i.invariant.2, c.number-in-loop-i.ensures.0)

pub slice_bounds-put_group-end-in-loop-i : goal.slice_bounds-put_group-end-in-loop-i
slice_bounds-put_group-end-in-loop-i c =
    let s = inside c.args.groups.now c.args.first c.loop-i.i c.args.n (omega arith) in omega (arith, c.loop-i.invariant.2, c.number-in-loop-i.ensures.0)

pub put_group-next-requires : goal.put_group-next-requires
put_group-next-requires c =
    let a = c.args in
    let l = c.loop-i in
    let s = inside a.groups.now a.first l.i a.n (omega arith) in
    let k = part_length l.label (l.label + c.number.result - l.label) a.names.now (omega (arith, l.invariant.1, c.number.ensures.0)) in
    let m = part_length l.place (l.place + c.number-in-loop-i.result - l.place) a.faces.now (omega (arith, l.invariant.2, c.number-in-loop-i.ensures.0)) in
    let few = c.requires.by_index.0 l.i (omega arith) in
    (omega (arith, c.number-in-loop-i.ensures.0), omega (arith, c.number.ensures.0), omega (arith, l.invariant.3, c.number.ensures.0, c.number-in-loop-i.ensures.0))

pub loop-i-preserved : goal.loop-i-preserved
loop-i-preserved c =
    let a = c.args in
    let l = c.loop-i in
    let s = inside a.groups.now a.first l.i a.n (omega arith) in
    let d = part-is a.names.now l.label c.number.result _ _ l.invariant.1 c.number.ensures.0 in
    let e = part-is a.faces.now l.place c.number-in-loop-i.result _ _ l.invariant.2 c.number-in-loop-i.ensures.0 in
    let p = c.put_group-next in
    let put₁ = subst (λ (name : List ℕ). Put l.out l.next (group_bytes (group_of name (part l.place (l.place + c.number-in-loop-i.result - l.place) a.faces.now))) p.new.out p.result) d p.ensures in
    let put = subst (λ (faces : List ℕ). Put l.out l.next (group_bytes (group_of (name_at 2 a.groups.now a.names.now a.from (a.first + l.i)) faces)) p.new.out p.result) e put₁ in
    let k = part_length (a.from + sum_to 2 0 a.groups.now (a.first + l.i)) (entry 2 0 a.groups.now (a.first + l.i)) a.names.now (omega arith) in
    let m = part_length (sum_to 2 1 a.groups.now (a.first + l.i)) (entry 2 1 a.groups.now (a.first + l.i)) a.faces.now (omega arith) in
    let g = group-length (group_in a.names.now a.groups.now a.faces.now a.from (a.first + l.i)) in
    let z : a.first + (l.i + 1) ≡ a.first + l.i + 1 = omega arith in
    let x = sum-next 2 0 a.groups.now (a.first + l.i) in
    let y = sum-next 2 1 a.groups.now (a.first + l.i) in (
      omega arith,
      rw z (omega (arith, l.invariant.1, c.number.ensures.0)),
      rw z (omega (arith, l.invariant.2, c.number-in-loop-i.ensures.0)),
      rw z (omega (arith, l.invariant.3, put.ends)),
      rw (over_last (λ (j : ℕ). group_bytes (group_in a.names.now a.groups.now a.faces.now a.from (a.first + j))) (λ (j : ℕ). j) l.i) (put_then (omega (arith, l.invariant.3)) l.invariant.4 put),
    )

pub shape_of-out : goal.shape_of-out
shape_of-out c = c.loop-i.invariant.0

pub returns : goal.returns
returns c =
    let a = c.args in
    let l = c.loop-i in
    let e : l.i ≡ a.n = omega arith in
    rw e at l.invariant.4
