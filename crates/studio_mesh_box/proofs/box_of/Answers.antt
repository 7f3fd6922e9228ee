use mathlib.Core.Path.{◌≡◌, refl, ap, ◌∙◌}
use Prim.Native.Nat.{ℕ, ◌+◌, ◌*◌}
use native.Mathlib.Omega.{arith}
use lib.ListN.{drop}
use Rattle.shared_words.specs.Bytes.{numbers}
use Rattle.studio_rules.specs.Box.{bounding_box_of}
use Rattle.studio_mesh_box.proofs.Box.{box-one, box-more, vertex-finite}
use Rattle.studio_mesh_box.proofs.box_of.Goals as goal

pub vertex_at-first-requires : goal.vertex_at-first-requires
vertex_at-first-requires c =
    let x = c in
    let f = vertex-finite x.args.s.now x.args.at x.args.n x.requires.2 0 x.args.at (omega arith) (omega arith) in
    (omega arith, f.0, f.1, f.2)

pub loop-k-init : goal.loop-k-init
loop-k-init c =
    let x = c in
    rw c.vertex_at-first.ensures (box-one x.args.s.now x.args.at x.args.n (omega arith))

pub vertex_at-requires : goal.vertex_at-requires
vertex_at-requires c =
    let x = c in
    let f = vertex-finite x.args.s.now x.args.at x.args.n x.requires.2 c.loop-k.k (x.args.at + 12 * c.loop-k.k) c.loop-k-test.true refl in
    (omega arith, f.0, f.1, f.2)

pub with_vertex-b-requires : goal.with_vertex-b-requires
with_vertex-b-requires c = tt

pub loop-k-preserved : goal.loop-k-preserved
loop-k-preserved c =
    let x = c in
    let l = c.loop-k in
    rw (c.with_vertex-b.ensures, l.invariant, c.vertex_at.ensures) (box-more x.args.s.now x.args.at x.args.n l.k (omega arith) c.loop-k-test.true)

pub returns : goal.returns
returns c =
    let e : c.loop-k.k ≡ c.args.n = omega arith in
    c.loop-k.invariant ∙ ap (λ (i : ℕ). bounding_box_of i (numbers 4 (3 * c.args.n) (drop c.args.at c.args.s.now))) e
