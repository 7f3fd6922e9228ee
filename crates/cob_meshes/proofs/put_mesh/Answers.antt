-- The numbers of a mesh, or nothing.
use mathlib.Core.Path.{sym, ap, ◌∙◌}
use native.Mathlib.Omega.{arith}
use Rattle.cob_rules.specs.Kinds.{is_mesh}
use Rattle.cob_meshes.proofs.Puts.{mesh-none, mesh-put, body-long}
use Rattle.cob_meshes.proofs.put_mesh.Goals as goal

pub returns-then-not-is_mesh : goal.returns-then-not-is_mesh
returns-then-not-is_mesh c = mesh-none (ap is_mesh (sym c.kind_at.ensures) ∙ sym c.is_mesh.ensures ∙ c.if-not-is_mesh.true)

pub slice_bounds-numbers_of-count : goal.slice_bounds-numbers_of-count
slice_bounds-numbers_of-count c = let x = c.requires in omega (arith, (x.stands (ap is_mesh (sym c.kind_at.ensures) ∙ sym c.is_mesh.ensures ∙ c.if-not-is_mesh.false)).rises)

pub slice_bounds-numbers_of-start : goal.slice_bounds-numbers_of-start
slice_bounds-numbers_of-start c = let x = c.requires in omega (arith, (x.stands (ap is_mesh (sym c.kind_at.ensures) ∙ sym c.is_mesh.ensures ∙ c.if-not-is_mesh.false)).rises)

pub slice_bounds-numbers_of-end : goal.slice_bounds-numbers_of-end
slice_bounds-numbers_of-end c = let x = c.requires in omega (arith, (x.stands (ap is_mesh (sym c.kind_at.ensures) ∙ sym c.is_mesh.ensures ∙ c.if-not-is_mesh.false)).inside)

pub numbers_of-m-requires : goal.numbers_of-m-requires
numbers_of-m-requires c =
    let x = c.requires in
    let y = x.stands (ap is_mesh (sym c.kind_at.ensures) ∙ sym c.is_mesh.ensures ∙ c.if-not-is_mesh.false) in
    (y.exact-is, omega (arith, body-long y, x.within), x.small)

pub put_numbers-requires : goal.put_numbers-requires
put_numbers-requires c =
    let x = c.requires in
    x.room (ap is_mesh (sym c.kind_at.ensures) ∙ sym c.is_mesh.ensures ∙ c.if-not-is_mesh.false)

pub returns : goal.returns
returns c =
    mesh-put (ap is_mesh (sym c.kind_at.ensures) ∙ sym c.is_mesh.ensures ∙ c.if-not-is_mesh.false)
    c.numbers_of-m.ensures c.put_numbers.ensures
