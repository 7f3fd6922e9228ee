-- The objects, and the mesh among them.
use mathlib.Core.Path.{ap, sym, ◌∙◌, subst}
use mathlib.Core.List.{List, map}
use Rattle.studio_rules.specs.Gives.{Mesh}
use Rattle.studio_meshes_rules.specs.Standing.{mesh_in}
use Rattle.studio_meshes_rules.proofs.Same.{same-meshes}
use Rattle.studio_mesh_find.specs.Places.{FoundIs}
use Rattle.studio_mesh_find.proofs.find_mesh.Goals as goal

pub find_among-requires : goal.find_among-requires
find_among-requires c =
    let x = c in
    let o = c.find_objects-objects.ensures x.requires.0 x.requires.1 in
    (o.p, o.t, o.id, o.spans)

pub returns : goal.returns
returns c =
    let x = c in
    λ kids m.
    let o = c.find_objects-objects.ensures kids m in
    subst (λ (ms : List Mesh). FoundIs x.args.file.now ms x.args.mesh c.find_among.result)
    (sym (same-meshes kids ∙ ap (map mesh_in) o.meshes_in))
    (c.find_among.ensures o.p o.t o.name_at o.name_length o.id o.spans)
