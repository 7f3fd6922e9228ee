-- Where the lists of a mesh stand.
use mathlib.Core.List.{[], ◌∷◌, ◌++◌}
use mathlib.Core.Path.{refl}
use Rattle.cob_rules.specs.Kinds.{faces, group, vertices, textures}
use Rattle.cob_body.proofs.Ends.{ends_at}
use Rattle.cob_mesh.proofs.Placed.{front_some, laid}
use Rattle.cob_mesh.proofs.lists_of.Goals as goal

pub unwrap-vertices-requires : goal.unwrap-vertices-requires
unwrap-vertices-requires c = front_some _ c.requires group (vertices ∷ textures ∷ faces ∷ []) _ refl c.group_end.ensures

pub unwrap-textures-requires : goal.unwrap-textures-requires
unwrap-textures-requires c = front_some _ c.requires (group ++ (vertices ∷ [])) (textures ∷ faces ∷ []) _ refl c.vertices_end.ensures

pub unwrap-faces-requires : goal.unwrap-faces-requires
unwrap-faces-requires c = front_some _ c.requires (group ++ (vertices ∷ textures ∷ [])) (faces ∷ []) _ refl c.textures_end.ensures

pub returns : goal.returns
returns c = laid _ c.requires (ends_at c.group_end.ensures c.unwrap-vertices.ensures) (ends_at c.vertices_end.ensures c.unwrap-textures.ensures) (ends_at c.textures_end.ensures c.unwrap-faces.ensures)
