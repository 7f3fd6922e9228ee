-- The mesh of a body, by its lists.
use mathlib.Core.Path.{refl, ◌∙◌}
use native.Mathlib.Omega.{arith}
use Rattle.cob_meshes.proofs.Faces.{vertices-at, faces-whole, numbers_are}
use Rattle.cob_meshes.proofs.numbers_of.Goals as goal

pub count_faces-faces-requires : goal.count_faces-faces-requires
count_faces-faces-requires c =
    let listed = c in
    faces-whole listed.requires.0 listed.lists_of-l.ensures (c.wide-count.ensures ∙ c.long_at.ensures.is)

pub count_triangles-given-requires : goal.count_triangles-given-requires
count_triangles-given-requires c =
    let listed = c in
    faces-whole listed.requires.0 listed.lists_of-l.ensures (c.wide-count.ensures ∙ c.long_at.ensures.is)

pub overflow_sub-result : goal.overflow_sub-result
overflow_sub-result c =
    let listed = c in
    omega (arith, vertices-at listed.requires.0 listed.lists_of-l.ensures)

pub overflow_sub-result-2 : goal.overflow_sub-result-2
overflow_sub-result-2 c =
    let listed = c in
    omega (arith, vertices-at listed.requires.0 listed.lists_of-l.ensures)

pub returns : goal.returns
returns c =
    let listed = c in
    let counted = c.wide-count.ensures ∙ c.long_at.ensures.is in
    numbers_are listed.requires.0 listed.lists_of-l.ensures counted _ _ _ refl refl refl c.long_at-2.ensures.is refl c.count_faces-faces.ensures.0 c.count_triangles-given.ensures.0 refl
