-- The sizes of the mesh of a body.
use mathlib.Core.Path.{◌∙◌}
use Rattle.cob_rules.specs.Gives.{mesh_in}
use Rattle.cob_tables.proofs.Answers.{sizes-no-room, faces-whole, sizes-put}
use Rattle.cob_tables.proofs.put_sizes.Goals as goal

pub returns-then-row-lt2 : goal.returns-then-row-lt2
returns-then-row-lt2 c = let x = c.args in let both = sizes-no-room (mesh_in x.body.now) x.row.now c.if-row-lt2.true in record { answer = both.0; row = both.1 }

pub count_triangles-faces-requires : goal.count_triangles-faces-requires
count_triangles-faces-requires c = faces-whole c.lists_of-l.ensures (c.wide-count.ensures ∙ c.long_at.ensures.is)

pub returns : goal.returns
returns c =
    let put-long2' = c.put_long in
    let put-long' = c.put_long-behind in
    let count-triangles' = c.count_triangles-faces in
    let wide' = c.wide-count in
    let long-at2' = c.long_at in
    let long-at' = c.long_at-vertices in
    let lists-of' = c.lists_of-l in
    let if1' = c.if-row-lt2 in let both = sizes-put lists-of'.ensures (wide'.ensures ∙ long-at2'.ensures.is) long-at'.ensures.is count-triangles'.ensures.0 if1'.false
    put-long'.ensures put-long2'.ensures in record { answer = both.0; row = both.1 }
