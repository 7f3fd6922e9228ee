-- By its kind.
use mathlib.Core.Path.{ap, ◌∙◌}
use Rattle.c4d_chunks.specs.Steps.{kind_of_listed}
use Rattle.c4d_chunks.proofs.enter.Goals as goal

pub returns-in-Platform : goal.returns-in-Platform
returns-in-Platform c = λ id e len p rs notes₀ q t a g.
    let x = c.args in
    c.enter_platform.ensures x.file.now x.notes.now x.end id (e ∙ ap kind_of_listed c.in-Platform.is) len p rs notes₀ q t a g

pub returns-in-Materials : goal.returns-in-Materials
returns-in-Materials c = λ id e len p rs notes₀ q t a g.
    c.enter_materials.ensures c.args.notes.now id (e ∙ ap kind_of_listed c.in-Materials.is) len p rs notes₀ q t a g

pub returns-in-Objects : goal.returns-in-Objects
returns-in-Objects c = λ id e len p rs notes₀ q t a g. c.enter_objects.ensures id (e ∙ ap kind_of_listed c.in-Objects.is) len p rs notes₀ q t a g
