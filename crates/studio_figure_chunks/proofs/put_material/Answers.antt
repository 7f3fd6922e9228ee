-- `studio_figure_chunks::put_material` meets its contract: the two headers, the name, then the three colours.
use mathlib.Core.Path.{sym, subst}
use Prim.Native.Nat.{ℕ}
use native.Mathlib.Omega.{arith}
use mathlib.Core.List.{List, [], ◌∷◌}
use lib.ListN.{length-append}
use Rattle.shared_numbers.specs.Put.{Put}
use Rattle.shared_numbers.proofs.Put.{put_then}
use Rattle.studio_figure_chunks.specs.Chunks.{material_with}
use Rattle.studio_figure_chunks.proofs.Chunks.{material-bytes}
use Rattle.studio_figure_chunks.proofs.put_material.Goals as goal

pub put_colour-diffuse-requires : goal.put_colour-diffuse-requires
put_colour-diffuse-requires c = (omega arith, omega (arith, length-append c.args.name.now (0 ∷ [])))

pub put_colour-specular-requires : goal.put_colour-specular-requires
put_colour-specular-requires c = (omega arith, omega (arith, length-append c.args.name.now (0 ∷ [])))

pub put_colour-requires : goal.put_colour-requires
put_colour-requires c = (omega arith, omega (arith, length-append c.args.name.now (0 ∷ [])))

pub returns : goal.returns
returns c =
    let a = c.args in
    let l = length-append a.name.now (0 ∷ []) in
    let room = c.requires.2 in
    let e₁ = c.put_header-label.ensures.ends in
    let e₂ = c.put_header-text.ensures.ends in
    let e₃ = c.put_name-ambient.ensures.ends in
    let e₄ = c.put_colour-diffuse.ensures.ends in
    let e₅ = c.put_colour-specular.ensures.ends in
    let p = c.put_colour in
    subst (λ (new : List ℕ). Put a.out.now a.at new p.new.out p.result) (sym (material-bytes (material_with a.name.now a.colours.now a.i)))
    (put_then (omega arith) c.put_header-label.ensures
    (put_then (omega arith) c.put_header-text.ensures
    (put_then (omega arith) c.put_name-ambient.ensures
    (put_then (omega arith) c.put_colour-diffuse.ensures (put_then (omega arith) c.put_colour-specular.ensures p.ensures)))))
