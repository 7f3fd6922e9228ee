-- A texture: its size, then its material.
use mathlib.Core.Path.{refl, sym, ap, ◌∙◌}
use mathlib.Core.Option.{some}
use borrow.Author.Tests.{ne_eqb, eq-eqb}
use Rattle.c4d_held.specs.Held.{last_of, is_material}
use Rattle.c4d_held.proofs.Conditions.{texture-long, texture-none, texture_fine}
use Rattle.c4d_held.proofs.judge_texture.Goals as goal

pub returns-then-len-ne-TEXTURE_LENGTH : goal.returns-then-len-ne-TEXTURE_LENGTH
returns-then-len-ne-TEXTURE_LENGTH c = λ b bs i.
    let a = c.args in
    texture-long b (last_of a.below) (some bs) a.at i.id-is (ne_eqb _ 64 (λ e. c.if-len-ne-TEXTURE_LENGTH.true (sym i.len_is ∙ e)))

pub returns-then-not-is_material : goal.returns-then-not-is_material
returns-then-not-is_material c = λ b bs i.
    let a = c.args in
    let m = i.material-is c.if-len-ne-TEXTURE_LENGTH.false ∙ sym c.long_at-material.ensures.is in
    texture-none b (last_of a.below) (some bs) a.at i.id-is (eq-eqb _ 64 (i.len_is ∙ c.if-len-ne-TEXTURE_LENGTH.false)) refl
    (ap (is_material (last_of a.below)) m ∙ sym c.is_material.ensures ∙ c.if-not-is_material.true)

pub returns : goal.returns
returns c = λ b bs i.
    let a = c.args in
    let n = c.long_at-material.ensures.small in
    let m = i.material-is c.if-len-ne-TEXTURE_LENGTH.false ∙ sym c.long_at-material.ensures.is in (
      texture_fine b (last_of a.below) (some bs) a.at i.id-is (eq-eqb _ 64 (i.len_is ∙ c.if-len-ne-TEXTURE_LENGTH.false)) refl
          (ap (is_material (last_of a.below)) m ∙ sym c.is_material.ensures ∙ c.if-not-is_material.false),
      i.len_is ∙ c.if-len-ne-TEXTURE_LENGTH.false,
      sym m,
      n,
    )
