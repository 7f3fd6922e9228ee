-- By its identifier.
use mathlib.Core.Path.{◌≡◌, refl, sym, ap, ◌∙◌}
use mathlib.Core.Bool.{false}
use mathlib.Core.Option.{Option, none}
use Prim.Native.Nat.{ℕ, ◌<◌, ◌≤◌}
use native.Mathlib.Omega.{arith}
use lib.Dec.{eqb}
use borrow.Author.Tests.{ne_eqb, eq-eqb}
use Rattle.c4d_rules.specs.Blocks.{Block}
use Rattle.c4d_rules.specs.Kinds.{t_end, t_object, t_texture, listed}
use Rattle.c4d_rules.specs.Rules.{object_id}
use Rattle.c4d_held.specs.Held.{fault}
use Rattle.c4d_held.proofs.Conditions.{end-outside, texture-long, texture-outside, part-outside, unknown_outside, not_this, listed-part, not_listed}
use Rattle.c4d_held.proofs.judge_outside.Goals as goal

-- an identifier that is not listed
skipped : (b : Block) (last : Option ℕ) (at id : ℕ) → object_id b ≡ id → (id ≡ t_object → ⊥) → (id ≡ t_end → ⊥) → (16 ≤ id → 32 < id) →
    (fault last none at b ≡ none) × (eqb (object_id b) t_end ≡ false)
skipped b last at id i s e u = (
  unknown_outside b last none at (not_this b t_texture i (λ z. let k = u (omega arith) in omega arith)) (not_this b t_object i s) (not_this b t_end i e)
      (ap listed i ∙ not_listed id e s u),
  not_this b t_end i e,
)

pub returns-in-0 : goal.returns-in-0
returns-in-0 c = λ b last i l. end-outside b last none c.args.at (i ∙ c.in-0.is) refl

pub returns-in-23 : goal.returns-in-23
returns-in-23 c = λ b last i l. texture-long b last none c.args.at (i ∙ c.in-23.is) (ne_eqb _ 64 (λ e. c.if-len-ne-TEXTURE_LENGTH.true (sym l ∙ e)))

pub returns-in_default : goal.returns-in_default
returns-in_default c = λ b last i l. skipped b last c.args.at c.args.id i c.requires (λ e. omega arith) (λ k. omega arith)

pub returns-in_default-2 : goal.returns-in_default-2
returns-in_default-2 c = λ b last i l. skipped b last c.args.at c.args.id i c.requires (λ e. omega arith) (λ k. omega arith)

pub returns-in-16-to-32 : goal.returns-in-16-to-32
returns-in-16-to-32 c = λ b last i l. texture-outside b last none c.args.at (i ∙ c.in-23.is) (eq-eqb _ 64 (l ∙ c.if-len-ne-TEXTURE_LENGTH.false)) refl

pub returns-in-16-to-32-2 : goal.returns-in-16-to-32-2
returns-in-16-to-32-2 c = λ b last i l.
    part-outside b last none c.args.at (not_this b t_texture i (λ e. omega arith)) (not_this b t_object i c.requires) (not_this b t_end i (λ e. omega arith))
    (ap listed i ∙ listed-part c.args.id (omega arith) (omega arith)) refl
