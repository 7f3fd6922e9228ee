-- `studio_figure_rows::FlatRows::fits` meets its contract: its tests are the conditions in their order.
use mathlib.Core.Path.{refl, sym, ◌∙◌}
use borrow.Author.Tests.{eq-eqb, ne_eqb}
use Rattle.studio_figure_rows.specs.Given.{given}
use Rattle.studio_figure_rows.proofs.Fitting.{misfit, fitting}
use Rattle.studio_figure_rows.proofs.FlatRows.fits.Goals as goal

pub returns-then-objects-ne0 : goal.returns-then-objects-ne0
returns-then-objects-ne0 c = misfit (given c.args.self.now) 0 tt refl (ne_eqb _ _ c.if-objects-ne0.true)

pub returns-then-not-groups_add_up : goal.returns-then-not-groups_add_up
returns-then-not-groups_add_up c =
    misfit (given c.args.self.now) 1 (eq-eqb _ _ c.if-objects-ne0.false, tt) refl (sym c.groups_add_up.ensures ∙ c.if-not-groups_add_up.true)

pub returns-then-not-names_add_up : goal.returns-then-not-names_add_up
returns-then-not-names_add_up c =
    misfit (given c.args.self.now) 2 (eq-eqb _ _ c.if-objects-ne0.false, (sym c.groups_add_up.ensures ∙ c.if-not-groups_add_up.false, tt)) refl (sym c.names_add_up.ensures ∙ c.if-not-names_add_up.true)

pub returns-then-not-adds_up : goal.returns-then-not-adds_up
returns-then-not-adds_up c =
    misfit (given c.args.self.now) 3 (eq-eqb _ _ c.if-objects-ne0.false, (sym c.groups_add_up.ensures ∙ c.if-not-groups_add_up.false, (sym c.names_add_up.ensures ∙ c.if-not-names_add_up.false, tt))) refl (sym c.adds_up.ensures ∙ c.if-not-adds_up.true)

pub returns-then-not-adds_up-2 : goal.returns-then-not-adds_up-2
returns-then-not-adds_up-2 c =
    misfit (given c.args.self.now) 4 (
      eq-eqb _ _ c.if-objects-ne0.false,
      (
        sym c.groups_add_up.ensures ∙ c.if-not-groups_add_up.false,
        (
          sym c.names_add_up.ensures ∙ c.if-not-names_add_up.false,
          (sym c.adds_up.ensures ∙ c.if-not-adds_up.false, tt),
        ),
      ),
    )
    refl (sym c.adds_up-2.ensures ∙ c.if-not-adds_up-2.true)

pub returns-then-not-adds_up-3 : goal.returns-then-not-adds_up-3
returns-then-not-adds_up-3 c =
    misfit (given c.args.self.now) 5 (
      eq-eqb _ _ c.if-objects-ne0.false,
      (
        sym c.groups_add_up.ensures ∙ c.if-not-groups_add_up.false,
        (
          sym c.names_add_up.ensures ∙ c.if-not-names_add_up.false,
          (sym c.adds_up.ensures ∙ c.if-not-adds_up.false, (sym c.adds_up-2.ensures ∙ c.if-not-adds_up-2.false, tt)),
        ),
      ),
    )
    refl (sym c.adds_up-3.ensures ∙ c.if-not-adds_up-3.true)

pub returns-then-not-adds_up-4 : goal.returns-then-not-adds_up-4
returns-then-not-adds_up-4 c =
    misfit (given c.args.self.now) 6 (
      eq-eqb _ _ c.if-objects-ne0.false,
      (
        sym c.groups_add_up.ensures ∙ c.if-not-groups_add_up.false,
        (
          sym c.names_add_up.ensures ∙ c.if-not-names_add_up.false,
          (sym c.adds_up.ensures ∙ c.if-not-adds_up.false, (sym c.adds_up-2.ensures ∙ c.if-not-adds_up-2.false, (sym c.adds_up-3.ensures ∙ c.if-not-adds_up-3.false, tt))),
        ),
      ),
    )
    refl (sym c.adds_up-4.ensures ∙ c.if-not-adds_up-4.true)

pub returns-then-not-colours_add_up : goal.returns-then-not-colours_add_up
returns-then-not-colours_add_up c =
    misfit (given c.args.self.now) 7 (
      eq-eqb _ _ c.if-objects-ne0.false,
      (
        sym c.groups_add_up.ensures ∙ c.if-not-groups_add_up.false,
        (
          sym c.names_add_up.ensures ∙ c.if-not-names_add_up.false,
          (sym c.adds_up.ensures ∙ c.if-not-adds_up.false, (sym c.adds_up-2.ensures ∙ c.if-not-adds_up-2.false, (sym c.adds_up-3.ensures ∙ c.if-not-adds_up-3.false, (sym c.adds_up-4.ensures ∙ c.if-not-adds_up-4.false, tt)))),
        ),
      ),
    )
    refl (sym c.colours_add_up.ensures ∙ c.if-not-colours_add_up.true)

pub returns : goal.returns
returns c = fitting (given c.args.self.now) (
  eq-eqb _ _ c.if-objects-ne0.false,
  (
    sym c.groups_add_up.ensures ∙ c.if-not-groups_add_up.false,
    (
      sym c.names_add_up.ensures ∙ c.if-not-names_add_up.false,
      (sym c.adds_up.ensures ∙ c.if-not-adds_up.false, (sym c.adds_up-2.ensures ∙ c.if-not-adds_up-2.false, (sym c.adds_up-3.ensures ∙ c.if-not-adds_up-3.false, (sym c.adds_up-4.ensures ∙ c.if-not-adds_up-4.false, (sym c.colours_add_up.ensures ∙ c.if-not-colours_add_up.false, tt))))),
    ),
  ),
)
