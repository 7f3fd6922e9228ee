-- One name: what is answered where its zero or its label is at fault, and where not.
use Rattle.std.specs.Prelude.{Ok, Err}
use mathlib.Core.Path.{◌≡◌, ap, ◌∙◌}
use Prim.Native.Nat.{ℕ, ◌<◌, ◌≤◌}
use native.Mathlib.Omega.{arith}
use mathlib.Core.List.{List, []}
use lib.ListN.{length}
use Rattle.shared_words.specs.Conditions.{answered}
use Rattle.shared_words.specs.declared.Refusal.TheVariants.{Name, Text}
use Rattle.shared_words.specs.Labels.{fits_label, label_fault}
use Rattle.shared_words.specs.Lists.{first_fault}
use Rattle.shared_words.proofs.Labels.{label_fits, label_unfit, label_within}
use Rattle.studio_write_judge.specs.Judged.{not_zero}
use Rattle.studio_figure_rows.proofs.Answers.{none-broken, here, later, row-found, row-through}
use Rattle.studio_figure_names.specs.Names.{name_asked}
use Rattle.studio_figure_names.specs.declared.Question.TheVariants.{Zero, Label}

module _ (name : List ℕ) (at : ℕ) where
  pub text-refused : at ≡ label_fault name → at < length name → Err (Text at) ≡ answered (name_asked Label name)
  text-refused e h = ap (λ (p : ℕ). Err (Text p)) e ∙ here (fits_label name) (Text (label_fault name)) [] (label_unfit name (omega arith))

  pub text-passed : at ≡ label_fault name → length name ≤ at → (Ok tt) ≡ answered (name_asked Label name)
  text-passed e h = none-broken ∙ later (fits_label name) (Text (label_fault name)) [] (label_fits name (omega (arith, label_within name)))

  pub zero-refused : at ≡ first_fault not_zero name → at < length name → Err (Name at) ≡ answered (name_asked Zero name)
  zero-refused e h = row-found not_zero name Name [] at e h

  pub zero-passed : at ≡ first_fault not_zero name → length name ≤ at → (Ok tt) ≡ answered (name_asked Zero name)
  zero-passed e h = none-broken ∙ row-through not_zero name Name [] at e h
