-- The children of a figure's 4D4D, where they stand in the file.
use mathlib.Core.Path.{◌≡◌, sym, ◌∙◌, subst}
use mathlib.Core.List.{List, []}
use Prim.Native.Nat.{ℕ, ◌+◌}
use native.Mathlib.Omega.{arith}
use lib.ListN.{length}
use lib.Seq.{take-length}
use Rattle.studio_rules.specs.Layout.{Run, end, figure, size}
use Rattle.studio_rules.specs.Rules.{Parent, file, version, Meets}
use Rattle.studio_rules.specs.Walk.{top}
use Rattle.studio_child.specs.Runs.{Spans}
use Rattle.studio_child.proofs.Runs.{span-size, kids_here}

module _ (s : List ℕ) (kids : Run) (m : Meets s kids) where
  -- its 4D4D
  abbrev pub figure_top : Parent
  figure_top = top (version kids)

  whole : Spans (file (version kids)) (figure kids) s 0 (length s)
  whole = record {
    seen = [];
    stands = record { order = omega arith; stays = omega arith; small = omega (arith, m.within-limit); is = m.is ∙ sym (take-length s) };
    obeys = m.chunks;
  }

  ends : 0 + (6 + 0 + size kids) ≡ length s
  ends = omega (arith, span-size (file (version kids)) s 0 (length s) (figure kids) whole)

  pub figure_kids : Spans figure_top kids s 6 (length s)
  unfolding whole
  figure_kids = subst (Spans figure_top kids s 6) ends (kids_here (file (version kids)) s 0 (length s) 0x4D4D [] kids end whole)
