-- `studio_figure_objects::judge_object_indices` meets its contract: the corners first, then the groups.
use Rattle.std.proofs.lemmas.Result.{err_from_is_err_and}
use mathlib.Core.Path.{◌≡◌, sym, ap, ◌∙◌}
use Prim.Native.Nat.{ℕ, ◌+◌, ◌-◌, ◌/◌}
use native.Mathlib.Omega.{arith}
use mathlib.Core.List.{List}
use Rattle.shared_words.specs.Conditions.{Condition, answered}
use Rattle.studio_figure_rows.specs.Rows.{entry, sum_to, part}
use Rattle.studio_figure_rows.proofs.Answers.{front-refused, front-passed}
use Rattle.studio_figure_rows.proofs.Runs.{part-is}
use Rattle.studio_figure_objects.specs.Asked.{all_below, group_indices}
use Rattle.studio_figure_objects.proofs.judge_object_indices.Goals as goal

module _ (objects corners groups faces : List ℕ) (i : ℕ) where
  abbrev first : List Condition
  first = all_below (entry 5 1 objects i / 3) (part (sum_to 5 2 objects i) (entry 5 2 objects i) corners)

  abbrev second : List Condition
  second = group_indices groups faces (entry 5 2 objects i / 3) (sum_to 5 4 objects i) (entry 5 4 objects i)

-- the row that is judged is that of the corners
corners_are : (objects corners : List ℕ) (i n at count : ℕ) → n ≡ entry 5 1 objects i → at ≡ sum_to 5 2 objects i → count ≡ entry 5 2 objects i →
    answered (all_below (n / 3) (part at (at + count - at) corners)) ≡ answered (all_below (entry 5 1 objects i / 3) (part (sum_to 5 2 objects i) (entry 5 2 objects i) corners))
corners_are objects corners i n at count e f g = rw (part-is corners at count _ _ f g, e)

groups_are : (objects groups faces : List ℕ) (i f g n : ℕ) → f ≡ entry 5 2 objects i → g ≡ sum_to 5 4 objects i → n ≡ entry 5 4 objects i →
    answered (group_indices groups faces (f / 3) g n) ≡ answered (group_indices groups faces (entry 5 2 objects i / 3) (sum_to 5 4 objects i) (entry 5 4 objects i))
groups_are objects groups faces i f g n a b c = rw (a, b, c)

pub judge_group_indices-requires : goal.judge_group_indices-requires
judge_group_indices-requires c =
    let a = c.args in
    let e : sum_to 2 1 a.groups.now (a.group + c.number-n.result) ≡ sum_to 2 1 a.groups.now (a.group + entry 5 4 a.objects.now a.i) = ap (λ (k : ℕ). sum_to 2 1 a.groups.now (a.group + k)) c.number-n.ensures.0 in
    (omega (arith, c.number-n.ensures.0), c.requires.face_value.0, omega (arith, e))

pub returns-in_err-judge_below : goal.returns-in_err-judge_below
returns-in_err-judge_below c =
    let a = c.args in
    let p = err_from_is_err_and c.from_residual.result c.from_residual.ensures.1 in
    rw (p.1, p.2) (front-refused (first a.objects.now a.corners.now a.groups.now a.faces.now a.i) (second a.objects.now a.corners.now a.groups.now a.faces.now a.i) _
    (sym c.in_err-judge_below.was ∙ c.judge_below.ensures ∙ corners_are a.objects.now a.corners.now a.i c.number.result a.at c.number-count.result c.number.ensures.0 c.requires.i_in_bounds.1 c.number-count.ensures.0))

pub returns : goal.returns
returns c =
    let a = c.args in
    c.judge_group_indices.ensures ∙ groups_are a.objects.now a.groups.now a.faces.now a.i c.number-count.result a.group c.number-n.result c.number-count.ensures.0 c.requires.group_value.0 c.number-n.ensures.0 ∙
    front-passed (first a.objects.now a.corners.now a.groups.now a.faces.now a.i) (second a.objects.now a.corners.now a.groups.now a.faces.now a.i)
    (sym c.in_ok-judge_below.was ∙ c.judge_below.ensures ∙ corners_are a.objects.now a.corners.now a.i c.number.result a.at c.number-count.result c.number.ensures.0 c.requires.i_in_bounds.1 c.number-count.ensures.0)
