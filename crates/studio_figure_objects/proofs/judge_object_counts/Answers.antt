-- `studio_figure_objects::judge_object_counts` meets its contract: its tests are the conditions in their order.
use Rattle.std.specs.Prelude.{Err}
use mathlib.Core.Path.{◌≡◌, sym, ap, ◌∙◌}
use Prim.Native.Nat.{ℕ, ◌/◌}
use native.Mathlib.Omega.{arith}
use mathlib.Core.List.{List, ◌∷◌}
use Rattle.shared_words.specs.declared.Refusal.TheVariants.{Count}
use Rattle.shared_words.specs.Conditions.{Condition, must, answered}
use Rattle.studio_write_judge.specs.Judged.{is_whole_row}
use Rattle.studio_figure_rules.specs.Judged.{none_or_each}
use Rattle.studio_figure_rows.specs.Rows.{entry, sum_to}
use Rattle.studio_figure_rows.proofs.Answers.{here, later}
use Rattle.studio_figure_objects.specs.Asked.{group_counts}
use Rattle.studio_figure_objects.proofs.judge_object_counts.Lts as lts
use Rattle.studio_figure_objects.proofs.judge_object_counts.Reads as reads
use Rattle.studio_figure_objects.proofs.judge_object_counts.Tie as tie
use Rattle.studio_figure_objects.proofs.judge_object_counts.Goals as goal

-- what is known at a place of the code
abbrev Lts-Else-not-whole_row : Type 0
Lts-Else-not-whole_row = lts.Else1 tie.the-claims reads.Pre reads.Post

-- what is known at a place of the code
abbrev Lts-Else-not-whole_row-2 : Type 0
Lts-Else-not-whole_row-2 = lts.Else2 tie.the-claims reads.Pre reads.Post

module _ (objects groups : List ℕ) (i : ℕ) where
  abbrev last : List Condition
  last = group_counts groups (sum_to 5 4 objects i) (entry 5 4 objects i)

  abbrev third : List Condition
  third = must (none_or_each (entry 5 3 objects i) (entry 5 2 objects i / 3)) (Count (entry 5 3 objects i)) ∷ last

  abbrev second : List Condition
  second = must (is_whole_row (entry 5 2 objects i)) (Count (entry 5 2 objects i)) ∷ third

-- past the first test, and past the second
past-1 : (c : Lts-Else-not-whole_row) →
    let x = c.before.before.before.before.before in
    answered (second x.args.objects.now x.args.groups.now x.args.i) ≡ answered (must (is_whole_row (entry 5 1 x.args.objects.now x.args.i)) (Count (entry 5 1 x.args.objects.now x.args.i)) ∷ second x.args.objects.now x.args.groups.now x.args.i)
past-1 c =
    let c2 = c.before.before in
    let x = c.before.before.before.before.before in
    later _ _ (second x.args.objects.now x.args.groups.now x.args.i) (ap is_whole_row (sym c2.number-floats.ensures.0) ∙ sym c.whole_row.ensures ∙ c.if-not-whole_row.false)

past-2 : (c : Lts-Else-not-whole_row-2) →
    let x = c.before.before.before.before.before.before.before.before in
    answered (third x.args.objects.now x.args.groups.now x.args.i) ≡ answered (second x.args.objects.now x.args.groups.now x.args.i)
past-2 c =
    let c2 = c.before.before in
    let x = c.before.before.before.before.before.before.before.before in
    later _ _ (third x.args.objects.now x.args.groups.now x.args.i) (ap is_whole_row (sym c2.number-corners.ensures.0) ∙ sym c.whole_row-2.ensures ∙ c.if-not-whole_row-2.false)

pub returns-then-not-whole_row : goal.returns-then-not-whole_row
returns-then-not-whole_row c =
    ap (λ (x : ℕ). Err (Count x)) c.number-floats.ensures.0 ∙
    here _ _ (second c.args.objects.now c.args.groups.now c.args.i) (ap is_whole_row (sym c.number-floats.ensures.0) ∙ sym c.whole_row.ensures ∙ c.if-not-whole_row.true)

pub returns-then-not-whole_row-2 : goal.returns-then-not-whole_row-2
returns-then-not-whole_row-2 c =
    let c3 = c.before.before.before.before in
    ap (λ (x : ℕ). Err (Count x)) c.number-corners.ensures.0 ∙
    here _ _ (third c.args.objects.now c.args.groups.now c.args.i) (ap is_whole_row (sym c.number-corners.ensures.0) ∙ sym c.whole_row-2.ensures ∙ c.if-not-whole_row-2.true) ∙ past-1 c3

pub returns-then-not-none_or_each : goal.returns-then-not-none_or_each
returns-then-not-none_or_each c =
    let c3 = c.before.before.before.before in
    let c6 = c.before.before.before.before.before.before.before in
    let w = c.number-words.ensures.0 in
    let k = c.number-corners.ensures.0 in
    let e : none_or_each (entry 5 3 c.args.objects.now c.args.i) (entry 5 2 c.args.objects.now c.args.i / 3) ≡ none_or_each c.number-words.result (c.number-corners.result / 3) = rw (w, k) in
    ap (λ (x : ℕ). Err (Count x)) w ∙
    here _ _ (last c.args.objects.now c.args.groups.now c.args.i) (e ∙ sym c.none_or_each.ensures ∙ c.if-not-none_or_each.true) ∙ past-2 c3 ∙ past-1 c6

pub judge_group_counts-requires : goal.judge_group_counts-requires
judge_group_counts-requires c = omega (arith, c.number.ensures.0)

pub returns : goal.returns
returns c =
    let c5 = c.before.before.before.before.before.before in
    let c8 = c.before.before.before.before.before.before.before.before.before in
    let w = c.number-words.ensures.0 in
    let k = c.number-corners.ensures.0 in
    let e : none_or_each (entry 5 3 c.args.objects.now c.args.i) (entry 5 2 c.args.objects.now c.args.i / 3) ≡ none_or_each c.number-words.result (c.number-corners.result / 3) = rw (w, k) in
    let g : answered (group_counts c.args.groups.now c.args.group c.number.result) ≡ answered (last c.args.objects.now c.args.groups.now c.args.i) = rw (c.requires.1, c.number.ensures.0) in
    c.judge_group_counts.ensures ∙ g ∙
    later _ _ (last c.args.objects.now c.args.groups.now c.args.i) (e ∙ sym c.none_or_each.ensures ∙ c.if-not-none_or_each.false) ∙ past-2 c5 ∙ past-1 c8
