-- `studio_figure_objects::object_size` meets its contract.
use mathlib.Core.Path.{◌≡◌, ap, ◌∙◌}
use Prim.Native.Nat.{◌+◌, ◌*◌, ◌/◌}
use native.Mathlib.Omega.{arith}
use Rattle.studio_figure_objects.specs.Sizes.{size_of_words, object_bytes}
use Rattle.studio_figure_objects.proofs.Sizes.{words_most, names-over, faces-over, object-is, sized-over, sized-is}
use Rattle.studio_figure_objects.proofs.object_size.Lts as lts
use Rattle.studio_figure_objects.proofs.object_size.Reads as reads
use Rattle.studio_figure_objects.proofs.object_size.Tie as tie
use Rattle.studio_figure_objects.proofs.object_size.Goals as goal

-- what is known at a place of the code
abbrev Lts-After-smoothing_size : Type 0
Lts-After-smoothing_size = lts.After-smoothing_size tie.the-claims reads.Pre reads.Post

-- the size is what is written
written : (c : Lts-After-smoothing_size) →
    let c2 = c.before.before in
    let c3 = c.before.before.before in
    let c4 = c.before.before.before.before in
    let c6 = c.before.before.before.before.before.before in
    let c8 = c.before.before.before.before.before.before.before.before in
    let c9 = c.before.before.before.before.before.before.before.before.before in
    let x = c.before.before.before.before.before.before.before.before.before.before.before.before in
    29 + c2.number-3.result + (12 * (c4.number.result / 3) + 8 * (c3.number-2.result / 3)) + 9 * c9.number-count.result + c8.sum-names.result + 2 * c6.sum-faces.result + c.smoothing_size.result ≡ object_bytes x.args.objects.now x.args.groups.now x.args.i
written c =
    let c2 = c.before.before in
    let c3 = c.before.before.before in
    let c4 = c.before.before.before.before in
    let c5 = c.before.before.before.before.before in
    let c6 = c.before.before.before.before.before.before in
    let c7 = c.before.before.before.before.before.before.before in
    let c8 = c.before.before.before.before.before.before.before.before in
    let c9 = c.before.before.before.before.before.before.before.before.before in
    let x = c.before.before.before.before.before.before.before.before.before.before.before.before in
    let a = x.args in
    object-is a.objects.now a.groups.now a.i a.group c9.number-count.result x.requires.1 c9.number-count.ensures.0 _ _ _ _ _ _ c2.number-3.ensures.0 c4.number.ensures.0 c3.number-2.ensures.0
    (c.smoothing_size.ensures ∙ ap size_of_words c.number-4.ensures.0) (c8.sum-names.ensures.exact c7.if-names-gt-LIMIT.false) (c6.sum-faces.ensures.exact c5.if-faces-gt-LIMIT.false)

pub returns-then-names-gt-LIMIT : goal.returns-then-names-gt-LIMIT
returns-then-names-gt-LIMIT c =
    let a = c.args in
    (sized-over _ (names-over a.objects.now a.groups.now a.i a.group c.number-count.result c.requires.1 c.number-count.ensures.0 (c.sum-names.ensures.past c.if-names-gt-LIMIT.true)), omega arith)

pub returns-then-faces-gt-LIMIT : goal.returns-then-faces-gt-LIMIT
returns-then-faces-gt-LIMIT c =
    let a = c.args in
    (sized-over _ (faces-over a.objects.now a.groups.now a.i a.group c.number-count.result c.requires.1 c.number-count.ensures.0 (c.sum-faces.ensures.past c.if-faces-gt-LIMIT.true)), omega arith)

pub overflow_add-size-6 : goal.overflow_add-size-6
overflow_add-size-6 c = omega (arith, c.smoothing_size.ensures, words_most c.number-4.result)

pub returns-then-size-gt-LIMIT : goal.returns-then-size-gt-LIMIT
returns-then-size-gt-LIMIT c =
    let e = written c.before.before in
    (sized-over _ (omega arith), omega arith)

pub returns : goal.returns
returns c =
    let e = written c.before.before in
    (sized-is _ _ e c.if-size-gt-LIMIT.false, omega arith)
