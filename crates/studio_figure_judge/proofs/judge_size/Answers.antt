-- `studio_figure_judge::judge_size` meets its contract.
use mathlib.Core.Path.{◌≡◌, subst}
use Prim.Native.Nat.{ℕ, ◌+◌, ◌*◌}
use native.Mathlib.Omega.{arith}
use lib.ListN.{length}
use Rattle.shared_words.specs.Lists.{total}
use Rattle.studio_figure_rows.specs.Rows.{sum_to, Capped}
use Rattle.studio_figure_rows.proofs.Runs.{capped-under}
use Rattle.studio_figure_objects.specs.Sizes.{object_bytes}
use Rattle.studio_figure_judge.specs.Judged.{numbers, size_of_rows}
use Rattle.studio_figure_judge.proofs.Whole.{sizes-joined, too_long, no_room, has_room}
use Rattle.studio_figure_judge.proofs.judge_size.Lts as lts
use Rattle.studio_figure_judge.proofs.judge_size.Reads as reads
use Rattle.studio_figure_judge.proofs.judge_size.Tie as tie
use Rattle.studio_figure_judge.proofs.judge_size.Goals as goal

-- what is known at a place of the code
abbrev Lts-After-objects_size-size : Type 0
Lts-After-objects_size-size = lts.After-objects_size tie.the-claims reads.Pre reads.Post

-- the size, as far as it matters
size_is : (c : Lts-After-objects_size-size) →
    let x = c.before.before.before.before.before.before in
    Capped 0 (size_of_rows x.args.objects.now x.args.groups.now x.args.materials.now) 1048576 c.objects_size-size.result
size_is c =
    let a = c.args in
    let k = capped-under _ _ _ _ c.sum.ensures (omega (arith, c.requires.1)) in
    let e : c.sum.result ≡ sum_to 1 0 a.materials.now (length a.materials.now) = omega arith in
    let front = subst (λ (n : ℕ). Capped 0 (12 + (58 * length a.materials.now + n)) 1048576 c.materials_size-first.result) e c.materials_size-first.ensures in
    sizes-joined _ c.materials_size-first.result (total (object_bytes a.objects.now a.groups.now) (numbers a.objects.now)) c.objects_size-size.result front c.objects_size-size.ensures

pub returns-then-size-gt-LIMIT : goal.returns-then-size-gt-LIMIT
returns-then-size-gt-LIMIT c = too_long _ _ c.args.room (size_is c.before.before) c.if-size-gt-LIMIT.true

pub returns-then-room-size : goal.returns-then-room-size
returns-then-room-size c = no_room _ _ c.args.room (size_is c.before.before.before) c.if-size-gt-LIMIT.false c.if-room-size.true

pub returns : goal.returns
returns c = has_room _ _ c.args.room (size_is c.before.before.before) c.if-size-gt-LIMIT.false c.if-room-size.false
