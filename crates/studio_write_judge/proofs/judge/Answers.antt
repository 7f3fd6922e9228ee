-- `studio_write_judge::judge` meets its contract: its tests are the conditions in their order, so that each way past a test shows one
-- more of them.
use Rattle.std.specs.Prelude.{Err}
use mathlib.Core.Path.{refl, sym, ap, ◌∙◌}
use Prim.Native.Nat.{ℕ, ◌≤◌, ◌<◌, ◌/◌}
use native.Mathlib.Omega.{arith}
use mathlib.Core.List.{List}
use lib.ListN.{length, take}
use borrow.Author.Tests.{le-leb, lt-leb}
use Rattle.shared_words.specs.declared.Refusal.TheVariants.{Name, Number, Index, Text}
use Rattle.shared_words.specs.Conditions.{Condition}
use Rattle.shared_words.proofs.Conditions.{Met}
use Rattle.studio_write_judge.specs.Judged.{not_zero, write_conditions}
use Rattle.shared_words.proofs.FirstFault.{every-good, some-bad}
use Rattle.shared_words.proofs.Labels.{label_fits, label_unfit, label_within}
use Rattle.studio_write_judge.proofs.Judged.{met-more, whole_row, refused-at, sized}
use Rattle.studio_write_judge.proofs.judge.Lts as lts
use Rattle.studio_write_judge.proofs.judge.Reads as reads
use Rattle.studio_write_judge.proofs.judge.Tie as tie
use Rattle.studio_write_judge.proofs.judge.Goals as goal

-- what is known at a place of the code
abbrev Lts-Else-zero-name : Type 0
Lts-Else-zero-name = lts.Else1 tie.the-claims reads.Pre reads.Post

-- what is known at a place of the code
abbrev Lts-Start : Type 0
Lts-Start = lts.Start tie.the-claims reads.Pre reads.Post

-- what is known at a place of the code
abbrev Lts-Else-taken-name : Type 0
Lts-Else-taken-name = lts.Else2 tie.the-claims reads.Pre reads.Post

-- what is known at a place of the code
abbrev Lts-Else-not-whole_row : Type 0
Lts-Else-not-whole_row = lts.Else3 tie.the-claims reads.Pre reads.Post

-- what is known at a place of the code
abbrev Lts-Else-not-whole_row-2 : Type 0
Lts-Else-not-whole_row-2 = lts.Else4 tie.the-claims reads.Pre reads.Post

-- what is known at a place of the code
abbrev Lts-Else-not-all_finite : Type 0
Lts-Else-not-all_finite = lts.Else5 tie.the-claims reads.Pre reads.Post

-- what is known at a place of the code
abbrev Lts-Else-not-all_below : Type 0
Lts-Else-not-all_below = lts.Else6 tie.the-claims reads.Pre reads.Post

-- what is known at a place of the code
abbrev Lts-Else-size-gt-LIMIT : Type 0
Lts-Else-size-gt-LIMIT = lts.Else7 tie.the-claims reads.Pre reads.Post

abbrev start-1 : Lts-Else-zero-name → Lts-Start
start-1 c = c.before.before.before.before.before

abbrev start-2 : Lts-Else-taken-name → Lts-Start
start-2 c = start-1 c.before.before

abbrev start-3 : Lts-Else-not-whole_row → Lts-Start
start-3 c = start-2 c.before.before

abbrev start-4 : Lts-Else-not-whole_row-2 → Lts-Start
start-4 c = start-3 c.before.before

abbrev start-5 : Lts-Else-not-all_finite → Lts-Start
start-5 c = start-4 c.before.before

abbrev start-6 : Lts-Else-not-all_below → Lts-Start
start-6 c = start-5 c.before.before

abbrev start-7 : Lts-Else-size-gt-LIMIT → Lts-Start
start-7 c = start-6 c.before

abbrev conditions : Lts-Start → List Condition
conditions s = write_conditions s.args.name.now s.args.vertices.now s.args.corners.now s.args.room

held-1 : (c : Lts-Else-zero-name) → Met (take 1 (conditions (start-1 c)))
held-1 c = (every-good not_zero _ (omega arith), tt)

held-2 : (c : Lts-Else-taken-name) → Met (take 2 (conditions (start-2 c)))
held-2 c =
    let name = (start-2 c).args.name.now in
    met-more 1 (conditions (start-2 c)) (held-1 c.before.before) refl (label_fits name (omega (arith, label_within name)))

held-3 : (c : Lts-Else-not-whole_row) → Met (take 3 (conditions (start-3 c)))
held-3 c = met-more 2 (conditions (start-3 c)) (held-2 c.before.before) refl (sym c.whole_row.ensures ∙ c.if-not-whole_row.false)

held-4 : (c : Lts-Else-not-whole_row-2) → Met (take 4 (conditions (start-4 c)))
held-4 c = met-more 3 (conditions (start-4 c)) (held-3 c.before.before) refl (sym c.whole_row-2.ensures ∙ c.if-not-whole_row-2.false)

held-5 : (c : Lts-Else-not-all_finite) → Met (take 5 (conditions (start-5 c)))
held-5 c = met-more 4 (conditions (start-5 c)) (held-4 c.before.before) refl (sym c.all_finite.ensures ∙ c.if-not-all_finite.false)

held-6 : (c : Lts-Else-not-all_below) → Met (take 6 (conditions (start-6 c)))
held-6 c = met-more 5 (conditions (start-6 c)) (held-5 c.before.before) refl (sym c.all_below.ensures ∙ c.if-not-all_below.false)

held-7 : (c : Lts-Else-size-gt-LIMIT) → Met (take 7 (conditions (start-7 c)))
held-7 c = met-more 6 (conditions (start-7 c)) (held-6 c.before) refl (le-leb _ _ c.if-size-gt-LIMIT.false)

-- the lengths of the rows, where the size is summed up
short : (c : Lts-Else-not-all_below) → (length (start-6 c).args.vertices.now ≤ 196_605) × (length (start-6 c).args.corners.now ≤ 196_605)
short c =
    let m = held-6 c in
    ((whole_row _ m.1.1.0).1, (whole_row _ m.1.1.1.0).1)

pub returns-then-zero-name : goal.returns-then-zero-name
returns-then-zero-name c =
    let a = c.args in
    ap (λ (p : ℕ). Err (Name p)) c.first_zero-zero.ensures ∙
    refused-at a.name.now a.vertices.now a.corners.now a.room 0 tt refl (some-bad not_zero _ (omega arith))

pub returns-then-taken-name : goal.returns-then-taken-name
returns-then-taken-name c =
    ap (λ (p : ℕ). Err (Text p)) c.label_size-taken.ensures ∙
    refused-at _ _ _ _ 1 (held-1 c.before.before.before) refl (label_unfit _ (omega arith))

pub returns-then-not-whole_row : goal.returns-then-not-whole_row
returns-then-not-whole_row c = refused-at _ _ _ _ 2 (held-2 c.before.before.before) refl (sym c.whole_row.ensures ∙ c.if-not-whole_row.true)

pub returns-then-not-whole_row-2 : goal.returns-then-not-whole_row-2
returns-then-not-whole_row-2 c = refused-at _ _ _ _ 3 (held-3 c.before.before.before) refl (sym c.whole_row-2.ensures ∙ c.if-not-whole_row-2.true)

pub returns-then-not-all_finite : goal.returns-then-not-all_finite
returns-then-not-all_finite c =
    ap (λ (p : ℕ). Err (Number p)) c.first_not_finite.ensures ∙
    refused-at _ _ _ _ 4 (held-4 c.before.before.before.before) refl (sym c.all_finite.ensures ∙ c.if-not-all_finite.true)

pub overflow_cast-n : goal.overflow_cast-n
overflow_cast-n c =
    let n = length (start-5 c.before).args.vertices.now in
    let s : n ≤ 196_605 = (whole_row n (held-5 c.before).1.1.0).1 in
    let d : n / 3 < 65_536 = omega arith in
    record { fits = d }

pub returns-then-not-all_below : goal.returns-then-not-all_below
returns-then-not-all_below c =
    ap (λ (p : ℕ). Err (Index p)) c.first_not_below.ensures ∙
    refused-at _ _ _ _ 5 (held-5 c.before.before.before.before) refl (sym c.all_below.ensures ∙ c.if-not-all_below.true)

pub overflow_add-size-2 : goal.overflow_add-size-2
overflow_add-size-2 c = let s = short c.before in omega arith

pub overflow_add-size-3 : goal.overflow_add-size-3
overflow_add-size-3 c = let s = short c.before in omega arith

pub returns-then-size-gt-LIMIT : goal.returns-then-size-gt-LIMIT
returns-then-size-gt-LIMIT c = refused-at _ _ _ _ 6 (held-6 c.before.before) refl (lt-leb _ _ c.if-size-gt-LIMIT.true)

pub returns-then-room-size : goal.returns-then-room-size
returns-then-room-size c = refused-at _ _ _ _ 7 (held-7 c.before.before) refl (lt-leb _ _ c.if-room-size.true)

pub returns : goal.returns
returns c =
    sized _ _ _ _ (met-more 7 (conditions (start-7 c.before.before)) (held-7 c.before.before) refl (le-leb _ _ c.if-room-size.false))
