-- The known chunks of a layout alone. Two layouts that have the same ones differ by unlisted chunks only, and demand 3
-- says what those do not change: here every unlisted chunk counts as put in.
use mathlib.Core.Path.{◌≡◌, refl, sym, ap, ◌∙◌}
use native.Mathlib.Omega.{arith}
use Rattle.studio_rules.specs.Layout.{Run, ◌then◌}
use Rattle.studio_rules.specs.Gives.{record_count, skipped}
use Rattle.studio_rules.specs.Gaps.{Marked, end, put, known, without, with}
use Rattle.studio_rules.proofs.Then.{then_end}

-- every skipped chunk marked
abbrev pub marked : Run → Marked
marked Run.end = end
marked (Run.skip id body t) = put id body (marked t)
marked (Run.known id own kids t) = known id own (marked kids) (marked t)

abbrev pub bare : Run → Run
bare t = without (marked t)

pub with-marked : (t : Run) → with (marked t) ≡ t
with-marked Run.end = refl
with-marked (Run.skip id body t) = rw (with-marked t)
with-marked (Run.known id own kids t) = rw (with-marked kids, with-marked t)

-- what chunks put in do not change is the same of two layouts with the same known chunks
pub same-of-bare : {A : Type 0} (f : Run → A) → ((m : Marked) → f (with m) ≡ f (without m)) → (t u : Run) → bare u ≡ bare t → f u ≡ f t
same-of-bare f h t u e = ap f (sym (with-marked u)) ∙ h (marked u) ∙ ap f e ∙ sym (h (marked t)) ∙ ap f (with-marked t)

pub bare_then : (a t : Run) → bare (a then t) ≡ bare a then bare t
bare_then Run.end t = refl
bare_then (Run.skip id body a) t = bare_then a t
bare_then (Run.known id own kids a) t = rw (bare_then a t)

bare-none : (w : Run) → record_count w ≡ 0 → bare w ≡ Run.end
bare-none Run.end n = refl
bare-none (Run.skip id body w) n = bare-none w n
bare-none (Run.known id own kids w) n = absurd (omega arith)

-- chunks that are not known, behind a run and before one
pub bare_then_none : (t w : Run) → record_count w ≡ 0 → bare (t then w) ≡ bare t
bare_then_none t w n = bare_then t w ∙ rw (bare-none w n) (then_end (bare t))

pub bare-none_then : (w t : Run) → record_count w ≡ 0 → bare (w then t) ≡ bare t
bare-none_then w t n = bare_then w t ∙ rw (bare-none w n)

-- nothing is skipped: the layout is its known chunks
pub bare-whole : (t : Run) → skipped t ≡ 0 → bare t ≡ t
bare-whole Run.end n = refl
bare-whole (Run.skip id body t) n = absurd (omega arith)
bare-whole (Run.known id own kids t) n = rw (bare-whole kids (omega arith), bare-whole t (omega arith))
