-- The parts of the verdict, one after another.
use Rattle.std.specs.Prelude.{Result, Ok, Err}
use mathlib.Core.Path.{◌≡◌, ◌∙◌}
use Prim.Native.Nat.{ℕ, ◌-◌, ◌<◌, ◌≤◌}
use mathlib.Core.Bool.{true, false}
use mathlib.Core.List.{List}
use lib.ListN.{length, take, drop}
use borrow.Author.Tests.{le-leb, lt-leb}
use Rattle.shared_words.specs.declared.Refusal.{Refusal}
use Rattle.shared_words.specs.declared.Refusal.TheVariants.{TooLong, Form}
use Rattle.shared_words.specs.Lists.{same}
use Rattle.shared_words.specs.Conditions.{broken, refused}
use Rattle.shared_words.specs.Refusals.{limit}
use Rattle.c4d_rules.specs.Layout.{file_header}
use Rattle.c4d_rules.specs.Rules.{start}
use Rattle.c4d_rules.specs.Read.{walk}
use Rattle.c4d_rules.specs.Walk.{chunk_grammar, verdict}
use Rattle.c4d_rules.specs.Calls.{c4d_check_call}
use Rattle.c4d_objects.specs.declared.Figure.{Figure}
use Rattle.c4d_chunks.specs.Steps.{Walks}
use Rattle.c4d_check.specs.Reads.{Judged, Reads}

module _ (s : List ℕ) where
  pub verdict-long : limit < length s → verdict s ≡ refused TooLong
  unfolding verdict broken
  verdict-long l = rw (lt-leb (length s) limit l)

  pub verdict-form : length s ≤ limit → same (take 12 s) (file_header (length s - 8)) ≡ false → verdict s ≡ refused Form
  unfolding verdict broken
  verdict-form l e = rw (le-leb (length s) limit l, e)

  module _ (l : length s ≤ limit) (e : same (take 12 s) (file_header (length s - 8)) ≡ true) where
    verdict-walk : verdict s ≡ walk chunk_grammar start 12 (drop 12 s)
    unfolding verdict broken
    verdict-walk = rw (le-leb (length s) limit l, e)

    pub reads : (notes₀ notes : List ℕ) (r : Result Figure Refusal) → Walks s notes₀ notes r → Reads s notes₀ notes r
    reads notes₀ notes (Err x) w = verdict-walk ∙ w
    reads notes₀ notes (Ok f) w = record { layout = w.layout; is = verdict-walk ∙ w.walked; counts = w.counts; noted = w.noted; short = l }

  -- ---- the check

  pub checked_refused : (x : Refusal) → verdict s ≡ refused x → c4d_check_call s ≡ Err x
  unfolding c4d_check_call
  checked_refused x e = rw e

  pub checked_good : (notes₀ notes : List ℕ) (f : Figure) → Judged s notes₀ notes f → c4d_check_call s ≡ Ok f.objects
  unfolding c4d_check_call
  checked_good notes₀ notes f j = rw (j.is, j.counts.objects_are)
