-- What the functions of this crate say of the whole file, in the words of crate studio_rules.
use Rattle.std.specs.Prelude.{◌≡◌, List, ℕ, ◌+◌, ◌*◌, drop}
use Rattle.studio_rules.specs.declared.Counts.{Counts}
use Rattle.shared_words.specs.Conditions.{Answer}
use Rattle.studio_rules.specs.Walk.{version_in, top, figure_at}
use Rattle.studio_rules.specs.Layout.{Run}

-- the answer to the children of 4D4D, at its end
unfoldable pub figure_answer : List ℕ → Answer Run
figure_answer s = figure_at (top (version_in (drop 6 s))) (drop 6 s)

pub record CountsAre (records bytes size : ℕ) (r : Counts) : Type 0 where
  pub records_are : r.records ≡ records
  pub headers_are : r.headers ≡ 6 * records
  pub own_is : r.own + 6 * records + bytes ≡ size
  pub skipped_are : r.skipped ≡ bytes
