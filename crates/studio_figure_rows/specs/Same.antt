-- Rows that fit give the same figure by position as taken apart from the front; and what they must add up to.
use Rattle.std.specs.Prelude.{◌≡◌, ◌+◌, ◌*◌, ◌%◌, length}
use Rattle.std.proofs.Math.Option.{none}
use Rattle.shared_words.specs.Conditions.{broken}
use Rattle.studio_figure_rules.specs.Described.{Flat, fit_conditions, described}
use Rattle.studio_figure_rows.specs.Rows.{sum_to, object_count, group_count, groups_from, figure_of}

-- THE ROWS FIT the description
pub record Fits (r : Flat) : Type 0 where
  pub objects : length r.objects % 5 ≡ 0
  pub groups : length r.groups ≡ 2 * sum_to 5 4 r.objects (object_count r)
  pub names : length r.names ≡ groups_from r + sum_to 2 0 r.groups (group_count r)
  pub vertices : length r.vertices ≡ sum_to 5 1 r.objects (object_count r)
  pub corners : length r.corners ≡ sum_to 5 2 r.objects (object_count r)
  pub smoothing : length r.smoothing ≡ sum_to 5 3 r.objects (object_count r)
  pub faces : length r.faces ≡ sum_to 2 1 r.groups (group_count r)
  pub colours : length r.colours ≡ 9 * length r.materials

pub record ByPosition (r : Flat) : Type 0 where
  pub fits : broken (fit_conditions r) ≡ none → Fits r
  pub same : Fits r → described r ≡ figure_of r
