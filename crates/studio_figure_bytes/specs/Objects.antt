-- Objects as code puts them: what must be known of each, where it begins in the rows, and its bytes piece by piece.
use Rattle.std.specs.Prelude.{◌≡◌, true, ℕ, ◌+◌, ◌*◌, ◌%◌, ◌≤◌, ◌<◌, List, ◌++◌, Float, length}
use Rattle.shared_words.specs.Lists.{every}
use Rattle.studio_rules.specs.Layout.{figure, bytes}
use Rattle.studio_write_judge.specs.Judged.{finite_float}
use Rattle.studio_figure_rules.specs.Given.{over}
use Rattle.studio_figure_rules.specs.Built.{layout, smoothing_chunk}
use Rattle.studio_figure_rules.specs.Described.{Flat, described}
use Rattle.studio_figure_rows.specs.declared.FlatRows.{FlatRows}
use Rattle.studio_figure_rows.specs.Rows.{entry, sum_to, run, part, name_at}
use Rattle.studio_figure_objects.specs.Sizes.{between, object_bytes}
use Rattle.studio_figure_chunks.specs.Chunks.{group_bytes, group_in, lists_bytes}
use Rattle.studio_figure_bytes.specs.declared.Place.{Place}

-- the bytes of the figure that flat rows give
abbrev pub flat_bytes : Flat → List ℕ
flat_bytes r = bytes (figure (layout (described r)))

-- the place where object i begins, where the names of all groups begin at a position
pub record At (objects groups : List ℕ) (from i : ℕ) (p : Place) : Type 0 where
  pub name : p.name ≡ sum_to 5 0 objects i
  pub vertex : p.vertex ≡ sum_to 5 1 objects i
  pub corner : p.corner ≡ sum_to 5 2 objects i
  pub word : p.word ≡ sum_to 5 3 objects i
  pub group : p.group ≡ sum_to 5 4 objects i
  pub label : p.label ≡ from + sum_to 2 0 groups p.group
  pub face : p.face ≡ sum_to 2 1 groups p.group

-- the place behind object i, which begins at p
pub record Behind (objects groups : List ℕ) (i : ℕ) (p q : Place) : Type 0 where
  pub name : q.name ≡ p.name + entry 5 0 objects i
  pub vertex : q.vertex ≡ p.vertex + entry 5 1 objects i
  pub corner : q.corner ≡ p.corner + entry 5 2 objects i
  pub word : q.word ≡ p.word + entry 5 3 objects i
  pub group : q.group ≡ p.group + entry 5 4 objects i
  pub label : q.label ≡ p.label + between 0 groups p.group (entry 5 4 objects i)
  pub face : q.face ≡ p.face + between 1 groups p.group (entry 5 4 objects i)

module _ (names objects : List ℕ) (vertices : List Float) (corners smoothing groups faces : List ℕ) (from : ℕ) where
  -- object i can be put
  pub record Writable (i : ℕ) : Type 0 where
    pub there : 5 * i + 5 ≤ length objects
    pub name_in : sum_to 5 0 objects i + entry 5 0 objects i ≤ length names
    pub vertices_in_lem : sum_to 5 1 objects i + entry 5 1 objects i ≤ length vertices
    pub corners_in : sum_to 5 2 objects i + entry 5 2 objects i ≤ length corners
    pub words_in : sum_to 5 3 objects i + entry 5 3 objects i ≤ length smoothing
    pub groups_in_lem : 2 * (sum_to 5 4 objects i + entry 5 4 objects i) ≤ length groups
    pub labels_in : from + sum_to 2 0 groups (sum_to 5 4 objects i + entry 5 4 objects i) ≤ length names
    pub faces_in : sum_to 2 1 groups (sum_to 5 4 objects i + entry 5 4 objects i) ≤ length faces
    pub whole : entry 5 1 objects i % 3 ≡ 0
    pub few-vertices : entry 5 1 objects i ≤ 196_605
    pub few-corners : entry 5 2 objects i ≤ 196_605
    pub finite : every finite_float (part (sum_to 5 1 objects i) (entry 5 1 objects i) vertices) ≡ true
    pub few : (j : ℕ) → j < entry 5 4 objects i → entry 2 1 groups (sum_to 5 4 objects i + j) ≤ 65_535
    pub size : object_bytes objects groups i ≤ 1_048_576

  -- its bytes
  abbrev pub pieces : ℕ → List ℕ
  pieces i =
      lists_bytes (name_at 5 objects names 0 i) (part (sum_to 5 1 objects i) (entry 5 1 objects i) vertices)
      (part (sum_to 5 2 objects i) (entry 5 2 objects i) corners)
      (object_bytes objects groups i) ++
      (over (λ j. group_bytes (group_in names groups faces from (sum_to 5 4 objects i + j))) (run (λ j. j) 0 (entry 5 4 objects i)) ++
      bytes (smoothing_chunk (part (sum_to 5 3 objects i) (entry 5 3 objects i) smoothing)))

-- ---- the same of the rows that code has

abbrev pub WritableIn : FlatRows → ℕ → ℕ → Type 0
WritableIn r from i = Writable r.names.now r.objects.now r.vertices.now r.corners.now r.smoothing.now r.groups.now r.faces.now from i

abbrev pub pieces_in : FlatRows → ℕ → ℕ → List ℕ
pieces_in r from i = pieces r.names.now r.objects.now r.vertices.now r.corners.now r.smoothing.now r.groups.now r.faces.now from i
