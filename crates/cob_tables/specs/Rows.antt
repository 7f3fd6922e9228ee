-- The two rows of the tables; and what the function that fills them promises.
use Rattle.shared_words.specs.declared.Refusal.{Refusal}
use Rattle.std.specs.Prelude.{◌≡◌, List, ℕ, Result}
use Rattle.shared_words.specs.Encodings.{number_bytes}
use Rattle.cob_rules.specs.Gives.{Mesh}
use Rattle.cob_rules.specs.Calls.{Rows, tables_of}

abbrev pub rows : List ℕ → List ℕ → Rows
rows vertices corners = record { vertices = vertices; corners = corners }

pub record TablesAre (m : Mesh) (vertices corners : List ℕ) (r : Result ℕ Refusal) (vertices' corners' : List ℕ) : Type 0 where
  pub answer-is : r ≡ (tables_of (number_bytes 4) (rows vertices corners) m).answer
  pub vertices_are : vertices' ≡ (tables_of (number_bytes 4) (rows vertices corners) m).rows.vertices
  pub corners_are : corners' ≡ (tables_of (number_bytes 4) (rows vertices corners) m).rows.corners
