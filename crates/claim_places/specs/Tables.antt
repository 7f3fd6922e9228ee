-- THE TABLES OF A MESH HOLD WHAT STANDS IN THE FILE: of every mesh whose tables a call has filled, in whatever rows.
use Rattle.std.specs.Prelude.{◌≡◌, List, map, ℕ, Ok}
use Rattle.std.proofs.Math.Option.{some}
use Rattle.std.specs.Float.{binary32}
use Rattle.std.specs.Float.Ieee.{to_bits}
use Rattle.std.proofs.Math.ListN.{get_elem?}
use Rattle.shared_words.specs.Bytes.{Bytes}
use Rattle.shared_words.specs.Floats.{float}
use Rattle.studio_rules.specs.declared.Sizes.{Sizes}
use Rattle.studio_rules.specs.Layout.{Run}
use Rattle.studio_rules.specs.Rules.{Meets}
use Rattle.studio_rules.specs.Calls.{Rows, Tables, sizes_of, rows_with, tables_call}
use Rattle.studio_meshes_rules.specs.Standing.{Standing, mesh_in, standing}
use Rattle.studio_meshes.specs.InPlace.{ReadInPlace}

-- mesh number `number` of the file s, which meets the rules: where it stands, and what the call has left in its rows
pub record TablesOfMesh {A B C : Type 0} (t : Tables A B C) (s : List ℕ) (number : ℕ) (rows : Rows A B C) (sizes : Sizes) : Type 0 where
  pub kids : Run
  pub meets : Meets s kids
  pub mesh : Standing
  pub mesh-is : get_elem? (standing kids) number ≡ some mesh
  pub sizes_are : sizes ≡ sizes_of (mesh_in mesh)
  pub rows_are : (tables_call t s number rows).rows ≡ rows_with t rows (mesh_in mesh)
  -- the numbers are those of the file: three a vertex, three a face, two a pair of its 4140; behind these the missing pairs, as zeros
  pub in_place : ReadInPlace s mesh
  -- and as floats they are the same bits
  pub bit_for_bit : map (to_bits binary32) (map float (mesh_in mesh).vertices) ≡ (mesh_in mesh).vertices

abbrev pub TablesPoint : Type 1
TablesPoint = (A B C : Type 0) (t : Tables A B C) (s : List ℕ) → Bytes s → (number : ℕ) (rows : Rows A B C) (sizes : Sizes) →
    (tables_call t s number rows).answer ≡ Ok sizes → TablesOfMesh t s number rows sizes
