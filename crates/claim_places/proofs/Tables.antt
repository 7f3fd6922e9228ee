-- The meshes of every call are those that stand in the file, and what is read there is what the tables hold.
use Rattle.studio_rules.specs.declared.Sizes.{Sizes}
use Rattle.shared_words.specs.declared.Refusal.{Refusal}
use Rattle.std.specs.Prelude.{Result}
use mathlib.Core.Path.{◌≡◌, refl, sym, ap, subst, ◌∙◌}
use mathlib.Core.List.{List, [], ◌∷◌, map}
use mathlib.Core.Option.{some}
use Prim.Native.Nat.{ℕ, zero, suc, ◌*◌}
use native.Mathlib.Omega.{arith}
use lib.Ieee.{binary32, to_bits}
use lib.ListN.{drop, get_elem?}
use Rattle.shared_words.specs.Bytes.{numbers}
use Rattle.shared_words.specs.Effects.{Effect}
use Rattle.shared_words.specs.Floats.{float, finite}
use Rattle.shared_words.specs.Lists.{every}
use Rattle.studio_rules.specs.Layout.{Run}
use Rattle.studio_rules.specs.Gives.{Mesh, meshes}
use Rattle.studio_rules.specs.Calls.{Rows, sizes_of, rows_with}
use Rattle.studio_meshes_rules.specs.Standing.{Standing, mesh_in, standing}
use Rattle.studio_meshes_rules.proofs.Same.{same-meshes}
use Rattle.studio_meshes.specs.InPlace.{many, begin, ReadInPlace}
use Rattle.studio_meshes.proofs.InPlace.{in_place}
use Rattle.studio_mesh_rows.proofs.BitForBit.{bit_for_bit}
use Rattle.claim_demands.proofs.Demand2.{demand2}
use Rattle.claim_places.specs.Tables.{TablesPoint}
use Rattle.claim_places.proofs.Names.{picked}
use Rattle.claim_places.proofs.Boxes.{Drawn, all_drawn}

stood : (ms : List Standing) (k : ℕ) (m : Mesh) → get_elem? (map mesh_in ms) k ≡ some m → (x : Standing) × (get_elem? ms k ≡ some x) × (mesh_in x ≡ m)
stood [] k m h = let z : ◌≡◌ {A = ℕ} 0 1 = cc in absurd (omega arith)
stood (x ∷ ms) zero m h = (x, refl, cc)
stood (x ∷ ms) (suc k) m h = stood ms k m h

pub tables-point : TablesPoint
tables-point A B C t s b number rows sizes h =
    let d = (demand2.tabled t s b number rows sizes).0 h in
    let kids : Run = d.0 in
    let m = d.2 in
    let x = stood (standing kids) number m.0 (ap (λ (l : List Mesh). get_elem? l number) (sym (same-meshes kids)) ∙ m.1) in
    let here : Standing = x.0 in
    let read = picked (ReadInPlace s) (standing kids) number here (in_place s kids d.1) x.1 in
    let finite-all = (picked Drawn (meshes kids) number m.0 (all_drawn s kids d.1) m.1).all-finite in
    let there : numbers 4 (3 * many 0x4110 here) (drop (begin 0x4110 here) s) ≡ m.0.vertices = sym read.vertices ∙ ap (λ (y : Mesh). y.vertices) x.2 in
    let bits = bit_for_bit s b (begin 0x4110 here) (3 * many 0x4110 here) (ap (every finite) there ∙ finite-all) in
    record {
      kids = kids;
      meets = d.1;
      mesh = here;
      mesh-is = x.1;
      sizes_are = m.2 ∙ ap sizes_of (sym x.2);
      rows_are = ap (λ (e : Effect (Result Sizes Refusal) (Rows A B C)). e.rows) ((demand2.given s kids d.1).tables_are t number m.0 m.1 rows m.3) ∙ ap (rows_with t rows) (sym x.2);
      in_place = read;
      bit_for_bit = subst (λ (l : List ℕ). map (to_bits binary32) (map float l) ≡ l) (sym read.vertices) bits;
    }
