-- The mesh that is asked for: what its search promises.
use Rattle.std.specs.Prelude.{◌≡◌, ℕ, ◌-◌, ◌≤◌, true, Result, Ok, Err, List, length, take, drop}
use Rattle.std.proofs.Math.Option.{none, some}
use Rattle.std.proofs.Math.ListN.{get_elem?}
use Rattle.shared_words.specs.declared.Refusal.{Refusal}
use Rattle.shared_words.specs.declared.Refusal.TheVariants.{NoSuchMesh}
use Rattle.shared_words.specs.Conditions.{accepted}
use Rattle.cob_rules.specs.declared.Kind.{Kind}
use Rattle.cob_rules.specs.Body.{exact}
use Rattle.cob_rules.specs.Layout.{Layout}
use Rattle.cob_rules.specs.Walk.{verdict}
use Rattle.cob_rules.specs.Gives.{Mesh, mesh_in, meshes}
use Rattle.cob_rules.specs.Calls.{of_mesh}
use Rattle.cob_tables.specs.declared.Span.{Span}

-- a file that is accepted
pub record Readable (s : List ℕ) : Type 0 where
  pub layout : Layout
  pub is : verdict s ≡ accepted layout

abbrev pub body_in : List ℕ → ℕ → ℕ → List ℕ
body_in s from to = take (to - from) (drop from s)

-- the body of a mesh stands from one offset to another
pub record Stands (s : List ℕ) (from to : ℕ) : Type 0 where
  pub rises : from ≤ to
  pub inside : to ≤ length s
  pub exact-is : exact Kind.PolH (body_in s from to) ≡ true

abbrev pub FoundIn : List ℕ → ℕ → Layout → Result Span Refusal → Type 0
FoundIn s mesh l (Ok body) = (get_elem? (meshes l) mesh ≡ some (mesh_in (body_in s body.from body.to))) × Stands s body.from body.to
FoundIn s mesh l (Err q) = (get_elem? (meshes l) mesh ≡ none) × (NoSuchMesh (length (meshes l)) ≡ q)

pub record FoundIs (s : List ℕ) (mesh : ℕ) (r : Result Span Refusal) : Type 0 where
  pub told : (l : Layout) → verdict s ≡ accepted l → FoundIn s mesh l r

-- what `of_mesh` makes of a file and a mesh number, before it is used
abbrev pub picked : List ℕ → ℕ → Result Mesh Refusal
picked s mesh = of_mesh (λ q. Err q) (λ m. Ok m) mesh (verdict s)

abbrev pub AskedTold : List ℕ → ℕ → Result Span Refusal → Type 0
AskedTold s mesh (Err q) = picked s mesh ≡ Err q
AskedTold s mesh (Ok body) = (picked s mesh ≡ Ok (mesh_in (body_in s body.from body.to))) × Stands s body.from body.to

pub record AskedIs (s : List ℕ) (mesh : ℕ) (r : Result Span Refusal) : Type 0 where
  pub told : AskedTold s mesh r
