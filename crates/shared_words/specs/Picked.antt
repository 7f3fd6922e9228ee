-- A mesh by its number, whatever the format.
use Rattle.std.specs.Prelude.{ℕ}
use Rattle.std.proofs.Math.Option.{Option, none, some}
use Rattle.shared_words.specs.declared.Refusal.{Refusal}
use Rattle.shared_words.specs.declared.Refusal.TheVariants.{NoSuchMesh}

-- the mesh of a number, among so many of a figure; 16 refuses the number, not the file
abbrev pub pick_mesh : {A Mesh : Type 0} → (Refusal → A) → (Mesh → A) → ℕ → Option Mesh → A
pick_mesh refuse use-it meshes none = refuse (NoSuchMesh meshes)
pick_mesh refuse use-it meshes (some m) = use-it m
