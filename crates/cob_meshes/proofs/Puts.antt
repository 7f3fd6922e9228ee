-- One chunk: nothing put, or the numbers of a mesh.
use mathlib.Core.Path.{◌≡◌, refl, sym, subst, ◌∙◌}
use Prim.Native.Nat.{ℕ, ◌+◌, ◌-◌}
use native.Mathlib.Omega.{arith}
use mathlib.Core.Bool.{true, false, true≢false}
use mathlib.Core.List.{List}
use lib.ListN.{length, drop, length-take, length-drop}
use Rattle.shared_words.specs.Bytes.{packed}
use Rattle.shared_numbers.specs.Put.{Put}
use Rattle.cob_rules.specs.Kinds.{is_mesh}
use Rattle.cob_rules.specs.Layout.{kind}
use Rattle.cob_chunk.specs.Chunks.{chunk_in}
use Rattle.cob_tables.specs.Asked.{body_in, Stands}
use Rattle.cob_meshes_rules.specs.Standing.{mesh_numbers}
use Rattle.cob_meshes.specs.Meshes.{mesh_here, PutMesh}

pub body-long : {s : List ℕ} {from to : ℕ} → Stands s from to → from + length (body_in s from to) ≡ to
body-long {s} {from} {to} h = omega (arith, h.rises, h.inside, length-take (to - from) (drop from s), length-drop from s)

module _ {s : List ℕ} {at next number : ℕ} {row : List ℕ} {to : ℕ} where
  pub mesh-none : is_mesh (kind (chunk_in s at)) ≡ false → PutMesh s at next number row to row to
  mesh-none e = record { yes = λ y. absurd (true≢false (sym y ∙ e)); no = λ n. (refl, refl) }

  pub mesh-put : is_mesh (kind (chunk_in s at)) ≡ true → {ns row' : List ℕ} {to' : ℕ} → ns ≡ mesh_numbers (mesh_here s at next number) → Put row to (packed 4 ns) row' to' →
      PutMesh s at next number row to row' to'
  mesh-put e {ns} {row'} {to'} f p = record { yes = λ y. subst (λ (k : List ℕ). Put row to (packed 4 k) row' to') f p; no = λ n. absurd (true≢false (sym e ∙ n)) }
