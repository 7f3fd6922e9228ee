-- The mesh that is asked for, by the check's answer and the search.
use Rattle.std.specs.Prelude.{Result, Ok, Err}
use mathlib.Core.Path.{◌≡◌, refl, sym, ap, ◌∙◌}
use Prim.Native.Nat.{ℕ}
use native.Mathlib.Omega.{arith}
use mathlib.Core.List.{List}
use mathlib.Core.Option.{Option, none, some}
use lib.ListN.{length, get_elem?}
use Rattle.shared_words.specs.declared.Refusal.{Refusal}
use Rattle.shared_words.specs.Conditions.{refused, accepted}
use Rattle.shared_words.specs.Picked.{pick_mesh}
use Rattle.cob_rules.specs.Layout.{Layout}
use Rattle.cob_rules.specs.Walk.{Verdict, verdict}
use Rattle.cob_rules.specs.Gives.{Mesh, meshes}
use Rattle.cob_rules.specs.Calls.{check_of, check_call, of_mesh}
use Rattle.cob_tables.specs.declared.Span.{Span}
use Rattle.cob_tables.specs.Asked.{Readable, FoundIn, FoundIs, picked, AskedTold, AskedIs}

pub refused-by : (v : Verdict) (q : Refusal) → Err q ≡ check_of v → v ≡ refused q
refused-by (refused r) q e = let z : r ≡ q = cc in ap refused z
refused-by (accepted l) q e = let z : ◌≡◌ {A = ℕ} 0 1 = cc in absurd (omega arith)

accepted-by : (v : Verdict) (n : ℕ) → Ok n ≡ check_of v → (l : Layout) × (v ≡ accepted l)
accepted-by (refused r) n e = let z : ◌≡◌ {A = ℕ} 0 1 = cc in absurd (omega arith)
accepted-by (accepted l) n e = (l, refl)

module _ (s : List ℕ) {r : Result ℕ Refusal} (c : r ≡ check_call s) where
  pub file-refused : (mesh : ℕ) {q : Refusal} → r ≡ Err q → AskedIs s mesh (Err q)
  unfolding check_call
  file-refused mesh {q} e = record { told = rw (refused-by (verdict s) q (sym e ∙ c)) }

  pub readable : {n : ℕ} → r ≡ Ok n → Readable s
  unfolding check_call
  readable {n} e = let a = accepted-by (verdict s) n (sym e ∙ c) in record { layout = a.0; is = a.1 }

module _ (s : List ℕ) (mesh : ℕ) (g : Readable s) where
  told_by : (r : Result Span Refusal) → FoundIn s mesh g.layout r → AskedTold s mesh r
  told_by (Ok body) t = (rw (g.is, t.0), t.1)
  told_by (Err q) t = rw (g.is, t.0, t.1)

  pub found-asked : (r : Result Span Refusal) → FoundIs s mesh r → AskedIs s mesh r
  found-asked r f = record { told = told_by r (f.told g.layout g.is) }

-- ---- what a call makes of it

abbrev pub handed : {A : Type 0} → (Refusal → A) → (Mesh → A) → Result Mesh Refusal → A
handed refuse use-it (Err q) = refuse q
handed refuse use-it (Ok m) = use-it m

by-pick : {A : Type 0} (refuse : Refusal → A) (use-it : Mesh → A) (mesh : ℕ) (v : Verdict) → of_mesh refuse use-it mesh v ≡ handed refuse use-it (of_mesh (λ q. Err q) (λ m. Ok m) mesh v)
by-pick refuse use-it mesh (refused r) = refl
by-pick refuse use-it mesh (accepted l) = go (get_elem? (meshes l) mesh)
  where
    go : (o : Option Mesh) → pick_mesh refuse use-it (length (meshes l)) o ≡ handed refuse use-it (pick_mesh (λ q. Err q) (λ m. Ok m) (length (meshes l)) o)
    go none = refl
    go (some m) = refl

pub of-picked : {A : Type 0} (refuse : Refusal → A) (use-it : Mesh → A) (s : List ℕ) (mesh : ℕ) (p : Result Mesh Refusal) → picked s mesh ≡ p → of_mesh refuse use-it mesh (verdict s) ≡ handed refuse use-it p
of-picked refuse use-it s mesh p e = by-pick refuse use-it mesh (verdict s) ∙ ap (handed refuse use-it) e
