-- The search for a mesh: what is known before each chunk, and what it finds.
use mathlib.Core.Path.{◌≡◌, refl, sym, ap, subst, ◌∙◌}
use Prim.Native.Nat.{ℕ, zero, suc, ◌+◌, ◌<◌, ◌≤◌}
use native.Mathlib.Omega.{arith}
use mathlib.Core.Bool.{Bool, true, false, cond}
use mathlib.Core.List.{List, [], ◌∷◌, ◌++◌, append_assoc, append-nil}
use mathlib.Core.Option.{none, some}
use lib.ListN.{length, get_elem?, length-append}
use Rattle.cob_rules.specs.Kinds.{is_end, is_mesh}
use Rattle.cob_rules.specs.Layout.{Chunk, kind, size, Layout}
use Rattle.cob_rules.specs.Gives.{one_if, Mesh, mesh_in, mesh_of, meshes_of, meshes}
use Rattle.cob_rules.proofs.Verdict.{one-accepted}
use Rattle.cob_chunk.specs.Chunks.{chunk_in}
use Rattle.std.specs.Prelude.{Ok, Err}
use Rattle.shared_words.specs.declared.Refusal.TheVariants.{NoSuchMesh}
use Rattle.cob_tables.specs.Asked.{Readable, FoundIn, FoundIs}
use Rattle.cob_tables.proofs.Chunks.{Passing, passing_all, no_more, there, here-is, passing_on, body-here, mesh-stands}

-- ---- the element of a number

elem_here : {A : Type 0} (xs : List A) (x : A) (ys : List A) → get_elem? (xs ++ (x ∷ ys)) (length xs) ≡ some x
elem_here [] x ys = refl
elem_here (y ∷ xs) x ys = elem_here xs x ys

elem_none : {A : Type 0} (xs : List A) (i : ℕ) → length xs ≤ i → get_elem? xs i ≡ none
elem_none [] i l = refl
elem_none (x ∷ xs) zero l = absurd (omega arith)
elem_none (x ∷ xs) (suc i) l = elem_none xs i (omega arith)

-- ---- what is known before a chunk

pub record Finding (s : List ℕ) (mesh at n : ℕ) : Type 0 where
  pub given : Readable s
  pub left : List Chunk
  pub passing : Passing s given at left
  pub done : List Mesh
  pub split : done ++ meshes_of left ≡ meshes given.layout
  pub counted : length done ≡ n
  pub few : n ≤ mesh

pub starts : (s : List ℕ) (mesh : ℕ) → Readable s → Finding s mesh 32 0
starts s mesh g = record { given = g; left = g.layout.chunks; passing = passing_all s g; done = []; split = refl; counted = refl; few = omega arith }

module _ {s : List ℕ} {mesh at n : ℕ} (r : Finding s mesh at n) where
  abbrev l : Layout
  l = r.given.layout

  pub nowhere : is_end (kind (chunk_in s at)) ≡ true → FoundIs s mesh (Err (NoSuchMesh n))
  nowhere t = record { told = λ x e. subst (λ (y : Layout). FoundIn s mesh y (Err (NoSuchMesh n))) (one-accepted s r.given.is e) answer }
    where
      all : r.done ≡ meshes l
      all = sym (ap (λ (x : List Chunk). r.done ++ meshes_of x) (no_more r.passing t) ∙ append-nil r.done) ∙ r.split

      answer : FoundIn s mesh l (Err (NoSuchMesh n))
      answer = (rw (← all) (elem_none r.done mesh (omega (arith, r.counted, r.few))), ap NoSuchMesh (ap length (sym all) ∙ r.counted))

  -- ---- at a chunk before END

  module _ (t : is_end (kind (chunk_in s at)) ≡ false) where
    abbrev c : Chunk
    c = (there r.passing t).chunk

    abbrev rest : List Chunk
    rest = (there r.passing t).rest

    is_one : (one : ℕ) → one ≡ cond (is_mesh (kind (chunk_in s at))) 1 0 → one ≡ cond (is_mesh (kind c)) 1 0
    is_one one e = e ∙ ap (λ (x : Chunk). cond (is_mesh (kind x)) 1 0) (here-is r.passing t)

    pub finds : (one next : ℕ) → one ≡ cond (is_mesh (kind (chunk_in s at))) 1 0 → next ≡ at + size (chunk_in s at) → mesh < n + one → FoundIs s mesh (Ok record { from = at + 20; to = next })
    finds one next e f b = record { told = λ x q. subst (λ (y : Layout). FoundIn s mesh y (Ok record { from = at + 20; to = next })) (one-accepted s r.given.is q) (answer (is_mesh (kind c)) refl (is_one one e)) }
      where
        answer : (m : Bool) → is_mesh (kind c) ≡ m → one ≡ cond m 1 0 → FoundIn s mesh l (Ok record { from = at + 20; to = next })
        answer false m o = absurd (omega (arith, r.few))
        answer true m o =
            let i : mesh ≡ length r.done = omega (arith, r.few, r.counted) in
            let g : meshes l ≡ r.done ++ (mesh_of c ∷ meshes_of rest) =
            sym r.split ∙ ap (λ (x : List Chunk). r.done ++ meshes_of x) (there r.passing t).left_is ∙ rw m in (
              ap (λ (x : List Mesh). get_elem? x mesh) g ∙ ap (get_elem? (r.done ++ (mesh_of c ∷ meshes_of rest))) i ∙
                  elem_here r.done (mesh_of c) (meshes_of rest) ∙ ap (λ (x : List ℕ). some (mesh_in x)) (sym (body-here r.passing t next f)),
              mesh-stands r.passing t next f m,
            )

    pub passes : (one next : ℕ) → one ≡ cond (is_mesh (kind (chunk_in s at))) 1 0 → next ≡ at + size (chunk_in s at) → n + one ≤ mesh → Finding s mesh next (n + one)
    passes one next e f b = record {
      given = r.given;
      left = rest;
      passing = passing_on r.passing t next f;
      done = r.done ++ one_if (is_mesh (kind c)) (mesh_of c);
      split = append_assoc r.done (one_if (is_mesh (kind c)) (mesh_of c)) (meshes_of rest) ∙
          ap (λ (x : List Chunk). r.done ++ meshes_of x) (sym (there r.passing t).left_is) ∙ r.split;
      counted = length-append r.done (one_if (is_mesh (kind c)) (mesh_of c)) ∙ count (is_mesh (kind c)) (is_one one e);
      few = b;
    }
      where
        count : (m : Bool) → one ≡ cond m 1 0 → length r.done + length (one_if m (mesh_of c)) ≡ n + one
        count true o = omega (arith, r.counted)
        count false o = omega (arith, r.counted)
