-- The calls' answers and rows: by the room in them, and by the mesh that was asked for.
use Rattle.std.specs.Prelude.{Result, Ok, Err}
use mathlib.Core.Path.{◌≡◌, sym, ap, subst, ◌∙◌}
use Prim.Native.Nat.{ℕ, ◌+◌, ◌*◌, ◌/◌, ◌<◌, ◌≤◌}
use native.Mathlib.Nat.{div-mul-le_self}
use native.Mathlib.Omega.{arith}
use mathlib.Core.List.{List}
use lib.ListN.{length, drop}
use borrow.Author.Tests.{le-leb, lt-leb}
use Rattle.shared_words.specs.declared.Refusal.{Refusal}
use Rattle.shared_words.specs.declared.Refusal.TheVariants.{NoRoom}
use Rattle.shared_words.specs.Bytes.{le, packed, numbers}
use Rattle.shared_words.specs.Effects.{Effect, leaving, filled}
use Rattle.shared_words.specs.Encodings.{number_bytes}
use Rattle.shared_words.proofs.Numbers.{length-numbers}
use Rattle.shared_numbers.specs.Numbers.{long_at}
use Rattle.shared_numbers.specs.Put.{Put}
use Rattle.shared_numbers.proofs.Put.{put_then, put_front}
use Rattle.cob_rules.specs.Mesh.{faces_at, faces_of, triangles, corners_of}
use Rattle.cob_rules.specs.Gives.{Mesh, mesh_in}
use Rattle.cob_rules.specs.Calls.{give, sizes_of, sizes_call, Rows, tables_of, tables_call}
use Rattle.cob_mesh.specs.declared.Lists.{Lists}
use Rattle.cob_mesh.specs.Laid.{Whole, Laid}
use Rattle.cob_mesh.proofs.Below.{vertices_are, faces_are}
use Rattle.cob_tables.specs.declared.Span.{Span}
use Rattle.cob_tables.specs.Asked.{body_in, Stands, AskedTold, AskedIs}
use Rattle.cob_tables.specs.Rows.{rows, TablesAre}
use Rattle.cob_tables.proofs.Picks.{of-picked}
use Rattle.cob_rules.proofs.Triangles.{three-each}

-- ---- the sizes of a body

pub sizes-no-room : (m : Mesh) (row : List ℕ) → length row / 4 < 2 →
    (Err (NoRoom 2) ≡ (give (number_bytes 4) (sizes_of m) row).answer) × (row ≡ (give (number_bytes 4) (sizes_of m) row).rows)
sizes-no-room m row h = let t = lt-leb 2 (length row / 4) h in (rw t, rw t)

module _ {body : List ℕ} {l : Lists} (h : Laid body l) where
  vertex-count : (mesh_in body).vertex_count ≡ long_at body l.vertices
  unfolding long_at
  vertex-count = rw h.vertices-at

  pub faces-whole : {n : ℕ} → n ≡ long_at body l.faces → Whole body (l.faces + 4) n
  unfolding long_at
  faces-whole e = subst (Whole body (l.faces + 4)) (sym e) h.faces-whole

  module _ {count : ℕ} (c : count ≡ long_at body l.faces) where
    faces_in : faces_of body ≡ faces_at count (drop (l.faces + 4) body)
    faces_in = faces_are h ∙ ap (λ (k : ℕ). faces_at k (drop (l.faces + 4) body)) (sym c)

    face-count : {f : ℕ} → f ≡ length (triangles (faces_at count (drop (l.faces + 4) body))) → (mesh_in body).face_count ≡ f
    face-count e = rw faces_in (sym e)

    pub sizes-put : {v f : ℕ} {row row₁ row₂ : List ℕ} {i j : ℕ} → v ≡ long_at body l.vertices → f ≡ length (triangles (faces_at count (drop (l.faces + 4) body))) →
        2 ≤ length row / 4 → Put row 0 (le 4 v) row₁ i → Put row₁ i (le 4 f) row₂ j →
        (Ok 2 ≡ (give (number_bytes 4) (sizes_of (mesh_in body)) row).answer) × (row₂ ≡ (give (number_bytes 4) (sizes_of (mesh_in body)) row).rows)
    sizes-put {v} {f} {row} {row₁} {row₂} a b r p q =
        let t = le-leb 2 (length row / 4) r in
        let n = vertex-count ∙ sym a in
        let m = face-count b in
        (rw t, rw (t, n, m) (put_front (put_then {a = le 4 v} {b = le 4 f} (omega arith) p q)))

    -- ---- the tables of a body

    module _ {v : ℕ} (a : v ≡ long_at body l.vertices) where
      vertices_in_lem : (mesh_in body).vertices ≡ numbers 4 (3 * v) (drop (l.vertices + 4) body)
      vertices_in_lem = vertices_are h ∙ ap (λ (k : ℕ). numbers 4 (3 * k) (drop (l.vertices + 4) body)) (sym a)

      vertices-long : length (mesh_in body).vertices ≡ 3 * v
      vertices-long = ap length vertices_in_lem ∙ length-numbers 4 (3 * v) (drop (l.vertices + 4) body)

      pub no-vertices : (vs cs : List ℕ) → length vs / 4 < 3 * v → TablesAre (mesh_in body) vs cs (Err (NoRoom (3 * v))) vs cs
      no-vertices vs cs r =
          let e = vertices-long in
          let t = lt-leb (3 * v) (length vs / 4) r in
          record { answer-is = rw (e, t); vertices_are = rw (e, t); corners_are = rw (e, t) }

      module _ {f : ℕ} (b : f ≡ length (triangles (faces_at count (drop (l.faces + 4) body)))) (vs cs : List ℕ) (r : 3 * v ≤ length vs / 4) where
        corners_in : (mesh_in body).corners ≡ corners_of (triangles (faces_at count (drop (l.faces + 4) body)))
        corners_in = rw faces_in

        corners-long : length (mesh_in body).corners ≡ 3 * f
        corners-long = ap length corners_in ∙ three-each (faces_at count (drop (l.faces + 4) body)) ∙ ap (λ (k : ℕ). 3 * k) (sym b)

        pub no-corners : length cs / 4 < 3 * f → TablesAre (mesh_in body) vs cs (Err (NoRoom (3 * f))) vs cs
        no-corners q =
            let d = vertices-long in
            let e = corners-long in
            let t = le-leb (3 * v) (length vs / 4) r in
            let u = lt-leb (3 * f) (length cs / 4) q in
            record { answer-is = rw (d, t, e, u); vertices_are = rw (d, t, e, u); corners_are = rw (d, t, e, u) }

        -- room for the corners, in bytes
        pub corners-room : 3 * f ≤ length cs / 4 → 4 * length (corners_of (triangles (faces_at count (drop (l.faces + 4) body)))) ≤ length cs
        corners-room q = omega (arith, ap length (sym corners_in) ∙ corners-long, div-mul-le_self (length cs) 4)

        pub all-filled : 3 * f ≤ length cs / 4 → {vs' cs' : List ℕ} → vs' ≡ filled (packed 4 (numbers 4 (3 * v) (drop (l.vertices + 4) body))) vs →
            cs' ≡ filled (packed 4 (corners_of (triangles (faces_at count (drop (l.faces + 4) body))))) cs → TablesAre (mesh_in body) vs cs (Ok v) vs' cs'
        all-filled q x y =
            let d = vertices-long in
            let e = corners-long in
            let t = le-leb (3 * v) (length vs / 4) r in
            let u = le-leb (3 * f) (length cs / 4) q in
            let n : v ≡ (mesh_in body).vertex_count = a ∙ sym vertex-count in
            record {
              answer-is = rw (d, t, e, u) (ap Ok n);
              vertices_are = rw (d, t, e, u) (x ∙ ap (λ (k : List ℕ). filled (packed 4 k) vs) (sym vertices_in_lem));
              corners_are = rw (d, t, e, u) (y ∙ ap (λ (k : List ℕ). filled (packed 4 k) cs) (sym corners_in));
            }

-- ---- the calls

module _ {s : List ℕ} {mesh : ℕ} {r : Result Span Refusal} (a : AskedIs s mesh r) where
  asked_as : (x : Result Span Refusal) → r ≡ x → AskedTold s mesh x
  asked_as x e = subst (AskedTold s mesh) e a.told

  pub body-stands : {b : Span} → r ≡ Ok b → Stands s b.from b.to
  body-stands {b} e = (asked_as (Ok b) e).1

  module _ (row : List ℕ) where
    pub sizes-refused : {q : Refusal} → r ≡ Err q →
        (Err q ≡ (sizes_call (number_bytes 4) s mesh row).answer) × (row ≡ (sizes_call (number_bytes 4) s mesh row).rows)
    unfolding sizes_call
    sizes-refused {q} e =
        let t = of-picked (λ q. leaving (Err q) row) (λ m. give (number_bytes 4) (sizes_of m) row) s mesh (Err q) (asked_as (Err q) e) in
        (rw t, rw t)

    pub sizes-of-body : {x : Span} → r ≡ Ok x → {b : Result ℕ Refusal} {row' : List ℕ} →
        (b ≡ (give (number_bytes 4) (sizes_of (mesh_in (body_in s x.from x.to))) row).answer) × (row' ≡ (give (number_bytes 4) (sizes_of (mesh_in (body_in s x.from x.to))) row).rows) →
        (b ≡ (sizes_call (number_bytes 4) s mesh row).answer) × (row' ≡ (sizes_call (number_bytes 4) s mesh row).rows)
    unfolding sizes_call
    sizes-of-body {x} e p =
        let t = of-picked (λ q. leaving (Err q) row) (λ m. give (number_bytes 4) (sizes_of m) row) s mesh (Ok (mesh_in (body_in s x.from x.to))) (asked_as (Ok x) e).0 in
        (rw t p.0, rw t p.1)

  module _ (vs cs : List ℕ) where
    abbrev call : Effect (Result ℕ Refusal) Rows
    call = tables_call (number_bytes 4) s mesh (rows vs cs)

    pub tables-refused : {q : Refusal} → r ≡ Err q → (Err q ≡ call.answer) × (rows vs cs ≡ call.rows)
    unfolding tables_call
    tables-refused {q} e =
        let t = of-picked (λ q. leaving (Err q) (rows vs cs)) (tables_of (number_bytes 4) (rows vs cs)) s mesh (Err q) (asked_as (Err q) e) in
        (rw t, rw t)

    pub tables-of-body : {x : Span} → r ≡ Ok x → {b : Result ℕ Refusal} {vs' cs' : List ℕ} → TablesAre (mesh_in (body_in s x.from x.to)) vs cs b vs' cs' →
        (b ≡ call.answer) × (rows vs' cs' ≡ call.rows)
    unfolding tables_call
    tables-of-body {x} e p =
        let t = of-picked (λ q. leaving (Err q) (rows vs cs)) (tables_of (number_bytes 4) (rows vs cs)) s mesh (Ok (mesh_in (body_in s x.from x.to))) (asked_as (Ok x) e).0 in
        (rw t p.answer-is, rw t (rw (p.vertices_are, p.corners_are)))
