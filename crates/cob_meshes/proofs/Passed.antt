-- The passes over the chunks of an accepted file: the meshes among those passed, counted and put into a row.
use mathlib.Core.Path.{◌≡◌, refl, sym, ap, ◌∙◌}
use Prim.Native.Nat.{ℕ, ◌+◌, ◌*◌, ◌≤◌}
use native.Mathlib.Omega.{arith}
use mathlib.Core.Bool.{Bool, true, false, cond}
use mathlib.Core.List.{List, [], ◌∷◌, ◌++◌, append_assoc, append-nil}
use lib.ListN.{length, length-append}
use Rattle.shared_words.specs.Bytes.{packed}
use Rattle.shared_words.specs.Effects.{filled}
use Rattle.shared_words.proofs.Bytes.{length-packed, packed_append}
use Rattle.shared_numbers.specs.Put.{Put}
use Rattle.shared_numbers.proofs.Put.{put-none, put_then, put_front}
use Rattle.cob_rules.specs.Kinds.{is_end, is_mesh, listed}
use Rattle.cob_rules.specs.Layout.{Chunk, kind, size, Layout}
use Rattle.cob_rules.specs.Gives.{one_if}
use Rattle.cob_rules.proofs.Verdict.{one-accepted}
use Rattle.cob_chunk.specs.Chunks.{chunk_in}
use Rattle.cob_tables.specs.Asked.{Readable}
use Rattle.cob_tables.proofs.Chunks.{Passing, meets, passing_all, head_whole, no_more, there, here-is, here-long, passing_on, body-here, mesh-stands}
use Rattle.cob_meshes_rules.specs.Standing.{Standing, standing_from, standing, flat_meshes}
use Rattle.cob_meshes_rules.specs.Calls.{mesh_bytes}
use Rattle.cob_meshes_rules.proofs.Same.{flat-length, flat_append}
use Rattle.cob_meshes.specs.Meshes.{mesh_here, MeshAt, PutMesh, Counts, SomeRoom, Fills}

-- the meshes `done` have been passed, and the next record has a number
pub record Passed (s : List ℕ) (g : Readable s) (at number : ℕ) (done : List Standing) : Type 0 where
  pub left : List Chunk
  pub passing : Passing s g at left
  pub split : done ++ standing_from at number left ≡ standing g.layout
  pub numbers-few : number ≤ at
  pub meshes-few : length done ≤ at

passed_none : (s : List ℕ) (g : Readable s) → Passed s g 32 0 []
passed_none s g = record { left = g.layout.chunks; passing = passing_all s g; split = refl; numbers-few = omega arith; meshes-few = omega arith }

module _ {s : List ℕ} {g : Readable s} {at number : ℕ} {done : List Standing} (r : Passed s g at number done) where
  pub all_done : is_end (kind (chunk_in s at)) ≡ true → done ≡ standing g.layout
  all_done t = sym (ap (λ (x : List Chunk). done ++ standing_from at number x) (no_more r.passing t) ∙ append-nil done) ∙ r.split

  pub at_small : at ≤ 1048576
  at_small = omega (arith, r.passing.inside, (meets g).within-limit)

  module _ (t : is_end (kind (chunk_in s at)) ≡ false) (next : ℕ) (f : next ≡ at + size (chunk_in s at)) where
    abbrev c : Chunk
    c = (there r.passing t).chunk

    -- the mesh at hand, if the chunk is one
    abbrev pub held : List Standing
    held = one_if (is_mesh (kind (chunk_in s at))) (mesh_here s at next number)

    held-is : held ≡ one_if (is_mesh (kind c)) record { at = at; number = number; body = c.body }
    held-is = rw (here-is r.passing t, body-here r.passing t next f)

    abbrev behind : List Standing
    behind = standing_from (at + size c) (number + cond (listed (kind c)) 1 0) (there r.passing t).rest

    split-here : done ++ (held ++ behind) ≡ standing g.layout
    split-here = ap (λ (x : List Standing). done ++ (x ++ behind)) held-is ∙ ap (λ (x : List Chunk). done ++ standing_from at number x) (sym (there r.passing t).left_is) ∙ r.split

    pub still : length done + length held ≤ length (standing g.layout)
    still = omega (arith, ap length split-here, length-append done (held ++ behind), length-append held behind)

    one-held : length held ≤ 1
    one-held = go (is_mesh (kind (chunk_in s at)))
      where
        go : (b : Bool) → length (one_if b (mesh_here s at next number)) ≤ 1
        go true = omega arith
        go false = omega arith

    pub passed_on : (one : ℕ) → one ≡ cond (listed (kind (chunk_in s at))) 1 0 → one ≤ 1 → Passed s g next (number + one) (done ++ held)
    passed_on one e b =
        let z : standing_from next (number + one) (there r.passing t).rest ≡ behind =
        ap (λ (k : ℕ). standing_from k (number + one) (there r.passing t).rest) (f ∙ ap (λ (x : Chunk). at + size x) (here-is r.passing t)) ∙
        ap (λ (k : ℕ). standing_from (at + size c) (number + k) (there r.passing t).rest) (e ∙ ap (λ (x : Chunk). cond (listed (kind x)) 1 0) (here-is r.passing t)) in
        record {
          left = (there r.passing t).rest;
          passing = passing_on r.passing t next f;
          split = append_assoc done held (standing_from next (number + one) (there r.passing t).rest) ∙ ap (λ (x : List Standing). done ++ (held ++ x)) z ∙ split-here;
          numbers-few = omega (arith, f, here-long r.passing t, r.numbers-few);
          meshes-few = omega (arith, f, here-long r.passing t, r.meshes-few, length-append done held, one-held);
        }

-- ---- counted

pub record Counting (s : List ℕ) (at n : ℕ) : Type 0 where
  pub given : Readable s
  pub number : ℕ
  pub done : List Standing
  pub passed : Passed s given at number done
  pub counted : length done ≡ n

pub counting_starts : (s : List ℕ) → Readable s → Counting s 32 0
counting_starts s g = record { given = g; number = 0; done = []; passed = passed_none s g; counted = refl }

one_if_lem : {A : Type 0} (b : Bool) (x : A) → length (one_if b x) ≡ cond b 1 0
one_if_lem true x = refl
one_if_lem false x = refl

pub counting_on : {s : List ℕ} {at n : ℕ} (r : Counting s at n) → is_end (kind (chunk_in s at)) ≡ false → (one next : ℕ) → one ≡ cond (is_mesh (kind (chunk_in s at))) 1 0 →
    next ≡ at + size (chunk_in s at) → Counting s next (n + one)
counting_on {s} {at} {n} r t one next e f = record {
  given = r.given;
  number = r.number + cond (listed (kind (chunk_in s at))) 1 0;
  done = r.done ++ held r.passed t next f;
  passed = passed_on r.passed t next f (cond (listed (kind (chunk_in s at))) 1 0) refl (few (listed (kind (chunk_in s at))));
  counted = length-append r.done (held r.passed t next f) ∙ omega (arith, r.counted, one_if_lem (is_mesh (kind (chunk_in s at))) (mesh_here s at next r.number), e);
}
  where
    few : (b : Bool) → cond b 1 0 ≤ 1
    few true = omega arith
    few false = omega arith

pub counting_ends : {s : List ℕ} {at n : ℕ} (r : Counting s at n) → is_end (kind (chunk_in s at)) ≡ true → Counts s n
counting_ends {s} r t = record {
  told = λ l e. sym r.counted ∙ ap length (all_done r.passed t) ∙ ap (λ (x : Layout). length (standing x)) (one-accepted s r.given.is e);
}

-- ---- put into a row

encoded_long : (ms : List Standing) → length (mesh_bytes.encode ms) ≡ 32 * length ms
encoded_long ms = omega (arith, length-packed 4 (flat_meshes ms), flat-length ms)

encoded_append : (ms ns : List Standing) → mesh_bytes.encode (ms ++ ns) ≡ mesh_bytes.encode ms ++ mesh_bytes.encode ns
encoded_append ms ns = ap (packed 4) (flat_append ms ns) ∙ packed_append 4 (flat_meshes ms) (flat_meshes ns)

pub record Filling (s row₀ row : List ℕ) (at number to : ℕ) : Type 0 where
  pub given : SomeRoom s (length row₀)
  pub done : List Standing
  pub passed : Passed s given.given at number done
  pub put : Put row₀ 0 (mesh_bytes.encode done) row to
  pub same : length row ≡ length row₀

pub filling_starts : (s row : List ℕ) → SomeRoom s (length row) → Filling s row row 32 0 0
filling_starts s row g = record { given = g; done = []; passed = passed_none s g.given; put = put-none row 0; same = refl }

module _ {s row₀ row : List ℕ} {at number to : ℕ} (r : Filling s row₀ row at number to) where
  pub filling_ends : is_end (kind (chunk_in s at)) ≡ true → Fills s row₀ row
  filling_ends t = record {
    told = λ l e.
        put_front r.put ∙ ap (λ (ms : List Standing). filled (mesh_bytes.encode ms) row₀) (all_done r.passed t) ∙
        ap (λ (x : Layout). filled (mesh_bytes.encode (standing x)) row₀) (one-accepted s r.given.given.is e);
  }

  module _ (t : is_end (kind (chunk_in s at)) ≡ false) (next : ℕ) (f : next ≡ at + size (chunk_in s at)) where
    pub mesh-at : MeshAt s at next number to (length row)
    mesh-at = record {
      header = head_whole r.passed.passing;
      within = (meets r.given.given).within-limit;
      small = omega (arith, r.passed.numbers-few, at_small r.passed);
      stands = λ y. mesh-stands r.passed.passing t next f (ap (λ (x : Chunk). is_mesh (kind x)) (sym (here-is r.passed.passing t)) ∙ y);
      room = λ y.
          omega (
            arith,
            still r.passed t next f,
            ap (λ (b : Bool). length (one_if b (mesh_here s at next number))) y,
            r.given.room,
            r.same,
            r.put.ends,
            encoded_long r.done,
          );
    }

    pub filling_on : (one : ℕ) → one ≡ cond (listed (kind (chunk_in s at))) 1 0 → one ≤ 1 → {row' : List ℕ} {to' : ℕ} → PutMesh s at next number row to row' to' → length row' ≡ length row →
        Filling s row₀ row' next (number + one) to'
    filling_on one e b {row'} {to'} p q = record {
      given = r.given;
      done = r.done ++ held r.passed t next f;
      passed = passed_on r.passed t next f one e b;
      put = go (is_mesh (kind (chunk_in s at))) refl;
      same = q ∙ r.same;
    }
      where
        go : (y : Bool) → is_mesh (kind (chunk_in s at)) ≡ y → Put row₀ 0 (mesh_bytes.encode (r.done ++ one_if y (mesh_here s at next number))) row' to'
        go true y = rw (encoded_append r.done (mesh_here s at next number ∷ [])) (put_then (omega arith) r.put (p.yes y))
        go false y = let z = p.no y in rw (append-nil r.done, z.0, z.1) r.put
