-- A Caligari file has at most a record and a mesh for each 20 bytes, and its meshes are small.
use mathlib.Core.Path.{◌≡◌, ap}
use Prim.Native.Nat.{ℕ, suc, ◌+◌, ◌≤◌}
use native.Mathlib.Omega.{arith}
use mathlib.Core.Bool.{Bool, true, false}
use mathlib.Core.List.{List, [], ◌∷◌, ◌++◌}
use lib.ListN.{length, length-append}
use Rattle.shared_words.specs.Conditions.{accepted}
use Rattle.shared_words.specs.Lists.{All, total}
use Rattle.shared_words.specs.Refusals.{limit}
use Rattle.shared_flat.specs.Flat.{records}
use Rattle.cob_rules.specs.declared.Kind.{Kind}
use Rattle.cob_rules.specs.Kinds.{is_mesh, listed}
use Rattle.cob_rules.specs.Body.{exact}
use Rattle.cob_rules.specs.Layout.{Chunk, kind, size, Layout, last_at}
use Rattle.cob_rules.specs.Rules.{AllPlaced}
use Rattle.cob_rules.specs.Walk.{verdict}
use Rattle.cob_rules.specs.Gives.{record_of, end_record, one_if, caligari, list, mesh_of, meshes_of, meshes}
use Rattle.cob_rules.proofs.Verdict.{accepted_exactly}
use Rattle.cob_rules.proofs.PutIn.{length-bytes}
use Rattle.claim_numbers.proofs.CaligariMeshes.{Small, mesh_small}

-- ---- a chunk gives at most one, and takes 20 bytes

one-few : {A : Type 0} (b : Bool) (x : A) (xs : List A) → length (one_if b x ++ xs) ≤ suc (length xs)
one-few true x xs = omega arith
one-few false x xs = omega arith

few-records : (cs seen : List Chunk) (o : ℕ) → length (records caligari seen o cs) ≤ length cs
few-records [] seen o = omega arith
few-records (c ∷ cs) seen o =
    omega (arith, one-few (listed (kind c)) (record_of seen o c) (records caligari (c ∷ seen) (o + size c) cs), few-records cs (c ∷ seen) (o + size c))

few-meshes : (cs : List Chunk) → length (meshes_of cs) ≤ length cs
few-meshes [] = omega arith
few-meshes (c ∷ cs) = omega (arith, one-few (is_mesh (kind c)) (mesh_of c) (meshes_of cs), few-meshes cs)

many-bytes : (cs seen : List Chunk) → AllPlaced seen cs → length cs ≤ total size cs
many-bytes [] seen a = omega arith
many-bytes (c ∷ cs) seen a = omega (arith, a.0.lawful.header-whole, many-bytes cs (c ∷ seen) a.1)

-- ---- its mesh

small_meshes : (n : ℕ) (cs seen : List Chunk) → AllPlaced seen cs → total size cs ≤ n → All (Small n) (meshes_of cs)
small_meshes n [] seen a l = tt
small_meshes n (c ∷ cs) seen a l = go (kind c) a.0.lawful.body-exact (small_meshes n cs (c ∷ seen) a.1 (omega arith))
  where
    go : (k : Kind) → exact k c.body ≡ true → All (Small n) (meshes_of cs) → All (Small n) (one_if (is_mesh k) (mesh_of c) ++ meshes_of cs)
    go Kind.End h r = r
    go Kind.Grou h r = r
    go Kind.PolH h r = (mesh_small n c.body (omega arith) h, r)
    go Kind.Mat1 h r = r
    go Kind.Other h r = r

-- ---- of an accepted file

pub record Few (l : Layout) : Type 0 where
  pub records-few : length (list l) ≤ limit
  pub meshes-few : length (meshes l) ≤ limit
  pub meshes_small : All (Small limit) (meshes l)

pub few : (s : List ℕ) (l : Layout) → verdict s ≡ accepted l → Few l
few s l e =
    let m = (accepted_exactly s l).0 e in
    let cs = l.chunks in
    let w = m.within-limit in
    let n = ap length m.is in
    let b = length-bytes l in
    let k = many-bytes cs [] m.chunks in
    record {
      records-few = omega (arith, few-records cs [] 32, length-append (records caligari [] 32 cs) (end_record (last_at l) l.last ∷ []));
      meshes-few = omega (arith, few-meshes cs);
      meshes_small = small_meshes limit cs [] m.chunks (omega arith);
    }
