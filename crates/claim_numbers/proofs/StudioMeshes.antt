-- The numbers of a layout: its records and meshes are few, and of a mesh the counts are two bytes long.
use mathlib.Core.Path.{◌≡◌, ap, ◌∙◌}
use Prim.Native.Nat.{ℕ, ◌+◌, ◌-◌, ◌*◌, ◌≤◌, ◌<◌}
use native.Mathlib.Omega.{arith}
use mathlib.Core.Bool.{Bool, true, false, cond}
use mathlib.Core.List.{List, ◌++◌}
use lib.Dec.{eqb}
use mathlib.Core.Logic.{⊎_elim}
use lib.ListN.{length, length-append, length-replicate, drop, replicate}
use Rattle.shared_words.specs.Bytes.{Bytes}
use Rattle.shared_words.proofs.Bytes.{word_small, bytes-parts}
use Rattle.shared_words.proofs.Numbers.{length-numbers}
use Rattle.studio_rules.specs.Layout.{Run, end, skip, known, figure, size, header, bytes, child}
use Rattle.studio_rules.specs.OwnData.{count, mapping_numbers}
use Rattle.studio_rules.specs.Gives.{Mesh, pairs_of, mapping_table, mesh_of, one_mesh, meshes_of, meshes}
use Rattle.studio_meshes_rules.specs.Standing.{standing}
use Rattle.studio_meshes_rules.proofs.Same.{same-meshes}
use Rattle.studio_meshes_rules.proofs.Few.{standing-few, as_many}
use Rattle.studio_rules.proofs.Corners.{length-corners}
use Rattle.studio_rules.proofs.Mapping.{pairs-all_or_none}
use Rattle.shared_words.specs.Lists.{All}
use Rattle.shared_words.proofs.Lists.{all_append}

-- ---- how many

pub meshes-few : (kids : Run) → length (meshes kids) ≤ size (figure kids)
meshes-few kids = omega (arith, ap length (same-meshes kids) ∙ as_many (standing kids), standing-few 0 0 0 (figure kids))

-- ---- the counts of a mesh

pub record Small (m : Mesh) : Type 0 where
  pub vertices : m.vertex_count < 65_536
  pub faces : m.face_count < 65_536
  pub vertex-numbers : length m.vertices ≡ 3 * m.vertex_count
  pub corner-numbers : length m.corners ≡ 3 * m.face_count
  pub pairs : m.pair_count < 65_536
  pub mapping_numbers_lem : length m.mapping < 131_072

-- the three parts of a known chunk's bytes
record Parts (own : List ℕ) (kids rest : Run) : Type 0 where
  own_bytes : Bytes own
  kids_bytes : Bytes (bytes kids)
  rest-bytes : Bytes (bytes rest)

parts : (id : ℕ) (own : List ℕ) (kids rest : Run) → Bytes (bytes (known id own kids rest)) → Parts own kids rest
parts id own kids rest b =
    let c = bytes-parts own (bytes kids ++ bytes rest) (bytes-parts (header id (6 + length own + size kids)) (own ++ (bytes kids ++ bytes rest)) b).1 in
    let d = bytes-parts (bytes kids) (bytes rest) c.1 in
    record { own_bytes = c.0; kids_bytes = d.0; rest-bytes = d.1 }

child-bytes : (x : ℕ) (t : Run) → Bytes (bytes t) → Bytes (child x t)
child-bytes x end b = tt
child-bytes x (skip id body rest) b =
    child-bytes x rest (bytes-parts body (bytes rest) (bytes-parts (header id (6 + length body)) (body ++ bytes rest) b).1).1
child-bytes x (known id own kids rest) b = go (eqb id x) own (child x rest) (parts id own kids rest b).own_bytes (child-bytes x rest (parts id own kids rest b).rest-bytes)
  where
    go : (e : Bool) (xs ys : List ℕ) → Bytes xs → Bytes ys → Bytes (cond e xs ys)
    go true xs ys h k = h
    go false xs ys h k = k

-- a mapping has as many pairs as vertices or none, and no fewer numbers than its 4140
pairs_small : (kids : Run) → Bytes (bytes kids) → pairs_of kids < 65_536
pairs_small kids b =
    let n = word_small (child 0x4110 kids) (child-bytes 0x4110 kids b) in
    ⊎_elim (λ e. omega (arith, e, n)) (λ e. omega (arith, e)) (pairs-all_or_none kids)

mapping_small : (kids : Run) → Bytes (bytes kids) → length (mapping_table kids) < 131_072
mapping_small kids b =
    let own = child 0x4140 kids in
    let given = length-numbers 4 (2 * count (child 0x4140 kids)) (drop 2 (child 0x4140 kids)) in
    let zeros = 2 * pairs_of kids - length (mapping_numbers (child 0x4140 kids)) in
    omega (arith, length-append (mapping_numbers own) (replicate zeros 0), length-replicate {A = ℕ} zeros 0, given, pairs_small kids b, word_small own (child-bytes 0x4140 kids b))

mesh_small : (at l : ℕ) (kids : Run) → Bytes (bytes kids) → Small (mesh_of at l kids)
mesh_small at l kids b =
    record {
      vertices = word_small (child 0x4110 kids) (child-bytes 0x4110 kids b);
      faces = word_small (child 0x4120 kids) (child-bytes 0x4120 kids b);
      vertex-numbers = length-numbers 4 (3 * count (child 0x4110 kids)) (drop 2 (child 0x4110 kids));
      corner-numbers = length-corners (count (child 0x4120 kids)) (drop 2 (child 0x4120 kids));
      pairs = pairs_small kids b;
      mapping_numbers_lem = mapping_small kids b;
    }

one_small : (b : Bool) (m : Mesh) → Small m → All Small (one_mesh b m)
one_small true m h = (h, tt)
one_small false m h = tt

pub meshes_small : (o at l : ℕ) (t : Run) → Bytes (bytes t) → All Small (meshes_of o at l t)
meshes_small o at l end b = tt
meshes_small o at l (skip id body rest) b =
    meshes_small (o + (6 + length body)) at l rest (bytes-parts body (bytes rest) (bytes-parts (header id (6 + length body)) (body ++ bytes rest) b).1).1
meshes_small o at l (known id own kids rest) b =
    let p = parts id own kids rest b in
    all_append Small (one_mesh (eqb id 0x4100) (mesh_of at l kids)) _ (one_small (eqb id 0x4100) _ (mesh_small at l kids p.kids_bytes))
    (all_append Small (meshes_of (o + (6 + length own)) (o + 6) (length own - 1) kids) _
    (meshes_small (o + (6 + length own)) (o + 6) (length own - 1) kids p.kids_bytes)
    (meshes_small (o + (6 + length own + size kids)) at l rest p.rest-bytes))
