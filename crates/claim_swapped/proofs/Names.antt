-- The names of the meshes of a run as bytes, wherever it stands.
use Rattle.std.specs.Prelude.{Err}
use mathlib.Core.Path.{◌≡◌, refl, sym, ap, ◌∙◌}
use Prim.Native.Nat.{ℕ, ◌+◌, ◌-◌}
use native.Mathlib.Omega.{arith}
use mathlib.Core.Bool.{Bool, true, false}
use mathlib.Core.List.{List, [], ◌∷◌, ◌++◌, map, append_assoc, append-nil}
use mathlib.Core.Option.{Option, none, some}
use lib.Dec.{eqb}
use lib.ListN.{length, take, drop, length-append, get_elem?}
use lib.Seq.{drop_at, take-append-le}
use Rattle.shared_words.specs.Picked.{pick_mesh}
use Rattle.studio_rules.specs.Layout.{Run, end, skip, known, figure, header, size, bytes, ◌then◌}
use Rattle.shared_words.specs.Conditions.{Answer, refused, accepted}
use Rattle.studio_rules.specs.Gives.{Mesh, mesh_of, one_mesh, meshes_of, meshes}
use Rattle.studio_rules.specs.Calls.{of_mesh, name_of}
use Rattle.studio_rules.proofs.Sound.{length-bytes}
use Rattle.studio_scene.specs.Scene.{holding}
use Rattle.claim_swapped.specs.Names.{no, letters, letters_at}

-- the bytes of a mesh's name in the file s
abbrev pub name_bytes : List ℕ → Mesh → List ℕ
name_bytes s m = take m.name_length (drop m.name_at s)

abbrev one_name : Bool → List ℕ → List (List ℕ)
one_name true name = name ∷ []
one_name false name = []

-- those of a run, in a chunk whose own data is a name and its zero
abbrev pub names : List ℕ → Run → List (List ℕ)
names name end = []
names name (skip id body rest) = names name rest
names name (known id own kids rest) = one_name (eqb id 0x4100) name ++ (names (take (length own - 1) own) kids ++ names name rest)

pub names_then : (name : List ℕ) (a t : Run) → names name (a then t) ≡ names name a ++ names name t
names_then name end t = refl
names_then name (skip id body a) t = names_then name a t
names_then name (known id own kids a) t =
    rw (names_then name a t, append_assoc (one_name (eqb id 0x4100) name), append_assoc (names (take (length own - 1) own) kids) (names name a) (names name t))

pub names-count : (name : List ℕ) (o at l : ℕ) (t : Run) → length (names name t) ≡ length (meshes_of o at l t)
names-count name o at l end = refl
names-count name o at l (skip id body rest) = names-count name (o + (6 + length body)) at l rest
names-count name o at l (known id own kids rest) =
    let o₁ : ℕ = o + (6 + length own) in
    let o₂ : ℕ = o + (6 + length own + size kids) in
    let own_name : List ℕ = take (length own - 1) own in
    omega (
      arith,
      one (eqb id 0x4100),
      names-count own_name o₁ (o + 6) (length own - 1) kids,
      names-count name o₂ at l rest,
      length-append (one_name (eqb id 0x4100) name) (names own_name kids ++ names name rest),
      length-append (names own_name kids) (names name rest),
      length-append (one_mesh (eqb id 0x4100) (mesh_of at l kids)) (meshes_of o₁ (o + 6) (length own - 1) kids ++ meshes_of o₂ at l rest),
      length-append (meshes_of o₁ (o + 6) (length own - 1) kids) (meshes_of o₂ at l rest),
    )
  where
    one : (e : Bool) → length (one_name e name) ≡ length (one_mesh e (mesh_of at l kids))
    one true = refl
    one false = refl

-- ---- in a file

map-three : (f : Mesh → List ℕ) (xs ys zs : List Mesh) → map f (xs ++ (ys ++ zs)) ≡ map f xs ++ (map f ys ++ map f zs)
map-three f [] [] zs = refl
map-three f [] (y ∷ ys) zs = rw (map-three f [] ys zs)
map-three f (x ∷ xs) ys zs = rw (map-three f xs ys zs)

one-named : (s : List ℕ) (e : Bool) (at l : ℕ) (name : List ℕ) (kids : Run) → take l (drop at s) ≡ name → map (name_bytes s) (one_mesh e (mesh_of at l kids)) ≡ one_name e name
one-named s true at l name kids h = rw h
one-named s false at l name kids h = refl

-- the run stands behind `pre`, and the name of the chunk around at `at`
pub named : (s pre post : List ℕ) (o at l : ℕ) (name : List ℕ) (t : Run) → s ≡ pre ++ (bytes t ++ post) → length pre ≡ o → take l (drop at s) ≡ name →
    map (name_bytes s) (meshes_of o at l t) ≡ names name t
named s pre post o at l name end e p h = refl
named s pre post o at l name (skip id body rest) e p h =
    let front : List ℕ = header id (6 + length body) ++ body in
    named s (pre ++ front) post (o + (6 + length body)) at l name rest (e ∙ simp append_assoc) (omega (arith, length-append pre front)) h
named s pre post o at l name (known id own kids rest) e p h =
    let head : List ℕ = header id (6 + length own + size kids) in
    let back : List ℕ = bytes kids ++ (bytes rest ++ post) in
    let q : s ≡ (pre ++ head) ++ (own ++ back) = e ∙ simp append_assoc in
    let d : drop (o + 6) s ≡ own ++ back = ap (drop (o + 6)) q ∙ drop_at (pre ++ head) (own ++ back) (o + 6) (omega (arith, length-append pre head)) in
    let n : take (length own - 1) (drop (o + 6) s) ≡ take (length own - 1) own = ap (take (length own - 1)) d ∙ take-append-le (length own - 1) own back (omega arith) in
    let front : List ℕ = head ++ own in
    let whole : List ℕ = head ++ (own ++ bytes kids) in
    let k = named s (pre ++ front) (bytes rest ++ post) (o + (6 + length own)) (o + 6) (length own - 1) (take (length own - 1) own) kids (e ∙ simp append_assoc) (omega (arith, length-append pre front)) n in
    let r = named s (pre ++ whole) post (o + (6 + length own + size kids)) at l name rest (e ∙ simp append_assoc)
    (omega (arith, length-append pre whole, length-append own (bytes kids), length-bytes kids)) h in
    map-three (name_bytes s) (one_mesh (eqb id 0x4100) (mesh_of at l kids)) (meshes_of (o + (6 + length own)) (o + 6) (length own - 1) kids) (meshes_of (o + (6 + length own + size kids)) at l rest) ∙
    rw (one-named s (eqb id 0x4100) at l name kids h, k, r)

pub names-holding : (s : List ℕ) (before t after : Run) → bytes (figure (holding before t after)) ≡ s →
    map (name_bytes s) (meshes (holding before t after)) ≡ names [] before ++ (names [] t ++ names [] after)
names-holding s before t after e =
    let kids : Run = holding before t after in
    named s [] [] 0 0 0 [] (figure kids) (sym e ∙ sym (append-nil (bytes (figure kids)))) refl refl ∙ append-nil (names [] kids) ∙ names_then [] before (known 0x3D3D [] t after)

-- ---- by the call

pub letters-of : (s : List ℕ) (m : ℕ) (a : Answer Run) → letters_at s (of_mesh Err name_of m a) ≡ of_mesh no (λ x. letters (name_bytes s x)) m a
letters-of s m (refused r) = refl
letters-of s m (accepted kids) = go (length (meshes kids)) (get_elem? (meshes kids) m)
  where
    go : (n : ℕ) (x : Option Mesh) → letters_at s (pick_mesh Err name_of n x) ≡ pick_mesh no (λ x. letters (name_bytes s x)) n x
    go n none = refl
    go n (some x) = refl
