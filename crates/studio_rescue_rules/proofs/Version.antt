-- The version is told by headers alone: what stands in 3D3D, and how much of it, does not change it.
use mathlib.Core.Path.{◌≡◌, refl, sym, ap, ◌∙◌}
use Prim.Native.Nat.{ℕ, ◌+◌, ◌-◌, ◌^◌, ◌<◌}
use native.Mathlib.Omega.{arith}
use mathlib.Core.Bool.{Bool, true, false, not, ◌&&◌, cond}
use mathlib.Core.List.{List, [], ◌∷◌, ◌++◌, append_assoc}
use lib.Dec.{eqb, ltb}
use lib.ListN.{length, take, drop, length-append}
use borrow.Author.Tests.{eqb-true, ltb-true}
use Rattle.shared_words.specs.Bytes.{value}
use Rattle.studio_rules.specs.Table.{listed}
use Rattle.studio_rules.specs.Layout.{Run, end, skip, known, header, size, bytes}
use Rattle.studio_rules.specs.Rules.{Parent, Obeys}
use Rattle.studio_rules.specs.Walk.{version_in}
use Rattle.shared_words.proofs.Bools.{and_parts}
use Rattle.studio_rules.proofs.Rows.{under-listed, listed_small}
use Rattle.studio_rules.proofs.Sound.{length-bytes}
use Rattle.studio_rules.proofs.Complete.{Headed, headed}
use Rattle.studio_rules.proofs.Fuel.{version-next}

-- by the chunk at the start, which is well headed
next-told : (id n : ℕ) (body rest s : List ℕ) → Headed 0 s id n body rest → version_in s ≡ cond (eqb id 0x0002 && eqb n 10) (value body) (version_in rest)
next-told id n body rest s f = version-next s ∙ rw (f.length-is, f.good, f.id-is, f.rest-is) (go (eqb id 0x0002) (eqb n 10) refl)
  where
    go : (a b : Bool) → eqb n 10 ≡ b → cond (a && b) (value (take 4 (drop 6 s))) (version_in rest) ≡ cond (a && b) (value body) (version_in rest)
    go true true e =
        let z : n - 6 ≡ 4 = omega (arith, eqb-true n 10 e) in
        let t : take 4 (drop 6 s) ≡ body = rw z at f.body_is in
        rw t
    go true false e = refl
    go false b e = refl

pub told : (id n : ℕ) (body rest : List ℕ) → n ≡ 6 + length body → id < 0x1_0000 → n < 2 ^ 32 →
    version_in (header id n ++ (body ++ rest)) ≡ cond (eqb id 0x0002 && eqb n 10) (value body) (version_in rest)
told id n body rest e h l = next-told id n body rest (header id n ++ (body ++ rest)) (headed 0 id n body rest e h l)

-- ---- two files that begin alike

chunk-same : (id n : ℕ) (body x y : List ℕ) → n ≡ 6 + length body → id < 0x1_0000 → n < 2 ^ 32 → version_in x ≡ version_in y →
    version_in (header id n ++ (body ++ x)) ≡ version_in (header id n ++ (body ++ y))
chunk-same id n body x y e h l k =
    told id n body x e h l ∙ ap (cond (eqb id 0x0002 && eqb n 10) (value body)) k ∙ sym (told id n body y e h l)

pub behind-same : (p : Parent) (seen : List ℕ) (t : Run) (x y : List ℕ) → Obeys p seen t → size t < 2 ^ 32 → version_in x ≡ version_in y →
    version_in (bytes t ++ x) ≡ version_in (bytes t ++ y)
behind-same p seen end x y h l e = e
behind-same p seen (skip id body rest) x y h l e =
    let n : ℕ = 6 + length body in
    let small = ltb-true id 0x1_0000 (and_parts (ltb id 0x1_0000) (not (listed id)) h.0).0 in
    let split : (z : List ℕ) → bytes (skip id body rest) ++ z ≡ header id n ++ (body ++ (bytes rest ++ z)) = λ z. ap (λ (w : List ℕ). header id n ++ w) (append_assoc body (bytes rest) z) in
    ap version_in (split x) ∙
    chunk-same id n body (bytes rest ++ x) (bytes rest ++ y) refl small (omega arith) (behind-same p seen rest x y h.1 (omega arith) e) ∙
    sym (ap version_in (split y))
behind-same p seen (known id own kids rest) x y h l e =
    let n : ℕ = 6 + length own + size kids in
    let body : List ℕ = own ++ bytes kids in
    let small = ltb-true id 0x1_0000 (listed_small id (under-listed p.id id h.0.in_place)) in
    let split : (z : List ℕ) → bytes (known id own kids rest) ++ z ≡ header id n ++ (body ++ (bytes rest ++ z)) = λ z. ap (λ (w : List ℕ). header id n ++ w) (simp append_assoc) in
    ap version_in (split x) ∙
    chunk-same id n body (bytes rest ++ x) (bytes rest ++ y) (omega (arith, length-append own (bytes kids), length-bytes kids)) small (omega arith)
    (behind-same p (id ∷ seen) rest x y h.3 (omega arith) e) ∙
    sym (ap version_in (split y))

-- 3D3D is no 0002: what it holds does not matter
scene-passed : (body after : List ℕ) → 6 + length body < 2 ^ 32 → version_in (header 0x3D3D (6 + length body) ++ (body ++ after)) ≡ version_in after
scene-passed body after l = told 0x3D3D (6 + length body) body after refl (omega arith) l

pub scene_same : (p : Parent) (before : Run) (body body' after : List ℕ) → Obeys p [] before → size before < 2 ^ 32 → 6 + length body < 2 ^ 32 → 6 + length body' < 2 ^ 32 →
    version_in (bytes before ++ (header 0x3D3D (6 + length body) ++ (body ++ after))) ≡ version_in (bytes before ++ (header 0x3D3D (6 + length body') ++ (body' ++ after)))
scene_same p before body body' after h l m m' = behind-same p [] before _ _ h l (scene-passed body after m ∙ sym (scene-passed body' after m'))
