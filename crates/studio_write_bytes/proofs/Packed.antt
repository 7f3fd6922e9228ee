-- The words of faces: how many they are, and one face more at the end.
use mathlib.Core.Path.{◌≡◌, refl, ap, ◌∙◌}
use Prim.Native.Nat.{ℕ, zero, suc, ◌+◌, ◌*◌, ◌≤◌}
use native.Mathlib.Numerals.{add-one}
use native.Mathlib.Omega.{arith}
use mathlib.Core.List.{List, [], ◌∷◌, ◌++◌, append_assoc}
use lib.ListN.{length, take, drop, get_or, length-append, length-drop}
use lib.Seq.{drop-cons, drop-drop, length-take-le}
use Rattle.shared_words.specs.Bytes.{packed}
use Rattle.shared_words.proofs.Bytes.{packed_append}
use Rattle.studio_write_bytes.specs.Bare.{face_words}

pub length-face_words : (f : ℕ) (corners : List ℕ) → 3 * f ≤ length corners → length (face_words f corners) ≡ 4 * f
length-face_words zero corners h = refl
length-face_words (suc f) corners h =
    let l : 3 * f ≤ length (drop 3 corners) = omega (arith, length-drop 3 corners) in
    length-append (take 3 corners) (0 ∷ face_words f (drop 3 corners)) ∙
    omega (arith, length-take-le 3 corners (omega arith), length-face_words f (drop 3 corners) l)

face-suc : (i : ℕ) (corners : List ℕ) → face_words (suc i) corners ≡ face_words i corners ++ (take 3 (drop (3 * i) corners) ++ (0 ∷ []))
face-suc zero corners = refl
face-suc (suc i) corners =
    let j : 3 * suc i ≡ 3 + 3 * i = omega arith in
    ap (λ (l : List ℕ). take 3 corners ++ (0 ∷ l)) (face-suc i (drop 3 corners)) ∙
    rw (j, drop-drop (3 * i) 3 corners, append_assoc (take 3 corners) (0 ∷ face_words i (drop 3 corners)) (take 3 (drop (3 + 3 * i) corners) ++ (0 ∷ [])))

three : (l : List ℕ) (j : ℕ) → j + 3 ≤ length l → take 3 (drop j l) ≡ get_or l j 0 ∷ get_or l (j + 1) 0 ∷ get_or l (j + 2) 0 ∷ []
three l j h =
    let e₁ : j + 1 ≡ suc j = omega arith in
    let e₂ : j + 2 ≡ suc (suc j) = omega arith in
    rw (e₁, e₂, drop-cons l j 0 (omega arith), drop-cons l (suc j) 0 (omega arith), drop-cons l (suc (suc j)) 0 (omega arith))

-- the first i + 1 faces
pub face-more : (corners : List ℕ) (i : ℕ) → 3 * i + 3 ≤ length corners →
    packed 2 (face_words (i + 1) corners) ≡
    packed 2 (face_words i corners) ++ packed 2 (get_or corners (3 * i) 0 ∷ get_or corners (3 * i + 1) 0 ∷ get_or corners (3 * i + 2) 0 ∷ 0 ∷ [])
face-more corners i h =
    ap (λ (k : ℕ). packed 2 (face_words k corners)) (add-one i) ∙
    ap (packed 2) (face-suc i corners ∙ ap (λ (l : List ℕ). face_words i corners ++ (l ++ (0 ∷ []))) (three corners (3 * i) h)) ∙
    packed_append 2 (face_words i corners) _
