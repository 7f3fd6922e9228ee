-- Rows of floats and corners that a loop fills from the front.
use mathlib.Core.Path.{◌≡◌, refl, ap, ◌∙◌}
use mathlib.Core.List.{List, [], ◌∷◌, ◌++◌, map, append_assoc}
use Prim.Native.Nat.{ℕ, ◌+◌, ◌*◌, ◌<◌}
use native.Mathlib.Omega.{arith}
use lib.Ieee.{Float}
use lib.Seq.{drop-drop}
use lib.ListN.{length, set, drop, length-append, length-map}
use Rattle.shared_words.proofs.Effects.{fill-at}
use Rattle.shared_words.proofs.Numbers.{length-numbers}
use Rattle.studio_rules.proofs.Corners.{length-corners}
use Rattle.shared_words.specs.Bytes.{numbers}
use Rattle.studio_rules.specs.OwnData.{corners}
use Rattle.shared_words.specs.Floats.{float}
use Rattle.shared_words.specs.Effects.{filled}
use Rattle.shared_numbers.specs.Numbers.{word_at, long_at}
use Rattle.studio_scan.proofs.Lists.{longs_more, faces-more}

map_snoc : {A B : Type 0} (f : A → B) (xs : List A) (x : A) → map f (xs ++ (x ∷ [])) ≡ map f xs ++ (f x ∷ [])
map_snoc f [] x = refl
map_snoc f (y ∷ xs) x = ap (λ (l : List _). f y ∷ l) (map_snoc f xs x)

-- one float more
pub float-more : (s : List ℕ) (at i : ℕ) (row : List Float) → i < length row →
    set (filled (map float (numbers 4 i (drop at s))) row) i (float (long_at s (at + 4 * i))) ≡ filled (map float (numbers 4 (i + 1) (drop at s))) row
float-more s at i row l = rw (longs_more s at i, map_snoc float (numbers 4 i (drop at s)) (long_at s (at + 4 * i))) (fill-at (map float (numbers 4 i (drop at s))) row _ i (length-map (numbers 4 i (drop at s)) float ∙ length-numbers 4 i (drop at s)) l)

-- one face more: its three corners
face-is : (s : List ℕ) (f : ℕ) → corners 1 (drop f s) ≡ word_at s f ∷ word_at s (f + 2) ∷ word_at s (f + 4) ∷ []
unfolding word_at
face-is s f = rw (← (drop-drop 2 f s), ← (drop-drop 4 f s))

pub face-more : (s : List ℕ) (at i : ℕ) (row : List ℕ) → 3 * i + 2 < length row → (a b c : ℕ) → a ≡ word_at s (at + 8 * i) → b ≡ word_at s (at + 8 * i + 2) → c ≡ word_at s (at + 8 * i + 4) →
    set (set (set (filled (corners i (drop at s)) row) (3 * i) a) (3 * i + 1) b) (3 * i + 2) c ≡ filled (corners (i + 1) (drop at s)) row
face-more s at i row l a b c e f g =
    let k = corners i (drop at s) in
    let n = length-corners i (drop at s) in
    let n1 : length (k ++ (a ∷ [])) ≡ 3 * i + 1 = length-append k (a ∷ []) ∙ omega arith in
    let n2 : length ((k ++ (a ∷ [])) ++ (b ∷ [])) ≡ 3 * i + 2 = length-append (k ++ (a ∷ [])) (b ∷ []) ∙ omega arith in
    let z : corners (i + 1) (drop at s) ≡ k ++ (a ∷ b ∷ c ∷ []) = faces-more s at i ∙ ap (λ (l : List ℕ). k ++ l) (face-is s (at + 8 * i) ∙ rw (e, f, g)) in
    rw (
      fill-at k row a (3 * i) n (omega arith),
      fill-at (k ++ (a ∷ [])) row b (3 * i + 1) n1 (omega arith),
      fill-at ((k ++ (a ∷ [])) ++ (b ∷ [])) row c (3 * i + 2) n2 (omega arith),
      z,
      append_assoc (k ++ (a ∷ [])) (b ∷ []) (c ∷ []),
      append_assoc k (a ∷ []) (b ∷ c ∷ []),
    )
