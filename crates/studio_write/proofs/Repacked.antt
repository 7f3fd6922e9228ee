-- Own data that was read, written again: the numbers that the reader takes from it make the same bytes.
use mathlib.Core.Path.{◌≡◌, refl, sym, ap, ◌∙◌}
use Prim.Native.Nat.{ℕ, zero, suc, ◌+◌, ◌*◌, ◌^◌, ◌<◌, ◌≤◌}
use native.Mathlib.Nat.{mul-suc}
use native.Mathlib.Omega.{arith}
use mathlib.Core.Bool.{Bool, true, false, not, cond}
use mathlib.Core.List.{List, [], ◌∷◌, ◌++◌}
use lib.Dec.{eqb}
use lib.ListN.{length, take, drop, length-drop, take-append-drop}
use lib.Seq.{drop-drop, length-take-le}
use borrow.Author.Tests.{eqb-true, lt-ltb}
use Rattle.shared_words.specs.Bytes.{value, le, numbers, Bytes, packed}
use Rattle.shared_words.specs.Lists.{every}
use Rattle.studio_rules.specs.OwnData.{name_size, corners}
use Rattle.studio_rules.specs.Rules.{all_below}
use Rattle.shared_words.proofs.Bools.{both, and_parts}
use Rattle.shared_words.proofs.Bytes.{bytes_drop, bytes_take, value_small}
use Rattle.shared_words.proofs.Numbers.{front}
use Rattle.studio_write_bytes.specs.Bare.{name_data, face_words}
use Rattle.studio_write_judge.specs.Judged.{not_zero}
use Rattle.studio_write.specs.WritesAgain.{flags}

-- ---- numbers

pub numbers_small : (w k : ℕ) (s : List ℕ) → Bytes s → length s ≡ w * k → all_below (256 ^ w) (numbers w k s) ≡ true
unfolding every
numbers_small w zero s b l = refl
numbers_small w (suc k) s b l =
    let m = mul-suc w k in
    let d : length (drop w s) ≡ w * k = omega (arith, length-drop w s) in
    let v : value (take w s) < 256 ^ w = rw (length-take-le w s (omega arith)) at (value_small (take w s) (bytes_take w s b)) in
    both _ _ (lt-ltb _ _ v) (numbers_small w k (drop w s) (bytes_drop w s b) d)

-- ---- faces

pair : (k : ℕ) (s : List ℕ) → take 2 (drop k s) ++ drop (k + 2) s ≡ drop k s
pair k s = ap (λ (l : List ℕ). take 2 (drop k s) ++ l) (sym (drop-drop 2 k s)) ∙ take-append-drop 2 (drop k s)

-- four words and the rest
join : {a b c d r a' b' c' d' r' : List ℕ} → a ≡ a' → b ≡ b' → c ≡ c' → d ≡ d' → r ≡ r' → a ++ (b ++ (c ++ (d ++ r))) ≡ a' ++ (b' ++ (c' ++ (d' ++ r')))
join p q t u v = cc

four : (s : List ℕ) → take 2 s ++ (take 2 (drop 2 s) ++ (take 2 (drop 4 s) ++ (take 2 (drop 6 s) ++ drop 8 s))) ≡ s
four s = rw (pair 6 s, pair 4 s, pair 2 s) (pair 0 s)

pub packed-corners : (f : ℕ) (s : List ℕ) → Bytes s → length s ≡ 8 * f → every (λ flag. eqb flag 0) (flags f s) ≡ true → packed 2 (face_words f (corners f s)) ≡ s
unfolding every
packed-corners zero [] b l z = refl
packed-corners zero (x ∷ s) b l z = absurd (omega arith)
packed-corners (suc f) s b l z =
    let p = and_parts (eqb (value (take 2 (drop 6 s))) 0) _ z in
    let d : length (drop 8 s) ≡ 8 * f = omega (arith, length-drop 8 s) in
    let w : (k : ℕ) → k ≤ 6 → le 2 (value (take 2 (drop k s))) ≡ take 2 (drop k s) = λ k h. front 2 (drop k s) (bytes_drop k s b) (omega (arith, length-drop k s)) in
    join (w 0 (omega arith)) (w 2 (omega arith)) (w 4 (omega arith)) (ap (le 2) (sym (eqb-true _ _ p.0)) ∙ w 6 (omega arith))
    (packed-corners f (drop 8 s) (bytes_drop 8 s b) d p.1) ∙ four s

-- ---- names

pub none : (s : List ℕ) → length s ≡ 0 → s ≡ []
none [] h = refl
none (x ∷ s) h = absurd (omega arith)

pub name-parts : (own : List ℕ) → name_size own ≡ length own → (name : List ℕ) × (own ≡ name_data name) × (every not_zero name ≡ true)
unfolding every
name-parts [] h = absurd (omega arith)
name-parts (b ∷ own) h = go (eqb b 0) refl h (name-parts own)
  where
    go : (z : Bool) → eqb b 0 ≡ z → cond z 1 (suc (name_size own)) ≡ suc (length own) →
        (name_size own ≡ length own → (name : List ℕ) × (own ≡ name_data name) × (every not_zero name ≡ true)) →
        (name : List ℕ) × (b ∷ own ≡ name_data name) × (every not_zero name ≡ true)
    go true e h ih = ([], rw (eqb-true b 0 e) (ap (λ (l : List ℕ). 0 ∷ l) (none own (omega arith))), refl)
    go false e h ih = let p = ih (omega arith) in (b ∷ p.0, ap (λ (l : List ℕ). b ∷ l) p.1, both (not_zero b) (every not_zero p.0) (ap not e) p.2)
