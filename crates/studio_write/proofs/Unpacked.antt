-- The own data that was written holds the numbers given: what the reader takes from it, number by number.
use mathlib.Core.Path.{◌≡◌, refl, ap}
use Prim.Native.Nat.{ℕ, zero, suc, ◌*◌, ◌^◌, ◌<◌}
use native.Mathlib.Omega.{arith}
use mathlib.Core.Bool.{Bool, true, false, not, ◌&&◌, cond, false≢true}
use mathlib.Core.List.{List, [], ◌∷◌, ◌++◌}
use lib.Dec.{eqb, ltb}
use lib.ListN.{length}
use lib.Seq.{take_at, drop_at}
use borrow.Author.Tests.{ltb-true}
use Rattle.shared_words.specs.Bytes.{le, numbers, packed}
use Rattle.shared_words.specs.Lists.{every}
use Rattle.studio_rules.specs.OwnData.{name_size, text, corners}
use Rattle.studio_rules.specs.Rules.{all_below}
use Rattle.shared_words.proofs.Bools.{and_parts}
use Rattle.shared_words.proofs.Bytes.{length-le, value-le}
use Rattle.studio_write_bytes.specs.Bare.{name_data, face_words}
use Rattle.studio_write_judge.specs.Judged.{not_zero}

below_parts : (n x : ℕ) (xs : List ℕ) → all_below n (x ∷ xs) ≡ true → (x < n) × (all_below n xs ≡ true)
unfolding every
below_parts n x xs h = let p = and_parts (ltb x n) (all_below n xs) h in (ltb-true x n p.0, p.1)

pub numbers-packed : (w : ℕ) (ns : List ℕ) → all_below (256 ^ w) ns ≡ true → numbers w (length ns) (packed w ns) ≡ ns
numbers-packed w [] h = refl
numbers-packed w (n ∷ ns) h =
    let p = below_parts (256 ^ w) n ns h in
    let t = take_at (le w n) (packed w ns) w (length-le w n) in
    let d = drop_at (le w n) (packed w ns) w (length-le w n) in
    rw (t, d, value-le w n p.0, numbers-packed w ns p.1)

pub corners-packed : (f : ℕ) (cs : List ℕ) → length cs ≡ 3 * f → all_below 0x1_0000 cs ≡ true → corners f (packed 2 (face_words f cs)) ≡ cs
corners-packed zero [] l h = refl
corners-packed zero (a ∷ cs) l h = absurd (omega arith)
corners-packed (suc f) [] l h = absurd (omega arith)
corners-packed (suc f) (a ∷ []) l h = absurd (omega arith)
corners-packed (suc f) (a ∷ b ∷ []) l h = absurd (omega arith)
corners-packed (suc f) (a ∷ b ∷ c ∷ cs) l h =
    let p = below_parts 0x1_0000 a (b ∷ c ∷ cs) h in
    let q = below_parts 0x1_0000 b (c ∷ cs) p.1 in
    let r = below_parts 0x1_0000 c cs q.1 in
    rw (value-le 2 a p.0, value-le 2 b q.0, value-le 2 c r.0, corners-packed f cs (omega arith) r.1)

pub name-size : (name : List ℕ) → every not_zero name ≡ true → name_size (name_data name) ≡ length (name_data name)
unfolding every
name-size [] h = refl
name-size (b ∷ name) h = go (eqb b 0) h (name-size name)
  where
    go : (z : Bool) → (not z && every not_zero name) ≡ true → (every not_zero name ≡ true → name_size (name_data name) ≡ length (name_data name)) →
        cond z 1 (suc (name_size (name_data name))) ≡ suc (length (name_data name))
    go true h ih = absurd (false≢true h)
    go false h ih = ap suc (ih h)

-- the bytes of a name are those before its zero, whatever follows
pub name-text : (name more : List ℕ) → every not_zero name ≡ true → text (name ++ (0 ∷ more)) ≡ name
unfolding every
name-text [] more h = refl
name-text (b ∷ name) more h = go (eqb b 0) h (name-text name more)
  where
    go : (z : Bool) → (not z && every not_zero name) ≡ true → (every not_zero name ≡ true → text (name ++ (0 ∷ more)) ≡ name) →
        cond z [] (b ∷ text (name ++ (0 ∷ more))) ≡ b ∷ name
    go true h ih = absurd (false≢true h)
    go false h ih = ap (λ (l : List ℕ). b ∷ l) (ih h)
