-- Names of other digests are not one; and the digest as a loop makes it.
use mathlib.Core.Path.{◌≡◌, refl, sym, ap, ◌∙◌}
use mathlib.Core.Bool.{Bool, true, false, false≢true}
use mathlib.Core.List.{List, [], ◌∷◌}
use Prim.Native.Nat.{ℕ, ◌+◌, ◌*◌, ◌%◌, ◌<◌, ◌≤◌}
use native.Mathlib.Numerals.{add-one}
use native.Mathlib.Omega.{arith}
use lib.Dec.{eqb}
use lib.ListN.{length, drop, get_or, drop_of_length-le}
use lib.Seq.{drop-cons}
use borrow.Author.Tests.{eqb-true}
use Rattle.shared_words.proofs.Bools.{and_parts}
use Rattle.stick_rules.specs.Names.{lower, equal_ignoring_case}
use Rattle.stick_names.specs.Digest.{digest_from, digest_of}

from_one : (d : ℕ) (xs ys : List ℕ) → equal_ignoring_case xs ys ≡ true → digest_from d xs ≡ digest_from d ys
unfolding equal_ignoring_case digest_from
from_one d [] [] h = refl
from_one d [] (y ∷ ys) h = absurd (false≢true h)
from_one d (x ∷ xs) [] h = absurd (false≢true h)
from_one d (x ∷ xs) (y ∷ ys) h =
    let k = and_parts (eqb (lower x) (lower y)) (equal_ignoring_case xs ys) h in
    from_one ((251 * d + lower x) % 16_777_216) xs ys k.1 ∙
    ap (λ (b : ℕ). digest_from ((251 * d + b) % 16_777_216) ys) (eqb-true (lower x) (lower y) k.0)

pub digests_apart : (xs ys : List ℕ) → (digest_of xs ≡ digest_of ys → ⊥) → equal_ignoring_case xs ys ≡ false
digests_apart xs ys n = go (equal_ignoring_case xs ys) refl
  where
    go : (b : Bool) → equal_ignoring_case xs ys ≡ b → equal_ignoring_case xs ys ≡ false
    go true q = absurd (n (from_one 0 xs ys q))
    go false q = q

module _ (name : List ℕ) where
  -- the digest of a name is that of what is left behind its first i bytes, from d on
  pub record Digests (d i : ℕ) : Type 0 where
    pub small : d < 16_777_216
    pub is : digest_of name ≡ digest_from d (drop i name)

  pub digests_on : (d i : ℕ) → i < length name → Digests d i → Digests ((251 * d + lower (get_or name i 0)) % 16_777_216) (i + 1)
  unfolding digest_from
  digests_on d i h g = record { small = omega arith; is = g.is ∙ rw (add-one i, drop-cons name i 0 h) refl }

  pub digests_end : (d i : ℕ) → length name ≤ i → Digests d i → d ≡ digest_of name
  unfolding digest_from
  digests_end d i l g = sym (g.is ∙ rw (drop_of_length-le name {i = i} l) refl)
