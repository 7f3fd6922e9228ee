-- The sides that the search for a name takes, by the number that is mixed from it a byte at a time.
use mathlib.Core.Path.{◌≡◌, refl, sym, ◌∙◌}
use mathlib.Core.List.{List}
use Prim.Native.Nat.{ℕ, ◌+◌, ◌*◌, ◌%◌, ◌<◌, ◌≤◌}
use native.Mathlib.Nat.{mod-lt}
use native.Mathlib.Numerals.{add-one}
use native.Mathlib.Omega.{arith}
use lib.ListN.{length, get_or, drop, drop_of_length-le}
use lib.Seq.{drop-cons}
use Rattle.shared_name_tree.specs.Names.{mixed}

pub bit : (n : ℕ) → n % 2 < 2
bit n = mod-lt n (omega arith)

-- ---- the mixed number

module _ (name : List ℕ) where
  -- the first i bytes of a name are mixed
  pub record Mixing (m i : ℕ) : Type 0 where
    pub small : m < 4294967296
    pub rest : mixed 0 name ≡ mixed m (drop i name)

  pub mixing_on : (m i : ℕ) → Mixing m i → i < length name → Mixing ((16777619 * m + get_or name i 0) % 4294967296) (i + 1)
  unfolding mixed
  mixing_on m i k h = record {
    small = mod-lt (16777619 * m + get_or name i 0) (omega arith);
    rest = k.rest ∙ rw (drop-cons name i 0 h, add-one i) refl;
  }

  pub mixing_all : (m i : ℕ) → Mixing m i → length name ≤ i → m ≡ mixed 0 name
  unfolding mixed
  mixing_all m i k h = sym (k.rest ∙ rw (drop_of_length-le name {i = i} h) refl)
