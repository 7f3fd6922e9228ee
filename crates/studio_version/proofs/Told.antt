-- The version that the bytes from a position on tell: a bad header ends the search, a 0002 of length 10 tells it, any other
-- chunk is stepped over.
use mathlib.Core.Path.{◌≡◌, refl, sym, ap, ◌∙◌}
use mathlib.Core.Bool.{Bool, true, false, ◌&&◌, cond}
use mathlib.Core.List.{List}
use mathlib.Core.Option.{Option, none, some}
use Prim.Native.Nat.{ℕ, ◌+◌, ◌≤◌, ◌<◌}
use native.Mathlib.Omega.{arith}
use lib.Dec.{eqb, leb}
use lib.ListN.{length, take, drop, length-drop}
use lib.Seq.{drop-drop}
use borrow.Author.Tests.{le-leb, lt-leb, eqb-true}
use Rattle.shared_words.specs.declared.Refusal.{Refusal}
use Rattle.shared_words.specs.declared.Refusal.TheVariants.{Stray, Short, Overrun}
use Rattle.shared_words.specs.Bytes.{value}
use Rattle.shared_words.specs.Conditions.{broken}
use Rattle.shared_words.proofs.Conditions.{unbroken, broken-here, broken-later}
use Rattle.studio_rules.specs.Walk.{header_conditions, length_field, told_by, version_in}
use Rattle.studio_rules.proofs.Fuel.{version-next}
use Rattle.shared_numbers.specs.Numbers.{word_at, long_at}

module _ (s : List ℕ) (at : ℕ) where
  abbrev here : List ℕ
  here = drop at s

  abbrev conditions : ℕ → Option Refusal
  conditions n = broken (header_conditions 0 here n)

  bad : (r : Refusal) → conditions (length_field here) ≡ some r → 0 ≡ version_in (drop at s)
  bad r e = sym (version-next here ∙ ap (told_by version_in here (length_field here)) e)

  pub stray : length s < at + 6 → 0 ≡ version_in (drop at s)
  stray h = bad (Stray 0) (broken-here _ _ _ (lt-leb 6 (length here) (omega (arith, length-drop at s))))

  pub nothing : length s ≤ at → 0 ≡ version_in (drop at s)
  nothing h = stray (omega arith)

  module _ (six : at + 6 ≤ length s) (n : ℕ) (n-is : n ≡ long_at s (at + 2)) where
    room : leb 6 (length here) ≡ true
    room = le-leb 6 (length here) (omega (arith, length-drop at s))

    field : length_field (drop at s) ≡ n
    unfolding long_at
    field = ap (λ (l : List ℕ). value (take 4 l)) (drop-drop 2 at s) ∙ sym n-is

    pub short : n < 6 → 0 ≡ version_in (drop at s)
    short h = bad (Short 0) (broken-later _ _ _ room ∙ broken-here _ _ _ (rw field (lt-leb 6 n h)))

    module _ (long : 6 ≤ n) where
      pub overrun : length s < at + n → 0 ≡ version_in (drop at s)
      overrun h =
          bad (Overrun 0) (broken-later _ _ _ room ∙ broken-later _ _ _ (rw field (le-leb 6 n long)) ∙ broken-here _ _ _ (rw field (lt-leb n (length here) (omega (arith, length-drop at s)))))

      module _ (ends : at + n ≤ length s) where
        good : version_in (drop at s) ≡ cond (eqb (word_at s at) 0x0002 && eqb n 10) (long_at s (at + 6)) (version_in (drop (at + n) s))
        unfolding word_at long_at
        good =
            let e : conditions n ≡ none = unbroken (header_conditions 0 here n) (room, (le-leb 6 n long, (le-leb n (length here) (omega (arith, length-drop at s)), tt))) in
            version-next here ∙ rw (field, e, drop-drop 6 at s, drop-drop n at s)

        pub tells : n ≡ 10 → word_at s at ≡ 0x0002 → long_at s (at + 6) ≡ version_in (drop at s)
        tells t i = sym (good ∙ rw (i, t))

        pub passes : (n ≡ 10 → word_at s at ≡ 0x0002 → ⊥) → version_in (drop at s) ≡ version_in (drop (at + n) s)
        passes other = good ∙ go (eqb (word_at s at) 0x0002) refl (eqb n 10) refl
          where
            go : (x : Bool) → eqb (word_at s at) 0x0002 ≡ x → (y : Bool) → eqb n 10 ≡ y → cond (x && y) (long_at s (at + 6)) (version_in (drop (at + n) s)) ≡ version_in (drop (at + n) s)
            go true i true t = absurd (other (eqb-true n 10 t) (eqb-true (word_at s at) 0x0002 i))
            go true i false t = refl
            go false i y t = refl
