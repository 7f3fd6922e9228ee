-- A child of an identifier, among the children of a chunk.
use mathlib.Core.Path.{◌≡◌, refl, sym}
use Prim.Native.Nat.{ℕ}
use mathlib.Core.Bool.{Bool, true, false, ◌||◌, cond, true≢false}
use mathlib.Core.List.{[]}
use lib.Dec.{eqb}
use borrow.Author.Tests.{eqb-false, ne_eqb}
use Rattle.shared_words.specs.Lists.{among}
use Rattle.studio_rules.specs.Layout.{Run, end, skip, known, identifiers, child}

-- where there is none, there is no own data
pub child-none : (x : ℕ) (t : Run) → among x (identifiers t) ≡ false → child x t ≡ []
child-none x end h = refl
child-none x (skip id body rest) h = child-none x rest h
child-none x (known id own kids rest) h = go (eqb x id) refl h (child-none x rest)
  where
    go : (b : Bool) → eqb x id ≡ b → (b || among x (identifiers rest)) ≡ false → (among x (identifiers rest) ≡ false → child x rest ≡ []) → cond (eqb id x) own (child x rest) ≡ []
    go true e h ih = absurd (true≢false h)
    go false e h ih = rw (ne_eqb id x (λ q. eqb-false x id e (sym q))) (ih h)
