-- What `starts_with` says of the header.
use mathlib.Core.Path.{◌≡◌, refl, sym}
use Prim.Native.Nat.{ℕ, ◌<◌}
use native.Mathlib.Omega.{arith}
use mathlib.Core.Bool.{Bool, true, false, and-false}
use mathlib.Core.List.{List, [], ◌∷◌}
use lib.Dec.{eqb}
use lib.ListN.{length, take, length-take}
use lib.Pointwise.{pointwise}
use borrow.Author.Tests.{eqb-true, eqb-false, eq-eqb, ne_eqb}
use Rattle.shared_words.specs.Lists.{same}
use Rattle.cob_rules.specs.Layout.{file_header}
use Rattle.cob_body.proofs.Parts.{by_element}

-- fewer bytes are another list
same_shorter : (xs ys : List ℕ) → length xs < length ys → same xs ys ≡ false
same_shorter [] [] l = absurd (omega arith)
same_shorter [] (y ∷ ys) l = refl
same_shorter (x ∷ xs) [] l = refl
same_shorter (x ∷ xs) (y ∷ ys) l = rw (same_shorter xs ys (omega arith)) (and-false (eqb x y))

pub too_short : (s : List ℕ) → length s < 32 → same (take 32 s) file_header ≡ false
too_short s l = same_shorter (take 32 s) file_header (omega (arith, length-take 32 s))

pub begins : (s : List ℕ) → pointwise eqb file_header (take (length file_header) s) ≡ same (take 32 s) file_header
begins s = by_element file_header (take 32 s)
