-- A name fits the label exactly where its fault is its end.
use mathlib.Core.Path.{◌≡◌, refl}
use Prim.Native.Nat.{ℕ, ◌<◌, ◌≤◌}
use native.Mathlib.Omega.{arith}
use mathlib.Core.Bool.{Bool, true, false, ◌&&◌}
use mathlib.Core.List.{List}
use lib.Dec.{eqb, leb}
use lib.ListN.{length}
use borrow.Author.Tests.{le-leb, leb-true, eqb-true, eqb-false}
use Rattle.shared_words.specs.Lists.{every}
use Rattle.shared_words.specs.Labels.{printable, fits_label, label_fault}
use Rattle.shared_words.proofs.Bools.{both}
use Rattle.shared_words.proofs.FirstFault.{every-good, some-bad, fault-within}

pub label_fits : (name : List ℕ) → label_fault name ≡ length name → fits_label name ≡ true
unfolding fits_label
label_fits name e = both _ _ (le-leb (length name) 63 (omega arith)) (every-good printable name (omega arith))

-- and has it before, where it does not
pub label_unfit : (name : List ℕ) → label_fault name < length name → fits_label name ≡ false
unfolding fits_label
label_unfit name h = go (leb (length name) 63) refl
  where
    go : (b : Bool) → leb (length name) 63 ≡ b → (b && every printable name) ≡ false
    go true e = let l = leb-true (length name) 63 e in some-bad printable name (omega arith)
    go false e = refl

pub label_within : (name : List ℕ) → label_fault name ≤ length name
label_within name = omega (arith, fault-within printable name)

pub label_exactly : (name : List ℕ) → fits_label name ≡ eqb (label_fault name) (length name)
label_exactly name = go (eqb (label_fault name) (length name)) refl
  where
    go : (b : Bool) → eqb (label_fault name) (length name) ≡ b → fits_label name ≡ b
    go true e = label_fits name (eqb-true _ _ e)
    go false e = let n = eqb-false (label_fault name) (length name) e in label_unfit name (omega (arith, n, fault-within printable name))
