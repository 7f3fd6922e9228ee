-- Own data takes as many bytes as its shape says, whatever follows it.
use mathlib.Core.Path.{◌≡◌, refl, ap, ◌∙◌}
use Prim.Native.Nat.{ℕ, suc, ◌+◌, ◌≤◌}
use native.Mathlib.Omega.{arith}
use mathlib.Core.Bool.{Bool, true, false, cond}
use mathlib.Core.List.{List, [], ◌∷◌, ◌++◌}
use lib.ListN.{length, drop, length-drop}
use lib.Seq.{take-append-le, drop-append-le}
use lib.Dec.{eqb}
use borrow.Author.Tests.{le-leb}
use Rattle.studio_rules.specs.Table.{Shape, fixed, name, counted, each, named_words, named}
use Rattle.studio_rules.specs.OwnData.{name_size, count, own_size, has_name, text, name_fits}
use Rattle.shared_words.specs.Labels.{fits_label}

name-size-pos : (s : List ℕ) → 1 ≤ name_size s
name-size-pos [] = omega arith
name-size-pos (b ∷ s) = go (eqb b 0)
  where
    go : (e : Bool) → 1 ≤ cond e 1 (suc (name_size s))
    go true = omega arith
    go false = omega arith

-- a name that ends within `own` ends there, with more behind it or not
name-size-more : (own more : List ℕ) → name_size own ≤ length own → name_size (own ++ more) ≡ name_size own
name-size-more [] more h = absurd (omega arith)
name-size-more (b ∷ own) more h = go (eqb b 0) (name-size-more own more) h
  where
    go : (e : Bool) → (name_size own ≤ length own → name_size (own ++ more) ≡ name_size own) →
        cond e 1 (suc (name_size own)) ≤ suc (length own) → cond e 1 (suc (name_size (own ++ more))) ≡ cond e 1 (suc (name_size own))
    go true ih h = refl
    go false ih h = omega (arith, ih (omega arith))

name-size_less : (own more : List ℕ) → name_size (own ++ more) ≤ length own → name_size own ≡ name_size (own ++ more)
name-size_less [] more h = absurd (omega (arith, name-size-pos more))
name-size_less (b ∷ own) more h = go (eqb b 0) (name-size_less own more) h
  where
    go : (e : Bool) → (name_size (own ++ more) ≤ length own → name_size own ≡ name_size (own ++ more)) →
        cond e 1 (suc (name_size (own ++ more))) ≤ suc (length own) → cond e 1 (suc (name_size own)) ≡ cond e 1 (suc (name_size (own ++ more)))
    go true ih h = refl
    go false ih h = omega (arith, ih (omega arith))

-- a count word that lies within `own`
count-more : (k : ℕ) (own more : List ℕ) → k + 2 ≤ length own → count (drop k (own ++ more)) ≡ count (drop k own)
count-more k own more h = rw (drop-append-le k own more (omega arith), take-append-le 2 (drop k own) more (omega (arith, length-drop k own)))

pub own_size-more : (sh : Shape) (around own more : List ℕ) → own_size sh around own ≡ length own → own_size sh around (own ++ more) ≡ length own
own_size-more (fixed k) around own more h = h
own_size-more name around own more h = name-size-more own more (omega arith) ∙ h
own_size-more (counted k) around own more h = rw (take-append-le 2 own more (omega arith)) h
own_size-more (each k) around own more h = h
own_size-more (named k) around own more h = rw (name-size-more own more (omega arith)) h
own_size-more named_words around own more h = rw (name-size-more own more (omega arith), count-more (name_size own) own more (omega arith)) h

pub own_size_less : (sh : Shape) (around own more : List ℕ) → own_size sh around (own ++ more) ≡ length own → own_size sh around own ≡ length own
own_size_less (fixed k) around own more h = h
own_size_less name around own more h = name-size_less own more (omega arith) ∙ h
own_size_less (counted k) around own more h = rw (take-append-le 2 own more (omega arith)) at h
own_size_less (each k) around own more h = h
own_size_less (named k) around own more h = rw (name-size_less own more (omega arith)) h
own_size_less named_words around own more h =
    let n : name_size own ≡ name_size (own ++ more) = name-size_less own more (omega arith) in
    rw (n, ← (count-more (name_size (own ++ more)) own more (omega arith))) h

-- the name is the same, with more behind it or not
pub text-more : (own more : List ℕ) → name_size own ≤ length own → text (own ++ more) ≡ text own
text-more [] more h = absurd (omega arith)
text-more (b ∷ own) more h = go (eqb b 0) (text-more own more) h
  where
    go : (e : Bool) → (name_size own ≤ length own → text (own ++ more) ≡ text own) →
        cond e 1 (suc (name_size own)) ≤ suc (length own) → cond e [] (b ∷ text (own ++ more)) ≡ cond e [] (b ∷ text own)
    go true ih h = refl
    go false ih h = rw (ih (omega arith))

pub name-fits-more : (sh : Shape) (around own more : List ℕ) → own_size sh around own ≡ length own → name_fits sh (own ++ more) ≡ name_fits sh own
name-fits-more (fixed k) around own more h = refl
name-fits-more name around own more h = ap fits_label (text-more own more (omega arith))
name-fits-more (counted k) around own more h = refl
name-fits-more (each k) around own more h = refl
name-fits-more named_words around own more h = ap fits_label (text-more own more (omega arith))
name-fits-more (named k) around own more h = ap fits_label (text-more own more (omega arith))

-- own data that fits has its name's zero
pub has_name_lem : (sh : Shape) (around s : List ℕ) → own_size sh around s ≤ length s → has_name sh s ≡ true
has_name_lem (fixed k) around s h = refl
has_name_lem name around s h = le-leb (name_size s) (length s) h
has_name_lem (counted k) around s h = refl
has_name_lem (each k) around s h = refl
has_name_lem (named k) around s h = le-leb (name_size s) (length s) (omega arith)
has_name_lem named_words around s h = le-leb (name_size s) (length s) (omega arith)
