-- Where each entry is met, no two of them are one name; so a file that has the name of an entry has its number.
use mathlib.Core.Path.{◌≡◌, refl, sym, ap, ◌∙◌}
use Rattle.stick_rules.proofs.Places.{once}
use mathlib.Core.Bool.{Bool, true, false, ◌&&◌, true≢false, cond}
use mathlib.Core.List.{List, [], ◌∷◌}
use mathlib.Core.Option.{some}
use Prim.Native.Nat.{ℕ, zero, suc, ◌+◌, ◌<◌}
use native.Mathlib.Omega.{arith}
use lib.Dec.{eqb}
use lib.ListN.{length, get_or}
use borrow.Author.Tests.{eqb-true, eqb-false, eq-eqb, ne_eqb}
use Rattle.shared_words.specs.Lists.{total, All}
use Rattle.slip_rules.specs.Slip.{Entry}
use Rattle.stick_rules.specs.Names.{equal_ignoring_case}
use Rattle.stick_rules.specs.Items.{Item, is_file}
use Rattle.stick_rules.specs.Judge.{entry_index, entry_of}
use Rattle.stick_rules.specs.Theorems.{files_no}
use Rattle.stick_rules.proofs.Alike.{alike_meet, alike_through}

-- no entry is one with a later one
abbrev pub Unlike : Entry → List Entry → Type 0
Unlike e es = All (λ (f : Entry). equal_ignoring_case e.name f.name ≡ false) es

abbrev pub Apart : List Entry → Type 0
Apart [] = Unit
Apart (e ∷ es) = Unlike e es × Apart es

-- ---- a path that has the number of an entry

first-place : (e : Entry) (es : List Entry) (path : List ℕ) → entry_index true (e ∷ es) path ≡ 0 → equal_ignoring_case e.name path ≡ true
unfolding entry_index
first-place e es path h = go (equal_ignoring_case e.name path) h
  where
    go : (b : Bool) → cond b 0 (suc (entry_index true es path)) ≡ 0 → b ≡ true
    go true q = refl
    go false q = absurd (omega arith)

later-place : (e : Entry) (es : List Entry) (path : List ℕ) (k : ℕ) → entry_index true (e ∷ es) path ≡ suc k → (equal_ignoring_case e.name path ≡ false) × (entry_index true es path ≡ k)
unfolding entry_index
later-place e es path k h = go (equal_ignoring_case e.name path) h
  where
    go : (b : Bool) → cond b 0 (suc (entry_index true es path)) ≡ suc k → (b ≡ false) × (entry_index true es path ≡ k)
    go true q = absurd (omega arith)
    go false q = (refl, omega arith)

pub record Hit (es : List Entry) (k : ℕ) : Type 0 where
  pub path : List ℕ
  pub is : entry_index true es path ≡ k

pub hit-by : (es : List Entry) (k : ℕ) (ts : List Item) → 0 < files_no es k ts → Hit es k
hit-by es k [] h = absurd (omega arith)
hit-by es k (t ∷ ts) h = go (hit-by es k ts) (is_file t) (eqb k (entry_index true es t.path)) refl h
  where
    go : (0 < files_no es k ts → Hit es k) → (a b : Bool) → eqb k (entry_index true es t.path) ≡ b → 0 < once (a && b) + files_no es k ts → Hit es k
    go on true true q h = record { path = t.path; is = sym (eqb-true k (entry_index true es t.path) q) }
    go on true false q h = on (omega arith)
    go on false b q h = on (omega arith)

-- a path that is not e's, with the number k among the others
record Other (e : Entry) (es : List Entry) (k : ℕ) : Type 0 where
  path : List ℕ
  is : entry_index true es path ≡ k
  not_first : equal_ignoring_case e.name path ≡ false

unlike : (e : Entry) (es : List Entry) → ((k : ℕ) → k < length es → Other e es k) → Unlike e es
unlike e [] h = tt
unlike e (f ∷ fs) h = (here (h 0 (omega arith)) (equal_ignoring_case e.name f.name) refl, unlike e fs (λ k l. next k (h (suc k) (omega arith))))
  where
    here : Other e (f ∷ fs) 0 → (b : Bool) → equal_ignoring_case e.name f.name ≡ b → equal_ignoring_case e.name f.name ≡ false
    here o true q =
        absurd (true≢false (sym (alike_through e.name f.name o.path q (first-place f fs o.path o.is)) ∙ o.not_first))
    here o false q = q

    next : (k : ℕ) → Other e (f ∷ fs) (suc k) → Other e fs k
    next k o = record { path = o.path; is = (later-place f fs o.path k o.is).1; not_first = o.not_first }

pub apart : (es : List Entry) → ((k : ℕ) → k < length es → Hit es k) → Apart es
apart [] h = tt
apart (e ∷ es) h = (unlike e es (λ k l. other k (h (suc k) (omega arith))), apart es (λ k l. next k (h (suc k) (omega arith))))
  where
    other : (k : ℕ) → Hit (e ∷ es) (suc k) → Other e es k
    other k o = let p = later-place e es o.path k o.is in record { path = o.path; is = p.1; not_first = p.0 }

    next : (k : ℕ) → Hit (e ∷ es) (suc k) → Hit es k
    next k o = record { path = o.path; is = (later-place e es o.path k o.is).1 }

-- ---- of entries that are apart

abbrev pub blank : Entry
blank = record { name = []; file = 0; first = 0; second = 0 }

all-at : (P : Entry → Type 0) (es : List Entry) (k : ℕ) → k < length es → All P es → P (get_or es k blank)
all-at P [] k l a = absurd (omega arith)
all-at P (e ∷ es) zero l a = a.0
all-at P (e ∷ es) (suc k) l a = all-at P es k (omega arith) a.1

pub all_from : (P : Entry → Type 0) (es : List Entry) → ((k : ℕ) → k < length es → P (get_or es k blank)) → All P es
all_from P [] h = tt
all_from P (e ∷ es) h = (h 0 (omega arith), all_from P es (λ k l. h (suc k) (omega arith)))

-- the name of an entry and its number are one
pub named-at : (es : List Entry) → Apart es → (k : ℕ) → k < length es → (path : List ℕ) → eqb k (entry_index true es path) ≡ equal_ignoring_case (get_or es k blank).name path
unfolding entry_index
named-at [] a k l path = absurd (omega arith)
named-at (e ∷ es) a zero l path = go (equal_ignoring_case e.name path)
  where
    go : (b : Bool) → eqb 0 (cond b 0 (suc (entry_index true es path))) ≡ b
    go true = eq-eqb 0 0 refl
    go false = ne_eqb 0 (suc (entry_index true es path)) (λ z. omega arith)
named-at (e ∷ es) a (suc k) l path =
    go (equal_ignoring_case e.name path) refl (equal_ignoring_case (get_or es k blank).name path) refl (all-at (λ (f : Entry). equal_ignoring_case e.name f.name ≡ false) es k (omega arith) a.0)
    (named-at es a.1 k (omega arith) path)
  where
    shift : eqb (suc k) (suc (entry_index true es path)) ≡ eqb k (entry_index true es path)
    shift = go' (eqb k (entry_index true es path)) refl
      where
        go' : (b : Bool) → eqb k (entry_index true es path) ≡ b → eqb (suc k) (suc (entry_index true es path)) ≡ b
        go' true q = let e = eqb-true k (entry_index true es path) q in eq-eqb (suc k) (suc (entry_index true es path)) (ap suc e)
        go' false q = let n = eqb-false k (entry_index true es path) q in ne_eqb (suc k) (suc (entry_index true es path)) (λ z. n (omega arith))

    go : (b : Bool) → equal_ignoring_case e.name path ≡ b → (c : Bool) → equal_ignoring_case (get_or es k blank).name path ≡ c → equal_ignoring_case e.name (get_or es k blank).name ≡ false →
        eqb k (entry_index true es path) ≡ equal_ignoring_case (get_or es k blank).name path → eqb (suc k) (cond b 0 (suc (entry_index true es path))) ≡ equal_ignoring_case (get_or es k blank).name path
    go true p true q n i = absurd (true≢false (sym (alike_meet e.name (get_or es k blank).name path p q) ∙ n))
    go true p false q n i = ne_eqb (suc k) 0 (λ z. omega arith) ∙ sym q
    go false p c q n i = shift ∙ i

-- the entry of a path has its number
pub entry_at : (es : List Entry) (path : List ℕ) (e : Entry) → entry_of es path ≡ some e → get_or es (entry_index true es path) blank ≡ e
unfolding entry_index entry_of
entry_at [] path e h = let z : ◌≡◌ {A = ℕ} 0 1 = cc in absurd (omega arith)
entry_at (x ∷ es) path e h = go (entry_at es path e) (equal_ignoring_case x.name path) h
  where
    go : (entry_of es path ≡ some e → get_or es (entry_index true es path) blank ≡ e) → (b : Bool) → cond b (some x) (entry_of es path) ≡ some e →
        get_or (x ∷ es) (cond b 0 (suc (entry_index true es path))) blank ≡ e
    go on true h = cc
    go on false h = on h

-- a path that has an entry has the name of one only
none_else : (e : Entry) (es : List Entry) (path : List ℕ) → equal_ignoring_case e.name path ≡ true → Unlike e es →
    total (λ (f : Entry). once (equal_ignoring_case f.name path)) es ≡ 0
none_else e [] path h a = refl
none_else e (f ∷ fs) path h a = go (equal_ignoring_case f.name path) refl (none_else e fs path h a.1)
  where
    go : (b : Bool) → equal_ignoring_case f.name path ≡ b → total (λ (f : Entry). once (equal_ignoring_case f.name path)) fs ≡ 0 →
        once b + total (λ (f : Entry). once (equal_ignoring_case f.name path)) fs ≡ 0
    go true q i = absurd (true≢false (sym (alike_meet e.name f.name path h q) ∙ a.0))
    go false q i = omega arith

pub one_only : (es : List Entry) → Apart es → (path : List ℕ) → entry_index true es path < length es → total (λ (e : Entry). once (equal_ignoring_case e.name path)) es ≡ 1
unfolding entry_index
one_only [] a path l = absurd (omega arith)
one_only (e ∷ es) a path l = go (one_only es a.1 path) (equal_ignoring_case e.name path) refl l
  where
    go : (entry_index true es path < length es → total (λ (f : Entry). once (equal_ignoring_case f.name path)) es ≡ 1) → (b : Bool) → equal_ignoring_case e.name path ≡ b →
        cond b 0 (suc (entry_index true es path)) < suc (length es) → once b + total (λ (f : Entry). once (equal_ignoring_case f.name path)) es ≡ 1
    go on true q l = omega (arith, none_else e es path q a.0)
    go on false q l = omega (arith, on (omega arith))
