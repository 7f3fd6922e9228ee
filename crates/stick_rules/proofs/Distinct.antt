-- Of a stick that passes, all paths are different.
use mathlib.Core.Path.{◌≡◌, refl, sym, ap, ◌∙◌}
use mathlib.Core.Bool.{Bool, true, false, false≢true, cond}
use mathlib.Core.List.{List, [], ◌∷◌}
use Prim.Native.Nat.{ℕ, suc, ◌≤◌}
use native.Mathlib.Omega.{arith}
use lib.Dec.{eqb}
use lib.ListN.{length}
use borrow.Author.Tests.{eqb-true, eqb-false, eq-eqb, ne_eqb, not-true}
use Rattle.shared_words.specs.Lists.{All}
use Rattle.shared_words.proofs.Bools.{both, and_parts}
use Rattle.slip_rules.specs.Slip.{Entry}
use Rattle.stick_rules.specs.Names.{lower, equal_ignoring_case, is_inside, belongs}
use Rattle.stick_rules.specs.Items.{Item, is_file, has_path}
use Rattle.stick_rules.specs.Judge.{entry_index, index_of, up_to_of, target_of, is_target}
use Rattle.stick_rules.specs.Theorems.{InOrder, IsRoot, targeting, Distinct, NothingMore}
use Rattle.stick_rules.specs.Theorems.InOrder.{folder, file}
use Rattle.stick_rules.proofs.Alike.{alike_turned, alike_through}
use Rattle.stick_rules.proofs.Places.{has_place, once}
use Rattle.stick_rules.proofs.Exact.{passes_exactly}

-- ---- two paths that are one have the same entries

alike_right : (name p q : List ℕ) → equal_ignoring_case p q ≡ true → equal_ignoring_case name p ≡ equal_ignoring_case name q
alike_right name p q h = go (equal_ignoring_case name p) refl (equal_ignoring_case name q) refl
  where
    go : (a : Bool) → equal_ignoring_case name p ≡ a → (b : Bool) → equal_ignoring_case name q ≡ b → a ≡ b
    go true x true y = refl
    go true x false y = sym (alike_through name p q x h) ∙ y
    go false x true y = sym x ∙ alike_through name q p y (alike_turned p q h)
    go false x false y = refl

inside_right : (name p q : List ℕ) → equal_ignoring_case p q ≡ true → is_inside name p ≡ is_inside name q
unfolding equal_ignoring_case is_inside
inside_right name [] [] h = refl
inside_right name [] (y ∷ q) h = absurd (false≢true h)
inside_right name (x ∷ p) [] h = absurd (false≢true h)
inside_right [] (x ∷ p) (y ∷ q) h = refl
inside_right (n ∷ name) (x ∷ p) (y ∷ q) h =
    let k = and_parts (eqb (lower x) (lower y)) (equal_ignoring_case p q) h in
    let e = eqb-true (lower x) (lower y) k.0 in
    let i = inside_right name p q k.1 in
    rw (e, i)

belongs_right : (f : Bool) (name p q : List ℕ) → equal_ignoring_case p q ≡ true → belongs f name p ≡ belongs f name q
belongs_right true name p q h = alike_right name p q h
belongs_right false name p q h = inside_right name p q h

place_right : (f : Bool) (es : List Entry) (p q : List ℕ) → equal_ignoring_case p q ≡ true → entry_index f es p ≡ entry_index f es q
unfolding entry_index
place_right f [] p q h = refl
place_right f (e ∷ es) p q h = rw (belongs_right f e.name p q h, place_right f es p q h)

alike_length : (p q : List ℕ) → equal_ignoring_case p q ≡ true → length p ≡ length q
unfolding equal_ignoring_case
alike_length [] [] h = refl
alike_length [] (y ∷ q) h = absurd (false≢true h)
alike_length (x ∷ p) [] h = absurd (false≢true h)
alike_length (x ∷ p) (y ∷ q) h = ap suc (alike_length p q (and_parts (eqb (lower x) (lower y)) (equal_ignoring_case p q) h).1)

-- ---- so two items of one path would have one mark

same_kind : (es : List Entry) (t u : Item) → InOrder es t → InOrder es u → equal_ignoring_case t.path u.path ≡ true → is_file t ≡ is_file u
same_kind es t u (folder i l) (folder j m) h = not-a-file t i ∙ sym (not-a-file u j)
  where
    not-a-file : (t : Item) → eqb t.kind 2 ≡ true → is_file t ≡ false
    not-a-file t i = ne_eqb t.kind 1 (λ (e : t.kind ≡ 1). let k = eqb-true t.kind 2 i in omega arith)
same_kind es t u (folder i l) (file e g w q a) h =
    absurd (omega (arith, l.free, has_place es u.path e q, place_right true es t.path u.path h))
same_kind es t u (file e g w q a) (folder i l) h =
    absurd (omega (arith, l.free, has_place es t.path e q, place_right true es t.path u.path h))
same_kind es t u (file e g w q a) (file e' g' w' q' a') h = g ∙ sym g'

same-mark : (es : List Entry) (t u : Item) → InOrder es t → InOrder es u → equal_ignoring_case t.path u.path ≡ true →
    is_target (index_of es t) (up_to_of t) (target_of es u) ≡ true
same-mark es t u o p h =
    let k = same_kind es t u o p h in
    let e : index_of es t ≡ index_of es u = ap (λ (f : Bool). entry_index f es t.path) k ∙ place_right (is_file u) es t.path u.path h in
    let n : up_to_of t ≡ up_to_of u = ap (λ (f : Bool). cond f 0 (length t.path)) k ∙ ap (λ (m : ℕ). cond (is_file u) 0 m) (alike_length t.path u.path h) in
    both (eqb (index_of es t) (index_of es u)) (eqb (up_to_of t) (up_to_of u)) (eq-eqb _ _ e) (eq-eqb _ _ n)

unlike_all : (es : List Entry) (t : Item) (ts : List Item) → InOrder es t → All (InOrder es) ts → targeting es (index_of es t) (up_to_of t) ts ≡ 0 →
    All (λ (u : Item). equal_ignoring_case t.path u.path ≡ false) ts
unlike_all es t [] o a z = tt
unlike_all es t (u ∷ ts) o a z = (go (equal_ignoring_case t.path u.path) refl, unlike_all es t ts o a.1 (omega arith))
  where
    go : (b : Bool) → equal_ignoring_case t.path u.path ≡ b → b ≡ false
    go true h = absurd (omega (arith, z, ap once (same-mark es t u o a.0 h)))
    go false h = refl

distinct : (es : List Entry) (ts : List Item) → All (InOrder es) ts → ((k n : ℕ) → targeting es k n ts ≤ 1) → Distinct ts
distinct es [] a h = tt
distinct es (t ∷ ts) a h =
    let k = index_of es t in
    let u = up_to_of t in
    let y : is_target k u (target_of es t) ≡ true = both (eqb k k) (eqb u u) (eq-eqb k k refl) (eq-eqb u u refl) in (
      unlike_all es t ts a.0 a.1 (omega (arith, h k u, ap once y)),
      distinct es ts a.1 (λ j m. omega (arith, h j m)),
    )

-- ---- the stick's own folder has no path, and any other item has one

is_below : (es : List Entry) (t : Item) → InOrder es t → has_path t ≡ true
is_below es t (folder i l) = l.below
is_below es t (file e g w q a) = w

unlike_root : (es : List Entry) (r : Item) → IsRoot r → (ts : List Item) → All (InOrder es) ts → All (λ (u : Item). equal_ignoring_case r.path u.path ≡ false) ts
unlike_root es r i [] a = tt
unlike_root es r i (u ∷ ts) a = (go (equal_ignoring_case r.path u.path) refl, unlike_root es r i ts a.1)
  where
    go : (b : Bool) → equal_ignoring_case r.path u.path ≡ b → b ≡ false
    go true h =
        absurd (eqb-false (length u.path) 0 (not-true _ (is_below es u a.0)) (sym (alike_length r.path u.path h) ∙ i.no_path))
    go false h = refl

pub nothing-more : NothingMore
nothing-more es [] h = absurd ((passes_exactly es []).0 h).rooted
nothing-more es (r ∷ ts) h =
    let g = (passes_exactly es (r ∷ ts)).0 h in
    record { distinct = (unlike_root es r g.rooted ts g.in_order, distinct es ts g.in_order g.none_twice); as_many = g.whole }
