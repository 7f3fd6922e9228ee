-- A stick that passes, in plain words.
use mathlib.Core.Path.{◌≡◌, refl, sym, ap, ◌∙◌}
use mathlib.Core.Bool.{Bool, true, false, ◌&&◌, true≢false}
use mathlib.Core.List.{List, [], ◌∷◌}
use Prim.Native.Nat.{ℕ, ◌<◌}
use native.Mathlib.Omega.{arith}
use lib.ListN.{length, get_or}
use borrow.Author.Tests.{eqb-true, ne_eqb}
use Rattle.shared_words.specs.Lists.{All, how_many}
use Rattle.shared_words.proofs.Bools.{and_parts}
use Rattle.slip_rules.specs.Slip.{Entry}
use Rattle.stick_rules.specs.Names.{equal_ignoring_case}
use Rattle.stick_rules.specs.Items.{Item, is_file, is_read}
use Rattle.stick_rules.specs.Judge.{entry_index}
use Rattle.stick_rules.specs.Theorems.{agrees, InOrder, IsRoot, is_file_no, is_named, is_of, MatchedOnce, OnSlip, InPlainWords}
use Rattle.stick_rules.specs.Theorems.InOrder.{folder, file}
use Rattle.stick_rules.proofs.Places.{has_place, once}
use Rattle.stick_rules.proofs.Exact.{passes_exactly}
use Rattle.stick_rules.proofs.Apart.{Apart, hit-by, apart, blank, all_from, named-at, entry_at, one_only}

-- tests that agree on each item count as many
as_many : (P : Item → Type 0) (p q : Item → Bool) (ts : List Item) → All P ts → ((t : Item) → P t → p t ≡ q t) → how_many p ts ≡ how_many q ts
as_many P p q [] a h = refl
as_many P p q (t ∷ ts) a h = let e = ap once (h t a.0) in omega (arith, e, as_many P p q ts a.1 h)

-- a file of an entry's name is the file of it
is_all : (es : List Entry) → Apart es → (k : ℕ) → k < length es → (t : Item) → InOrder es t → is_of (get_or es k blank) t ≡ is_named (get_or es k blank) t
is_all es a k l t o = go (is_named (get_or es k blank) t) refl o
  where
    go : (b : Bool) → is_named (get_or es k blank) t ≡ b → InOrder es t → (b && agrees (get_or es k blank) t && is_read t) ≡ b
    go false q o = refl
    go true q (folder is n) =
        let f = eqb-true t.kind 1 (and_parts (is_file t) (equal_ignoring_case (get_or es k blank).name t.path) q).0 in
        let g = eqb-true t.kind 2 is in
        absurd (omega arith)
    go true q (file e f w h g) =
        let n = (and_parts (is_file t) (equal_ignoring_case (get_or es k blank).name t.path) q).1 in
        let p = eqb-true k (entry_index true es t.path) (named-at es a k l t.path ∙ n) in
        let i : get_or es k blank ≡ e = ap (λ (j : ℕ). get_or es j blank) p ∙ entry_at es t.path e h in
        let r : agrees (get_or es k blank) t ≡ true = rw i g.agree in
        rw (r, g.whole)

on-slip : (es : List Entry) → Apart es → (t : Item) → InOrder es t → is_file t ≡ true → OnSlip es t
on-slip es a t (folder is n) f =
    let g = eqb-true t.kind 1 f in
    let h = eqb-true t.kind 2 is in
    absurd (omega arith)
on-slip es a t (file e g w h k) f = record { one_entry = one_only es a t.path (has_place es t.path e h); judged = k.judged; accepted = k.accepted }

each : (es : List Entry) → Apart es → (ts : List Item) → All (InOrder es) ts → All (λ (t : Item). is_file t ≡ true → OnSlip es t) ts
each es a [] o = tt
each es a (t ∷ ts) o = (on-slip es a t o.0, each es a ts o.1)

-- the stick's own folder is no file
root-not : (t : Item) → IsRoot t → is_file t ≡ false
root-not t r = ne_eqb t.kind 1 (λ (e : t.kind ≡ 1). let k = eqb-true t.kind 2 r.is-folder in omega arith)

not-file : (e : Entry) (t : Item) → is_file t ≡ false → (is_named e t ≡ false) × (is_of e t ≡ false)
not-file e t f = (rw f, rw f)

pub in_plain_words : InPlainWords
in_plain_words es [] h = absurd ((passes_exactly es []).0 h).rooted
in_plain_words es (r ∷ ts) h =
    let g = (passes_exactly es (r ∷ ts)).0 h in
    let a = apart es (λ k l. hit-by es k ts (omega (arith, g.each-once k l))) in
    let f = root-not r g.rooted in
    record {
      every-entry = all_from (MatchedOnce (r ∷ ts)) es (λ k l.
          let n = as_many (InOrder es) (is_named (get_or es k blank)) (is_file_no es k) ts g.in_order
          (λ t o. ap (λ (b : Bool). is_file t && b) (sym (named-at es a k l t.path))) ∙ g.each-once k l in
          let m = as_many (InOrder es) (is_of (get_or es k blank)) (is_named (get_or es k blank)) ts g.in_order (is_all es a k l) ∙ n in
          let z = not-file (get_or es k blank) r f in
          record { one-named = omega (arith, n, ap once z.0); one_of = omega (arith, m, ap once z.1) });
      every-file = (λ q. absurd (true≢false (sym q ∙ f)), each es a ts g.in_order);
    }
