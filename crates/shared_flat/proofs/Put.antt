-- Demand 3 for flat files, from what a format shows of one chunk (`Harmless`). By the marked list, which both files share.
use mathlib.Core.Path.{◌≡◌, refl, ◌∙◌}
use Prim.Native.Nat.{ℕ, ◌+◌, ◌≤◌}
use native.Mathlib.Omega.{arith}
use mathlib.Core.Bool.{Bool, true, false, cond}
use mathlib.Core.List.{List, [], ◌∷◌}
use lib.Dec.{ltb}
use borrow.Author.Tests.{ltb-false, le-ltb}
use Rattle.shared_flat.specs.Flat.{Obeys, total, Format, records}
use Rattle.shared_words.specs.Lists.{Pairwise}
pub use Rattle.shared_words.proofs.Lists.{pairwise_append}
use Rattle.shared_flat.specs.Put.{Mark, put, keep, without, with, puts, LawfulThere, Piece, pieces, before, Moved, Shifted, Harmless, HarmlessIsEnough}

-- ---- bytes put in

module _ {A : Type 0} (size : A → ℕ) where
  -- none of those from o on begins before o
  pub none_before : (y o : ℕ) (m : List (Mark A)) → y ≤ o → before y (pieces size o m) ≡ 0
  none_before y o [] h = refl
  none_before y o (put a ∷ m) h = rw (le-ltb o y h) (omega (arith, none_before y (o + size a) m (omega arith)))
  none_before y o (keep a ∷ m) h = none_before y (o + size a) m (omega arith)

  pub total-grows : (m : List (Mark A)) → total size (with m) ≡ total size (without m) + total size (puts m)
  total-grows [] = refl
  total-grows (put a ∷ m) = omega (arith, total-grows m)
  total-grows (keep a ∷ m) = omega (arith, total-grows m)

-- a chunk that ends at y or before counts with all its bytes
hit : (y o n : ℕ) → o + n ≤ y → cond (ltb o y) n 0 ≡ n
hit y o n h = go (ltb o y) refl
  where
    go : (e : Bool) → ltb o y ≡ e → cond e n 0 ≡ n
    go true e = refl
    go false e = omega (arith, ltb-false o y e)

-- Seen from o on, where m begins, ps has just the pieces of m, and a bytes before o.
abbrev Holds : {A : Type 0} → (A → ℕ) → List Piece → ℕ → ℕ → List (Mark A) → Type 0
Holds size ps o a m = (y : ℕ) → o ≤ y → before y ps ≡ a + before y (pieces size o m)

module _ {A : Type 0} (size : A → ℕ) (ps : List Piece) (o a : ℕ) (c : A) (m : List (Mark A)) where
  holds-put : Holds size ps o a (put c ∷ m) → Holds size ps (o + size c) (a + size c) m
  holds-put h y l = omega (arith, h y (omega arith), hit y o (size c) l)

  holds-keep : Holds size ps o a (keep c ∷ m) → Holds size ps (o + size c) a m
  holds-keep h y l = h y (omega arith)

-- what follows the chunks moves by all bytes put in
end-from : {A : Type 0} (size : A → ℕ) (ps : List Piece) (o a : ℕ) (m : List (Mark A)) → Holds size ps o a m →
    before (o + total size (with m)) ps ≡ a + total size (puts m)
end-from size ps o a [] h = h (o + 0) (omega arith)
end-from size ps o a (put c ∷ m) h =
    let e : o + (size c + total size (with m)) ≡ o + size c + total size (with m) = omega arith in
    rw e (end-from size ps (o + size c) (a + size c) m (holds-put size ps o a c m h) ∙ omega arith)
end-from size ps o a (keep c ∷ m) h =
    let e : o + (size c + total size (with m)) ≡ o + size c + total size (with m) = omega arith in
    rw e (end-from size ps (o + size c) a m (holds-keep size ps o a c m h))

-- ---- pairs

pairwise_weaker : {A : Type 0} (R Q : A → A → Type 0) → ((x y : A) → R x y → Q x y) → (xs us : List A) → Pairwise R xs us → Pairwise Q xs us
pairwise_weaker R Q w [] [] h = tt
pairwise_weaker R Q w [] (u ∷ us) h = absurd h
pairwise_weaker R Q w (x ∷ xs) [] h = absurd h
pairwise_weaker R Q w (x ∷ xs) (u ∷ us) h = (w x u h.0, pairwise_weaker R Q w xs us h.1)

-- ---- the theorem, for every format

module _ {S A R : Type 0} (F : Format S A R) (Lawful : S → A → Type 0) (at : R → ℕ) (Same : R → R → Type 0)
    (Like : S → S → List (Mark A) → Type 0) (H : Harmless F Lawful at Same Like) where
  -- put in, where each chunk put in is lawful there
  obeys-with : (s s' : S) (m : List (Mark A)) → Like s s' m → LawfulThere F.after Lawful s' m →
      Obeys F.after Lawful s (without m) → Obeys F.after Lawful s' (with m)
  obeys-with s s' [] l p h = tt
  obeys-with s s' (put a ∷ m) l p h = (p.0, obeys-with s (F.after s' a) m (H.put-after s s' a m l) p.1 h)
  obeys-with s s' (keep a ∷ m) l p h =
      ((H.keep-lawful s s' a m l).0 h.0, obeys-with (F.after s a) (F.after s' a) m (H.keep-after s s' a m l) p h.1)

  -- taken out
  obeys-without : (s s' : S) (m : List (Mark A)) → Like s s' m → Obeys F.after Lawful s' (with m) → Obeys F.after Lawful s (without m)
  obeys-without s s' [] l h = tt
  obeys-without s s' (put a ∷ m) l h = obeys-without s (F.after s' a) m (H.put-after s s' a m l) h.1
  obeys-without s s' (keep a ∷ m) l h =
      ((H.keep-lawful s s' a m l).1 h.0, obeys-without (F.after s a) (F.after s' a) m (H.keep-after s s' a m l) h.1)

  -- the records: m begins at o without the chunks and at o' with them, and a bytes are put in before it
  records-from : (ps : List Piece) (s s' : S) (o o' a : ℕ) (m : List (Mark A)) → Like s s' m → Obeys F.after Lawful s (without m) → o' ≡ o + a → Holds F.size ps o' a m →
      Pairwise (Moved at Same ps) (records F s o (without m)) (records F s' o' (with m))
  records-from ps s s' o o' a [] l g e h = tt
  records-from ps s s' o o' a (put c ∷ m) l g e h =
      rw (H.put-gives s s' c m l o')
      (records-from ps s (F.after s' c) o (o' + F.size c) (a + F.size c) m (H.put-after s s' c m l) g (omega arith) (holds-put F.size ps o' a c m h))
  records-from ps s s' o o' a (keep c ∷ m) l g e h =
      pairwise_append (Moved at Same ps) (F.gives s o c) _ (F.gives s' o' c) _
      (pairwise_weaker (Shifted at Same (F.size c) o o') (Moved at Same ps)
      (λ r r' d. record {
        offset_grows =
            let n = none_before F.size (at r') (o' + F.size c) m (omega arith) in
            let b = h (at r') (omega arith) in
            omega arith;
        else_same = d.shifted_same;
      })
      (F.gives s o c) (F.gives s' o' c) (H.keep-gives s s' c m l g.0 o o'))
      (records-from ps (F.after s c) (F.after s' c) (o + F.size c) (o' + F.size c) a m (H.keep-after s s' c m l) g.1 (omega arith) (holds-keep F.size ps o' a c m h))

pub harmless_is_enough : HarmlessIsEnough
harmless_is_enough S A R F Lawful at Same Like H = record {
  put_in_lem = obeys-with F Lawful at Same Like H;
  taken_out = obeys-without F Lawful at Same Like H;
  records-moved = λ s s' o m l g. records-from F Lawful at Same Like H (pieces F.size o m) s s' o o 0 m l g (omega arith) (λ y k. omega arith);
  end_moved = λ o m.
      let e = end-from F.size (pieces F.size o m) o 0 m (λ y k. omega arith) in
      omega (arith, total-grows F.size m);
}
