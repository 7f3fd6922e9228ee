-- The children of 3D3D sifted: what is kept obeys the rules, and the cuts put back among it give all of them.
use mathlib.Core.Path.{◌≡◌, refl, sym, ap, ◌∙◌, subst}
use mathlib.Core.Logic.{◌⊎◌, inl, inr}
use Prim.Native.Nat.{ℕ, zero, suc, ◌+◌, ◌≤◌, ◌<◌}
use native.Mathlib.Omega.{arith}
use mathlib.Core.List.{List, [], ◌∷◌, ◌++◌, append_assoc}
use mathlib.Core.Option.{Option, none, some}
use lib.ListN.{length, take, drop, take-append-drop, length-append, length-drop}
use lib.Seq.{take_at, drop_at, length-take-le}
use borrow.Author.Tests.{leb-true}
use Rattle.shared_words.specs.declared.Refusal.{Refusal}
use Rattle.shared_words.specs.Lists.{All}
use Rattle.shared_words.specs.Bytes.{Bytes}
use Rattle.studio_rules.specs.Layout.{Run, size, bytes, ◌then◌}
use Rattle.studio_rules.specs.Rules.{Obeys}
use Rattle.shared_words.specs.Conditions.{broken, Answer, refused, accepted}
use Rattle.studio_rules.specs.Walk.{header_conditions, length_field, step, walk}
use Rattle.shared_words.proofs.Bytes.{bytes_take, bytes_drop}
use Rattle.shared_words.proofs.Conditions.{met}
use Rattle.studio_rules.proofs.Sound.{length-bytes, Tells, run-tells}
use Rattle.studio_rules.proofs.Fuel.{walk_cons}
use Rattle.studio_rules.proofs.Then.{size_then, bytes_then}
use Rattle.studio_scene.proofs.Children.{scene-join}
use Rattle.studio_rescue_rules.specs.Theorems.{WholeChild, RestOfScene, Failed}
use Rattle.studio_rescue_rules.specs.Rescue.{scene, cut, Sifted, nothing, cutting, judged, sifted, sift_run, sift, gone, put_in}

-- x is what becomes of the children s of 3D3D in a file of version v, of which the first stands at o
pub record Sifts (v o : ℕ) (s : List ℕ) (x : Sifted) : Type 0 where
  pub obeys : Obeys (scene v) [] x.kept
  pub sizes : size x.kept + gone x.cuts ≡ length s
  pub no_cut : gone x.cuts ≡ 0 → x.cuts ≡ []
  pub few : length x.cuts ≤ gone x.cuts
  pub back : (pre post : List ℕ) → length pre ≡ o → put_in x.cuts (pre ++ (bytes x.kept ++ post)) ≡ pre ++ (s ++ post)
  pub fail : (pre post : List ℕ) → length pre ≡ o → All (Failed v (pre ++ (s ++ post)) (o + length s)) x.cuts

-- a piece that fails, in what stands around it
failed : (v o z : ℕ) (r : Refusal) (piece pre post : List ℕ) → length pre ≡ o → walk (scene v) [] o piece ≡ refused r →
    WholeChild (cut o r piece) ⊎ RestOfScene z r (cut o r piece) → Failed v (pre ++ (piece ++ post)) z (cut o r piece)
failed v o z r piece pre post e w x =
    record { stands = rw (drop_at pre (piece ++ post) o e) (take_at piece post (length piece) refl); fault = r; fails = w; number_is = refl; extent = x }

-- the length field of a child stands in the child
field-inside : (child rest : List ℕ) → 6 ≤ length child → length_field (child ++ rest) ≡ length_field child
field-inside [] rest h = absurd (omega arith)
field-inside (a ∷ []) rest h = absurd (omega arith)
field-inside (a ∷ b ∷ []) rest h = absurd (omega arith)
field-inside (a ∷ b ∷ c ∷ []) rest h = absurd (omega arith)
field-inside (a ∷ b ∷ c ∷ d ∷ []) rest h = absurd (omega arith)
field-inside (a ∷ b ∷ c ∷ d ∷ e ∷ []) rest h = absurd (omega arith)
field-inside (a ∷ b ∷ c ∷ d ∷ e ∷ f ∷ t) rest h = refl

-- a bad header: all goes
pub bad-header : (v o x : ℕ) (s : List ℕ) (r : Refusal) → broken (header_conditions o (x ∷ s) (length_field (x ∷ s))) ≡ some r → walk (scene v) [] o (x ∷ s) ≡ refused r
unfolding step
bad-header v o x s r e = walk_cons (scene v) [] o x s ∙ rw e

all-says : (v o : ℕ) (r : Refusal) (s : List ℕ) → 0 < length s → broken (header_conditions o s (length_field s)) ≡ some r → walk (scene v) [] o s ≡ refused r →
    Sifts v o s (cutting (cut o r s) nothing)
all-says v o r s h bad w = record {
  obeys = tt;
  sizes = omega arith;
  no_cut = λ e. absurd (omega arith);
  few = omega arith;
  back = λ pre post e. rw (take_at pre post o e, drop_at pre post o e);
  fail = λ pre post e. (failed v o (o + length s) r s pre post e w (inr record { not-empty = h; reaches_end = refl; header-bad = bad }), tt);
}

-- a child, and the rest
module _ (v o n : ℕ) (child rest : List ℕ) (x : Sifted) (l : length child ≡ n) (pos : 6 ≤ n) (field : length_field child ≡ n) (h : Sifts v (o + n) rest x) where
  -- the rest put back behind the child
  rest_back : (pre post : List ℕ) → length pre ≡ o → put_in x.cuts (pre ++ (child ++ (bytes x.kept ++ post))) ≡ pre ++ ((child ++ rest) ++ post)
  rest_back pre post e =
      let k = h.back (pre ++ child) post (length-append pre child ∙ omega arith) in
      let q : pre ++ ((child ++ rest) ++ post) ≡ (pre ++ child) ++ (rest ++ post) = simp append_assoc in
      ap (put_in x.cuts) (sym (append_assoc pre child (bytes x.kept ++ post))) ∙ k ∙ sym q

  -- the child put back before it, and the child kept
  child-back : (pre post : List ℕ) → length pre ≡ o →
      take o (pre ++ (bytes x.kept ++ post)) ++ (child ++ drop o (pre ++ (bytes x.kept ++ post))) ≡ pre ++ (child ++ (bytes x.kept ++ post))
  child-back pre post e = rw (take_at pre (bytes x.kept ++ post) o e, drop_at pre (bytes x.kept ++ post) o e)

  child-kept : (t : Run) → bytes t ≡ child → (pre post : List ℕ) → pre ++ (bytes (t then x.kept) ++ post) ≡ pre ++ (child ++ (bytes x.kept ++ post))
  child-kept t is pre post = rw (bytes_then t x.kept, is, append_assoc child (bytes x.kept) post)

  ends_at : o + n + length rest ≡ o + length (child ++ rest)
  ends_at = omega (arith, length-append child rest)

  rest_fail : (pre post : List ℕ) → length pre ≡ o → All (Failed v (pre ++ ((child ++ rest) ++ post)) (o + length (child ++ rest))) x.cuts
  rest_fail pre post e =
      let q : (pre ++ child) ++ (rest ++ post) ≡ pre ++ ((child ++ rest) ++ post) = simp append_assoc in
      rw (q, ends_at) at (h.fail (pre ++ child) post (length-append pre child ∙ omega arith))

  one-child : (r : Refusal) → WholeChild (cut o r child)
  one-child r = record { header-long = omega arith; field_is = field ∙ sym l }

  judged-says : (a : Answer Run) → walk (scene v) [] o child ≡ a → Tells (scene v) [] child a → Sifts v o (child ++ rest) (judged o child a x)
  judged-says (refused r) w g = record {
    obeys = h.obeys;
    sizes = omega (arith, h.sizes, length-append child rest);
    no_cut = λ e. absurd (omega arith);
    few = omega (arith, h.few);
    back = λ pre post e. ap (put_in x.cuts) (child-back pre post e) ∙ rest_back pre post e;
    fail = λ pre post e. (rw (append_assoc child rest post) (failed v o (o + length (child ++ rest)) r child pre (rest ++ post) e w (inl (one-child r))), rest_fail pre post e);
  }
  judged-says (accepted t) w g = record {
    obeys = scene-join 0 v t x.kept g.obeys h.obeys;
    sizes = omega (arith, h.sizes, length-append child rest, size_then t x.kept, length-bytes t, ap length g.is);
    no_cut = h.no_cut;
    few = h.few;
    back = λ pre post e. ap (put_in x.cuts) (child-kept t g.is pre post) ∙ rest_back pre post e;
    fail = rest_fail;
  }

told : (v o : ℕ) (s : List ℕ) → Bytes s → Tells (scene v) [] s (walk (scene v) [] o s)
unfolding walk
told v o s b = run-tells (suc (length s)) (scene v) [] o s b

module _ (v : ℕ) (go : ℕ → List ℕ → Sifted) (o x : ℕ) (u : List ℕ) where
  abbrev s : List ℕ
  s = x ∷ u

  abbrev n : ℕ
  n = length_field s

  sifted-says : Bytes s → ((o' : ℕ) (t : List ℕ) → length t < length s → Bytes t → Sifts v o' t (go o' t)) →
      (r : Option Refusal) → broken (header_conditions o s n) ≡ r → Sifts v o s (sifted v go o s n r)
  sifted-says b ih (some r) e = all-says v o r s (omega arith) e (bad-header v o x u r e)
  sifted-says b ih none e =
      let t = met _ e in
      let l₂ : 6 ≤ n = leb-true _ _ t.1.0 in
      let l₃ : n ≤ length s = leb-true _ _ t.1.1.0 in
      subst (λ (z : List ℕ). Sifts v o z (sifted v go o s n none)) (take-append-drop n s)
      (judged-says v o n (take n s) (drop n s) (go (o + n) (drop n s)) (length-take-le n s l₃) l₂ (sym (field-inside (take n s) (drop n s) (omega (arith, length-take-le n s l₃))) ∙ ap length_field (take-append-drop n s))
      (ih (o + n) (drop n s) (omega (arith, length-drop n s)) (bytes_drop n s b))
      (walk (scene v) [] o (take n s)) refl (told v o (take n s) (bytes_take n s b)))

run-says : (v k o : ℕ) (s : List ℕ) → length s < k → Bytes s → Sifts v o s (sift_run v k o s)
run-says v zero o s h b = absurd (omega arith)
run-says v (suc k) o [] h b = record { obeys = tt; sizes = refl; no_cut = λ e. refl; few = omega arith; back = λ pre post e. refl; fail = λ pre post e. tt }
run-says v (suc k) o (x ∷ s) h b =
    sifted-says v (sift_run v k) o x s b (λ o' t l b'. run-says v k o' t (omega arith) b') (broken (header_conditions o (x ∷ s) (length_field (x ∷ s)))) refl

pub sift-says : (v o : ℕ) (s : List ℕ) → Bytes s → Sifts v o s (sift v o s)
unfolding sift
sift-says v o s b = run-says v (suc (length s)) o s (omega arith) b
