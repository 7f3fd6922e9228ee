-- A body that tells its own end tells it whatever follows: what is left behind it, with more bytes, has just these more. And what is read
-- of it, alone, is read whole.
use mathlib.Core.Path.{◌≡◌, refl, sym, ap, ◌∙◌}
use Prim.Native.Nat.{ℕ, zero, suc, ◌+◌, ◌-◌, ◌*◌, ◌≤◌}
use native.Mathlib.Omega.{arith}
use mathlib.Core.Bool.{Bool, true, false, not, ◌&&◌, cond, false≢true}
use mathlib.Core.List.{List, [], ◌∷◌, ◌++◌, append-nil, append_assoc}
use mathlib.Core.Option.{Option, none, some, some-injective, none-ne-some}
use lib.Dec.{leb}
use lib.ListN.{length, take, drop, length-append, take-append-drop, drop_of_length-le}
use lib.Seq.{drop-append-le, length-take-le, take_at, drop_at, drop-length}
use borrow.Author.Tests.{leb-true, le-leb}
use Rattle.shared_words.specs.Bytes.{value, negative}
use Rattle.cob_rules.specs.declared.Kind.{Kind}
use Rattle.cob_rules.specs.declared.Kind.TheVariants.{End, Grou, PolH, Mat1, Other}
use Rattle.shared_words.proofs.Bools.{and_parts}
use Rattle.cob_rules.specs.Kinds.{tells_end, Part, natural, times, faces, parts}
use Rattle.cob_rules.specs.Body.{Reading, and_then, skip, counted, hole, face, face_run, behind, behind_all, fits, nothing, exact, up_to, body_at}
use Rattle.cob_rules.specs.Theorems.{ToldExactly}

abbrev Grows : Reading → Type 0
Grows f = (s r more : List ℕ) → f s ≡ some r → f (s ++ more) ≡ some (r ++ more)

-- what is read, alone, is read whole
pub record Split (f : Reading) (s left : List ℕ) : Type 0 where
  pub own : List ℕ
  pub is : own ++ left ≡ s
  pub alone : f own ≡ some []

pub record Told (f : Reading) : Type 0 where
  pub grows : Grows f
  pub splits : (s left : List ℕ) → f s ≡ some left → Split f s left

-- parts behind parts
pub behind_append : (ps qs : List Part) (s : List ℕ) → behind_all (ps ++ qs) s ≡ and_then (behind_all ps s) (behind_all qs)
unfolding behind_all
behind_append [] qs s = refl
behind_append (p ∷ ps) qs s = go (behind_append ps qs) (behind p s)
  where
    go : ((t : List ℕ) → behind_all (ps ++ qs) t ≡ and_then (behind_all ps t) (behind_all qs)) → (o : Option (List ℕ)) → and_then o (behind_all (ps ++ qs)) ≡ and_then (and_then o (behind_all ps)) (behind_all qs)
    go ih none = refl
    go ih (some t) = ih t

-- ---- so many bytes

skip-fits : (k : ℕ) (s : List ℕ) → k ≤ length s → skip k s ≡ some (drop k s)
skip-fits k s l = rw (le-leb k (length s) l)

pub skip-left : (k : ℕ) (s left : List ℕ) → skip k s ≡ some left → (k ≤ length s) × (drop k s ≡ left)
skip-left k s left = go (leb k (length s)) refl
  where
    go : (e : Bool) → leb k (length s) ≡ e → ◌≡◌ {A = Option (List ℕ)} (cond e (some (drop k s)) none) (some left) → (k ≤ length s) × (drop k s ≡ left)
    go true e h = (leb-true _ _ e, some-injective _ _ h)
    go false e h = absurd (none-ne-some left h)

skip-told : (k : ℕ) → Told (skip k)
skip-told k = record {
  grows = λ s r more h.
      let p = skip-left k s r h in
      skip-fits k (s ++ more) (omega (arith, length-append s more, p.0)) ∙ rw (drop-append-le k s more p.0, p.1);
  splits = λ s left h.
      let p = skip-left k s left h in
      let n = length-take-le k s p.0 in
      record {
        own = take k s;
        is = ap (λ (x : List ℕ). take k s ++ x) (sym p.1) ∙ take-append-drop k s;
        alone = skip-fits k (take k s) (omega arith) ∙ rw (drop_of_length-le (take k s) {i = k} (omega arith));
      };
}

-- ---- a count, and what follows it

module _ (w : ℕ) (f : ℕ → Reading) where
  abbrev good : List ℕ → Bool
  good s = leb w (length s) && not (negative w (value (take w s)))

  pub counted-left : (s left : List ℕ) → counted w f s ≡ some left → (good s ≡ true) × (f (value (take w s)) (drop w s) ≡ some left)
  counted-left s left = go (good s) refl
    where
      go : (e : Bool) → good s ≡ e → ◌≡◌ {A = Option (List ℕ)} (cond e (f (value (take w s)) (drop w s)) none) (some left) →
          (good s ≡ true) × (f (value (take w s)) (drop w s) ≡ some left)
      go true e h = (e, h)
      go false e h = absurd (none-ne-some left h)

  -- the same count, and something else behind it
  counted-again : (s own : List ℕ) → good s ≡ true → counted w f (take w s ++ own) ≡ f (value (take w s)) own
  counted-again s own g =
      let c = and_parts (leb w (length s)) (not (negative w (value (take w s)))) g in
      let n = length-take-le w s (leb-true w (length s) c.0) in
      rw (le-leb w (length (take w s ++ own)) (omega (arith, length-append (take w s) own)), take_at (take w s) own w n, c.1, drop_at (take w s) own w n)

  counted-told : ((n : ℕ) → Told (f n)) → Told (counted w f)
  counted-told t = record {
    grows = λ s r more h.
        let p = counted-left s r h in
        let e : take w s ++ (drop w s ++ more) ≡ s ++ more = sym (append_assoc (take w s) (drop w s) more) ∙ ap (λ (x : List ℕ). x ++ more) (take-append-drop w s) in
        ap (counted w f) (sym e) ∙ counted-again s (drop w s ++ more) p.0 ∙ (t (value (take w s))).grows (drop w s) r more p.1;
    splits = λ s left h.
        let p = counted-left s left h in
        let q = (t (value (take w s))).splits (drop w s) left p.1 in
        record {
          own = take w s ++ q.own;
          is = append_assoc (take w s) q.own left ∙ ap (λ (x : List ℕ). take w s ++ x) q.is ∙ take-append-drop w s;
          alone = counted-again s q.own p.0 ∙ q.alone;
        };
  }

-- ---- one after another

all_told : Told some
all_told = record {
  grows = λ s r more h. rw (some-injective s r h);
  splits = λ s left h. record { own = []; is = sym (some-injective s left h); alone = refl };
}

module _ (f g : Reading) where
  pub then_left : (s left : List ℕ) → and_then (f s) g ≡ some left → (t : List ℕ) × (f s ≡ some t) × (g t ≡ some left)
  then_left s left = go (f s) refl
    where
      go : (o : Option (List ℕ)) → f s ≡ o → and_then o g ≡ some left → (t : List ℕ) × (f s ≡ some t) × (g t ≡ some left)
      go none e h = absurd (none-ne-some left h)
      go (some t) e h = (t, e, h)

  then_told : Told f → Told g → Told (λ s. and_then (f s) g)
  then_told a b = record {
    grows = λ s r more h.
        let p = then_left s r h in
        rw (a.grows s p.0 more p.1) (b.grows p.0 r more p.2);
    splits = λ s left h.
        let p = then_left s left h in
        let x = a.splits s p.0 p.1 in
        let y = b.splits p.0 left p.2 in
        record {
          own = x.own ++ y.own;
          is = append_assoc x.own y.own left ∙ ap (λ (z : List ℕ). x.own ++ z) y.is ∙ x.is;
          alone = rw (a.grows x.own [] y.own x.alone) y.alone;
        };
  }

-- ---- faces

corners-told : (flags : ℕ) → Told (counted 2 (λ n. skip (cond (hole flags) 0 2 + 8 * n)))
corners-told flags = counted-told 2 (λ n. skip (cond (hole flags) 0 2 + 8 * n)) (λ n. skip-told (cond (hole flags) 0 2 + 8 * n))

face-grows : Grows face
face-grows [] r more h = absurd (none-ne-some r h)
face-grows (flags ∷ s) r more h = (corners-told flags).grows s r more h

face_splits : (s left : List ℕ) → face s ≡ some left → Split face s left
face_splits [] left h = absurd (none-ne-some left h)
face_splits (flags ∷ s) left h =
    let q = (corners-told flags).splits s left h in
    record { own = flags ∷ q.own; is = ap (λ (x : List ℕ). flags ∷ x) q.is; alone = q.alone }

run-told : (n : ℕ) → Told (face_run n)
run-told zero = all_told
run-told (suc n) = then_told face (face_run n) record { grows = face-grows; splits = face_splits } (run-told n)

-- ---- the parts of the bodies that tell their own end

abbrev AllTold : List Part → Type 0
AllTold [] = Unit
AllTold (p ∷ ps) = Told (behind p) × AllTold ps

behind-told : (ps : List Part) → AllTold ps → Told (behind_all ps)
unfolding behind_all
behind-told [] h = all_told
behind-told (p ∷ ps) h = then_told (behind p) (behind_all ps) h.0 (behind-told ps h.1)

natural-told : (w : ℕ) → Told (behind (natural w))
natural-told w = counted-told w (λ n t. some t) (λ n. all_told)

times-told : (w k : ℕ) → Told (behind (times w k))
times-told w k = counted-told w (λ n. skip (k * n)) (λ n. skip-told (k * n))

faces-told : Told (behind faces)
faces-told = counted-told 4 face_run run-told

parts-told : (k : Kind) → tells_end k ≡ true → AllTold (parts k)
parts-told End h = tt
parts-told Grou h = (natural-told 2, (times-told 2 1, (skip-told 48, (skip-told 48, tt))))
parts-told PolH h = (natural-told 2, (times-told 2 1, (skip-told 48, (skip-told 48, (times-told 4 12, (times-told 4 8, (faces-told, tt)))))))
parts-told Mat1 h = absurd (false≢true h)
parts-told Other h = absurd (false≢true h)

-- ---- one body

pub nothing_left : (o : Option (List ℕ)) → nothing o ≡ true → o ≡ some []
nothing_left none h = absurd (false≢true h)
nothing_left (some []) h = refl
nothing_left (some (b ∷ bs)) h = absurd (false≢true h)

-- a body that tells its end is found, whatever follows it
pub body-told : (k : Kind) (body more : List ℕ) → tells_end k ≡ true → exact k body ≡ true → up_to (body ++ more) (behind_all (parts k) (body ++ more)) ≡ body
body-told k body more t h =
    let e : behind_all (parts k) (body ++ more) ≡ some more = (behind-told (parts k) (parts-told k t)).grows body [] more (nothing_left _ h) in
    rw e (take_at body more (length (body ++ more) - length more) (omega (arith, length-append body more)))

-- what fits is an exact body
pub told_exactly : ToldExactly
told_exactly k s t = go (behind_all (parts k) s) refl
  where
    go : (o : Option (List ℕ)) → behind_all (parts k) s ≡ o → exact k (up_to s o) ≡ fits o
    go none e = rw e
    go (some left) e =
        let q = (behind-told (parts k) (parts-told k t)).splits s left e in
        let n : length q.own ≡ length s - length left = omega (arith, length-append q.own left, ap length q.is) in
        let b : take (length s - length left) s ≡ q.own = ap (take (length s - length left)) (sym q.is) ∙ take_at q.own left (length s - length left) n in
        rw (b, q.alone)

-- ---- the body is what its bytes begin with

taken-whole : (k : ℕ) (s : List ℕ) → take k s ++ drop (length (take k s)) s ≡ s
taken-whole zero s = refl
taken-whole (suc k) [] = refl
taken-whole (suc k) (b ∷ s) = ap (λ (l : List ℕ). b ∷ l) (taken-whole k s)

up_to-whole : (s : List ℕ) (o : Option (List ℕ)) → up_to s o ++ drop (length (up_to s o)) s ≡ s
up_to-whole s none = rw (drop-length s, append-nil s)
up_to-whole s (some left) = taken-whole (length s - length left) s

-- where it is told by its bytes, and where by its size
either_whole : (e : Bool) (k : Kind) (size : ℕ) (s : List ℕ) →
    cond e (up_to s (behind_all (parts k) s)) (take size s) ++ drop (length (cond e (up_to s (behind_all (parts k) s)) (take size s))) s ≡ s
either_whole true k size s = up_to-whole s (behind_all (parts k) s)
either_whole false k size s = taken-whole size s

pub body-whole : (k : Kind) (size : ℕ) (s : List ℕ) → body_at k size s ++ drop (length (body_at k size s)) s ≡ s
body-whole k size s = either_whole (negative 4 size) k size s
