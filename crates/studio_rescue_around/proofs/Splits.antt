-- The children of 4D4D up to its 3D3D: mending them is walking them, and then what follows is mended.
use mathlib.Core.Path.{◌≡◌, refl, sym, ap, ◌∙◌}
use Prim.Native.Nat.{ℕ, zero, suc, ◌+◌, ◌-◌, ◌≤◌, ◌<◌}
use native.Mathlib.Omega.{arith}
use mathlib.Core.Bool.{Bool, true, false, cond}
use mathlib.Core.List.{List, [], ◌∷◌}
use mathlib.Core.Option.{Option, none, some}
use lib.Dec.{eqb}
use lib.ListN.{length, take, drop, length-drop, take-append-drop, length-append}
use lib.Seq.{take-take, drop-drop, take-length, length-take-le}
use borrow.Author.Tests.{le-leb, leb-true, eqb-true}
use Rattle.shared_words.specs.declared.Refusal.{Refusal}
use Rattle.shared_words.specs.Bytes.{value}
use Rattle.shared_words.specs.Conditions.{broken, Answer, refused, accepted}
use Rattle.shared_words.proofs.Conditions.{met, unbroken}
use Rattle.shared_numbers.proofs.Slices.{drop-take, front-slice}
use Rattle.studio_rules.specs.Table.{listed, shape}
use Rattle.studio_rules.specs.OwnData.{own_size}
use Rattle.studio_rules.specs.Layout.{Run, end, skip, known, identifiers, ◌then◌}
use Rattle.studio_rules.specs.Rules.{Parent, inside, tally}
use Rattle.studio_rules.specs.Walk.{header_conditions, child_conditions, length_field, Step, stop, pass, enter, opened, sorted, step, ended, with_skip, with_known, taken, walk, top}
use Rattle.studio_rules.proofs.Fuel.{walk_nil, walk_cons}
use Rattle.studio_scene.specs.Passed.{passed}
use Rattle.studio_rescue_rules.specs.Rescue.{mend_step, mend}
use Rattle.studio_rescue_rules.proofs.Fuel.{mend_cons}
use Rattle.studio_rescue_around.specs.Around.{ahead_by, ahead}
use Rattle.studio_rescue_around.proofs.Ahead.{ahead-next}
use Rattle.studio_rules.proofs.Steps.{step-stops}

-- ---- an answer behind what was read

abbrev pub prefixed : Run → Answer Run → Answer Run
prefixed t (refused r) = refused r
prefixed t (accepted u) = accepted (t then u)

abbrev pub onward : Answer Run → (Run → Answer Run) → Answer Run
onward (refused r) f = refused r
onward (accepted t) f = prefixed t (f t)

-- none of what was read is a 3D3D
abbrev pub Lacks : Answer Run → Type 0
Lacks (refused r) = Unit
Lacks (accepted t) = tally (0x3D3D ∷ []) (identifiers t) ≡ 0

prefixed-end : (a : Answer Run) → prefixed end a ≡ a
prefixed-end (refused r) = refl
prefixed-end (accepted t) = refl

skip-prefixed : (id : ℕ) (body : List ℕ) (t : Run) (a : Answer Run) → with_skip id body (prefixed t a) ≡ prefixed (skip id body t) a
skip-prefixed id body t (refused r) = refl
skip-prefixed id body t (accepted u) = refl

skip-onward : (id : ℕ) (body : List ℕ) (f g : Run → Answer Run) → ((t : Run) → g (skip id body t) ≡ f t) → (a : Answer Run) → with_skip id body (onward a f) ≡ onward (with_skip id body a) g
skip-onward id body f g h (refused r) = refl
skip-onward id body f g h (accepted t) = skip-prefixed id body t (f t) ∙ ap (prefixed (skip id body t)) (sym (h t))

known-prefixed : (id : ℕ) (own : List ℕ) (k t : Run) (a : Answer Run) → with_known id own (accepted k) (prefixed t a) ≡ prefixed (known id own k t) a
known-prefixed id own k t (refused r) = refl
known-prefixed id own k t (accepted u) = refl

known-onward : (id : ℕ) (own : List ℕ) (f g : Run → Answer Run) → ((k t : Run) → g (known id own k t) ≡ f t) → (k a : Answer Run) → with_known id own k (onward a f) ≡ onward (with_known id own k a) g
known-onward id own f g h (refused r) a = refl
known-onward id own f g h (accepted k) (refused r) = refl
known-onward id own f g h (accepted k) (accepted t) = known-prefixed id own k t (f t) ∙ ap (prefixed (known id own k t)) (sym (h k t))

skip_lacks : (id : ℕ) (body : List ℕ) (a : Answer Run) → Lacks a → Lacks (with_skip id body a)
skip_lacks id body (refused r) h = tt
skip_lacks id body (accepted t) h = h

known_lacks : (id : ℕ) (own : List ℕ) → eqb id 0x3D3D ≡ false → (k a : Answer Run) → Lacks a → Lacks (with_known id own k a)
known_lacks id own e (refused r) a h = tt
known_lacks id own e (accepted k) (refused r) h = tt
known_lacks id own e (accepted k) (accepted t) h = rw e (omega (arith, h))

-- ---- one chunk

walk_step : (p : Parent) (seen : List ℕ) (o : ℕ) (s : List ℕ) → 0 < length s → walk p seen o s ≡ taken walk p seen o (step p seen o s)
walk_step p seen o [] h = absurd (omega arith)
walk_step p seen o (x ∷ s) h = walk_cons p seen o x s

pub mend-step : (v : ℕ) (seen : List ℕ) (o : ℕ) (s : List ℕ) → 0 < length s → mend v seen o s ≡ mend_step v (mend v) seen o (step (top v) seen o s)
mend-step v seen o [] h = absurd (omega arith)
mend-step v seen o (x ∷ s) h = mend_cons v seen o x s

-- the run s at o is read up to m bytes, and then mended
pub record Split (v : ℕ) (seen : List ℕ) (o : ℕ) (s : List ℕ) (m : ℕ) : Type 0 where
  pub splits : mend v seen o s ≡ onward (walk (top v) seen o (take m s)) (λ t. mend v (passed seen t) (o + m) (drop m s))
  pub lacks : Lacks (walk (top v) seen o (take m s))

pub record Stepped (v : ℕ) (seen : List ℕ) (o : ℕ) (x y : Step) (o' : ℕ) (back : List ℕ) : Type 0 where
  pub splits : mend_step v (mend v) seen o x ≡ onward (taken walk (top v) seen o y) (λ t. mend v (passed seen t) o' back)
  pub lacks : Lacks (taken walk (top v) seen o y)

module _ (v : ℕ) (seen : List ℕ) (o id : ℕ) (body rest : List ℕ) (m o' : ℕ) (other : eqb id 0x3D3D ≡ false) (o'-is : o' ≡ o + (6 + length body) + m)
    (ih : (seen : List ℕ) → Split v seen (o + (6 + length body)) rest m) where
  pass_splits : Stepped v seen o (pass id body rest) (pass id body (take m rest)) o' (drop m rest)
  pass_splits =
      let h = ih seen in
      let a : Answer Run = walk (top v) seen (o + (6 + length body)) (take m rest) in
      record {
        splits =
            ap (with_skip id body) h.splits ∙
            skip-onward id body (λ t. mend v (passed seen t) (o + (6 + length body) + m) (drop m rest)) (λ t. mend v (passed seen t) o' (drop m rest)) (λ t. rw o'-is) a;
        lacks = skip_lacks id body a h.lacks;
      }

  enter_splits : (own kids : List ℕ) → length own + length kids ≡ length body → Stepped v seen o (enter id own kids rest) (enter id own kids (take m rest)) o' (drop m rest)
  enter_splits own kids e =
      let h = ih (id ∷ seen) in
      let q : o + (6 + length own + length kids) ≡ o + (6 + length body) = omega arith in
      let k : Answer Run = ended (inside (top v) seen id own) o (walk (inside (top v) seen id own) [] (o + (6 + length own)) kids) in
      let a : Answer Run = walk (top v) (id ∷ seen) (o + (6 + length body)) (take m rest) in
      record {
        splits =
            rw (other, q)
            (ap (with_known id own k) h.splits ∙
            known-onward id own (λ t. mend v (passed (id ∷ seen) t) (o + (6 + length body) + m) (drop m rest)) (λ t. mend v (passed seen t) o' (drop m rest)) (λ x t. rw o'-is) k a);
        lacks = rw q (known_lacks id own other k a h.lacks);
      }

  opened_splits : (k : ℕ) (r : Option Refusal) → Stepped v seen o (opened id body rest k r) (opened id body (take m rest) k r) o' (drop m rest)
  opened_splits k (some r) = record { splits = refl; lacks = tt }
  opened_splits k none = enter_splits (take k body) (drop k body) (sym (length-append (take k body) (drop k body)) ∙ ap length (take-append-drop k body))

  sorted_splits : (b : Bool) → Stepped v seen o (sorted b (top v) seen o id body rest) (sorted b (top v) seen o id body (take m rest)) o' (drop m rest)
  sorted_splits true = opened_splits (own_size (shape id) [] body) (broken (child_conditions (top v) seen o id body (own_size (shape id) [] body)))
  sorted_splits false = pass_splits

-- ---- the first chunk of a part is that of the whole

module _ (p : Parent) (seen : List ℕ) (o : ℕ) (s : List ℕ) (fine : broken (header_conditions o s (length_field s)) ≡ none) where
  abbrev n : ℕ
  n = length_field s

  abbrev id : ℕ
  id = value (take 2 s)

  abbrev body : List ℕ
  body = take (n - 6) (drop 6 s)

  pub bounds : (6 ≤ n) × (n ≤ length s)
  bounds = let t = met _ fine in (leb-true _ _ t.1.0, leb-true _ _ t.1.1.0)

  pub body-length : 6 + length body ≡ n
  body-length =
      let h = bounds.0 in
      let l = bounds.1 in
      omega (arith, length-take-le (n - 6) (drop 6 s) (omega (arith, length-drop 6 s)))

  pub step-whole : step p seen o s ≡ sorted (listed id) p seen o id body (drop n s)
  unfolding step
  step-whole = rw fine

  pub step_part : (m : ℕ) → m ≤ length (drop n s) → step p seen o (take (n + m) s) ≡ sorted (listed id) p seen o id body (take m (drop n s))
  unfolding step
  step_part m k =
      let h = bounds.0 in
      let l = bounds.1 in
      let part : List ℕ = take (n + m) s in
      let z : length part ≡ n + m = length-take-le (n + m) s (omega (arith, length-drop n s)) in
      let i : take 2 part ≡ take 2 s = take-take 2 (n + m) s (omega arith) in
      let f : length_field part ≡ n = ap value (front-slice 4 2 (n + m) s (omega arith)) in
      let b : take (n - 6) (drop 6 part) ≡ body = front-slice (n - 6) 6 (n + m) s (omega arith) in
      let g : broken (header_conditions o part n) ≡ none = unbroken _ (le-leb 6 (length part) (omega arith), (le-leb 6 n h, (le-leb n (length part) (omega arith), tt))) in
      rw (f, i, g, b, drop-take n m s)

-- ---- all of them

-- what stands behind the first m bytes of the run s at o, unless they are all of it: a 3D3D
abbrev pub Stands3D3D : ℕ → List ℕ → ℕ → Type 0
Stands3D3D o s m = m < length s → (broken (header_conditions (o + m) (drop m s) (length_field (drop m s))) ≡ none) × (value (take 2 (drop m s)) ≡ 0x3D3D)

pub record Reached (v : ℕ) (seen : List ℕ) (o : ℕ) (s : List ℕ) (m : ℕ) : Type 0 where
  pub split : Split v seen o s m
  pub within : m ≤ length s
  pub there : Stands3D3D o s m

ahead_nil : (o : ℕ) → ahead o [] ≡ 0
unfolding broken
ahead_nil o = ahead-next o []

module _ (v : ℕ) where
  nothing-ahead : (seen : List ℕ) (o : ℕ) (s : List ℕ) → Split v seen o s 0
  nothing-ahead seen o s =
      let z : o + 0 ≡ o = omega arith in
      record { splits = rw (walk_nil (top v) seen o, z) (sym (prefixed-end (mend v seen o s))); lacks = rw (walk_nil (top v) seen o) }

  all-ahead : (seen : List ℕ) (o : ℕ) (s : List ℕ) → 0 < length s → (r : Refusal) → broken (header_conditions o s (length_field s)) ≡ some r → Split v seen o s (length s)
  all-ahead seen o s h r e =
      let x : step (top v) seen o s ≡ stop r = step-stops (top v) seen o s r e in
      let w : walk (top v) seen o (take (length s) s) ≡ refused r = ap (walk (top v) seen o) (take-length s) ∙ walk_step (top v) seen o s h ∙ ap (taken walk (top v) seen o) x in
      record { splits = rw w (mend-step v seen o s h ∙ ap (mend_step v (mend v) seen o) x); lacks = rw w tt }

  module _ (o : ℕ) (s : List ℕ) (fine : broken (header_conditions o s (length_field s)) ≡ none) (m : ℕ) (rest : (seen : List ℕ) → Reached v seen (o + length_field s) (drop (length_field s) s) m) where
    chunk-ahead : (seen : List ℕ) → eqb (value (take 2 s)) 0x3D3D ≡ false → Reached v seen o s (length_field s + m)
    chunk-ahead seen other =
        let n : ℕ = length_field s in
        let h = (bounds (top v) seen o s fine).0 in
        let l = (bounds (top v) seen o s fine).1 in
        let b = body-length (top v) seen o s fine in
        let k = (rest seen).within in
        let y = step_part (top v) seen o s fine m k in
        let x = step-whole (top v) seen o s fine in
        let d : drop m (drop n s) ≡ drop (n + m) s = drop-drop m n s in
        let q : o + n + m ≡ o + (n + m) = omega arith in
        let st = sorted_splits v seen o (value (take 2 s)) (take (n - 6) (drop 6 s)) (drop n s) m (o + (n + m)) other (omega arith) (λ seen. rw b (rest seen).split) (listed (value (take 2 s))) in
        let w : walk (top v) seen o (take (n + m) s) ≡ taken walk (top v) seen o (sorted (listed (value (take 2 s))) (top v) seen o (value (take 2 s)) (take (n - 6) (drop 6 s)) (take m (drop n s))) =
        walk_step (top v) seen o (take (n + m) s) (omega (arith, length-take-le (n + m) s (omega (arith, length-drop n s)))) ∙ ap (taken walk (top v) seen o) y in
        record {
          split = record {
            splits = rw (w, ← d) (mend-step v seen o s (omega arith) ∙ ap (mend_step v (mend v) seen o) x ∙ st.splits);
            lacks = rw w st.lacks;
          };
          within = omega (arith, length-drop n s);
          there = λ i. rw (← d, ← q) ((rest seen).there (omega (arith, length-drop n s)));
        }

  module _ (o x : ℕ) (u : List ℕ) (ih : (o : ℕ) (seen t : List ℕ) → length t < length (x ∷ u) → Reached v seen o t (ahead o t)) where
    abbrev s : List ℕ
    s = x ∷ u

    abbrev len : ℕ
    len = length_field s

    by-identifier : (seen : List ℕ) → broken (header_conditions o s len) ≡ none → (b : Bool) → eqb (value (take 2 s)) 0x3D3D ≡ b → Reached v seen o s (cond b 0 (len + ahead (o + len) (drop len s)))
    by-identifier seen e true i =
        let z : o + 0 ≡ o = omega arith in
        record { split = nothing-ahead seen o s; within = omega arith; there = λ l. rw z (e, eqb-true _ _ i) }
    by-identifier seen e false i =
        let b = (bounds (top v) seen o s e).0 in
        chunk-ahead o s e (ahead (o + len) (drop len s)) (λ seen. ih (o + len) seen (drop len s) (omega (arith, length-drop len s))) seen i

    by-header : (seen : List ℕ) (r : Option Refusal) → broken (header_conditions o s len) ≡ r → Reached v seen o s (ahead_by ahead o s len r)
    by-header seen (some r) e = record { split = all-ahead seen o s (omega arith) r e; within = omega arith; there = λ i. absurd (omega arith) }
    by-header seen none e = by-identifier seen e (eqb (value (take 2 s)) 0x3D3D) refl

  reaches : (k : ℕ) (seen : List ℕ) (o : ℕ) (s : List ℕ) → length s < k → Reached v seen o s (ahead o s)
  reaches zero seen o s h = absurd (omega arith)
  reaches (suc k) seen o [] h = rw (ahead_nil o) record { split = nothing-ahead seen o []; within = omega arith; there = λ i. absurd (omega arith) }
  reaches (suc k) seen o (x ∷ u) h =
      rw (ahead-next o (x ∷ u)) (by-header o x u (λ o seen t l. reaches k seen o t (omega arith)) seen (broken (header_conditions o (x ∷ u) (length_field (x ∷ u)))) refl)

  pub reached : (seen : List ℕ) (o : ℕ) (s : List ℕ) → Reached v seen o s (ahead o s)
  reached seen o s = reaches (suc (length s)) seen o s (omega arith)
