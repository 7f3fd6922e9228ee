-- What the walk accepts is the bytes of a layout that obeys the rules.
-- By the bound on the walk: whatever a step says of its bytes, and the rest of the walk of what is left, makes the whole.
use mathlib.Core.Path.{◌≡◌, refl, sym, ap, ◌∙◌}
use Prim.Native.Nat.{ℕ, zero, suc, ◌+◌}
use native.Mathlib.Omega.{arith}
use mathlib.Core.Bool.{true}
use mathlib.Core.List.{List, [], ◌∷◌, ◌++◌}
use mathlib.Core.Option.{Option, none, some}
use lib.ListN.{length, length-append}
use Rattle.shared_words.specs.declared.Refusal.{Refusal}
use Rattle.shared_words.specs.Bytes.{Bytes}
use Rattle.studio_rules.specs.Table.{plus}
use Rattle.studio_rules.specs.Layout.{Run, end, skip, known, size, bytes}
use Rattle.studio_rules.specs.Rules.{Parent, inside, no_child, children_in_plus, Children, Obeys}
use Rattle.shared_words.specs.Conditions.{broken, Answer, refused, accepted, unless}
use Rattle.studio_rules.specs.Walk.{Step, stop, pass, enter, end_conditions, ended, with_skip, with_known, taken, run, step, walk}
use Rattle.shared_words.proofs.Bools.{or_else}
use Rattle.shared_words.proofs.Conditions.{met}
use Rattle.studio_rules.proofs.Steps.{Says, Passed, Entered, step-says}

pub length-bytes : (t : Run) → length (bytes t) ≡ size t
length-bytes end = refl
length-bytes (skip id body rest) = omega (arith, length-append body (bytes rest), length-bytes rest)
length-bytes (known id own kids rest) =
    omega (arith, length-append own (bytes kids ++ bytes rest), length-append (bytes kids) (bytes rest), length-bytes kids, length-bytes rest)

-- ---- what is told of an accepted run, and of the children of a chunk that has ended

pub record Sound (p : Parent) (seen s : List ℕ) (t : Run) : Type 0 where
  pub is : bytes t ≡ s
  pub obeys : Obeys p seen t

abbrev pub Tells : Parent → List ℕ → List ℕ → Answer Run → Type 0
Tells p seen s (refused r) = Unit
Tells p seen s (accepted t) = Sound p seen s t

-- the chunk q has ended, whose children's bytes are s
pub record Closed (q : Parent) (s : List ℕ) (t : Run) : Type 0 where
  pub is : bytes t ≡ s
  pub obeys : Obeys q [] t
  pub lawful : children_in_plus q t ≡ true → Children q t

abbrev pub Closes : Parent → List ℕ → Answer Run → Type 0
Closes q s (refused r) = Unit
Closes q s (accepted t) = Closed q s t

pub ended_closes : (q : Parent) (o : ℕ) (s : List ℕ) (a : Answer Run) → Tells q [] s a → Closes q s (ended q o a)
ended_closes q o s (refused r) h = tt
ended_closes q o s (accepted t) h = go (broken (end_conditions q o t)) refl
  where
    go : (r : Option Refusal) → broken (end_conditions q o t) ≡ r → Closes q s (unless r (accepted t))
    go (some r) e = tt
    go none e =
        let c = met _ e in
        record { is = h.is; obeys = h.obeys; lawful = λ i. record { in_plus = i; none-missing = search; corners-below = search; mapping_matches_lem = search } }

-- ---- one chunk more

skip-tells : (p : Parent) (seen s : List ℕ) (id : ℕ) (body rest : List ℕ) → Passed s id body rest → (a : Answer Run) → Tells p seen rest a →
    Tells p seen s (with_skip id body a)
skip-tells p seen s id body rest g (refused r) h = tt
skip-tells p seen s id body rest g (accepted t) h = record { is = rw h.is g.is; obeys = (g.free, h.obeys) }

-- no bytes, no child
pub no-child : (t : Run) → bytes t ≡ [] → no_child t ≡ true
no-child end h = refl
no-child (skip id body rest) h = absurd (omega (arith, ap length h))
no-child (known id own kids rest) h = absurd (omega (arith, ap length h))

known_tells : (p : Parent) (seen s : List ℕ) (id : ℕ) (own kids rest : List ℕ) → Entered p seen s id own kids rest →
    (k : Answer Run) → Closes (inside p seen id own) kids k → (a : Answer Run) → Tells p (id ∷ seen) rest a → Tells p seen s (with_known id own k a)
known_tells p seen s id own kids rest g (refused r) q a h = tt
known_tells p seen s id own kids rest g (accepted k) q (refused r) h = tt
known_tells p seen s id own kids rest g (accepted k) q (accepted t) h =
    let z : size k ≡ length kids = sym (length-bytes k) ∙ ap length q.is in
    let i = or_else (plus id) (no_child k) (λ e. no-child k (q.is ∙ g.leaf e)) in
    record { is = rw (z, q.is, h.is) g.is; obeys = (g.lawful, q.lawful i, q.obeys, h.obeys) }

-- ---- the walk

abbrev Walks : (Parent → List ℕ → ℕ → List ℕ → Answer Run) → Type 0
Walks go = (p : Parent) (seen : List ℕ) (o : ℕ) (s : List ℕ) → Bytes s → Tells p seen s (go p seen o s)

taken-tells : (go : Parent → List ℕ → ℕ → List ℕ → Answer Run) → Walks go → (p : Parent) (seen : List ℕ) (o : ℕ) (s : List ℕ) →
    (x : Step) → Says p seen s x → Tells p seen s (taken go p seen o x)
taken-tells go w p seen o s (stop r) g = tt
taken-tells go w p seen o s (pass id body rest) g =
    let o₁ : ℕ = o + (6 + length body) in
    skip-tells p seen s id body rest g (go p seen o₁ rest) (w p seen o₁ rest g.rest-bytes)
taken-tells go w p seen o s (enter id own kids rest) g =
    let q : Parent = inside p seen id own in
    let o₁ : ℕ = o + (6 + length own) in
    let o₂ : ℕ = o + (6 + length own + length kids) in
    known_tells p seen s id own kids rest g
    (ended q o (go q [] o₁ kids)) (ended_closes q o kids (go q [] o₁ kids) (w q [] o₁ kids g.kids_bytes))
    (go p (id ∷ seen) o₂ rest) (w p (id ∷ seen) o₂ rest g.rest-bytes)

pub run-tells : (n : ℕ) → Walks (run n)
run-tells zero p seen o s b = tt
run-tells (suc n) p seen o [] b = record { is = refl; obeys = tt }
run-tells (suc n) p seen o (x ∷ s) b = taken-tells (run n) (run-tells n) p seen o (x ∷ s) (step p seen o (x ∷ s)) (step-says p seen o (x ∷ s) b)

-- the walk, whose bound is always enough
pub walk-tells : (p : Parent) (seen : List ℕ) (o : ℕ) (s : List ℕ) → Bytes s → Tells p seen s (walk p seen o s)
unfolding walk
walk-tells p seen o s b = run-tells (suc (length s)) p seen o s b
