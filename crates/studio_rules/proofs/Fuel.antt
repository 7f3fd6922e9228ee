-- The walk's equations, in which no bound on its depth stands: what a recursive function of the code is proved against.
-- What a step leaves to walk is shorter, so that any two bounds above the length give one answer.
use mathlib.Core.Path.{◌≡◌, refl}
use Prim.Native.Nat.{ℕ, zero, suc, ◌+◌, ◌-◌, ◌<◌, ◌≤◌}
use native.Mathlib.Omega.{arith}
use mathlib.Core.Bool.{Bool, true, false}
use mathlib.Core.List.{List, [], ◌∷◌}
use mathlib.Core.Option.{Option, none, some}
use lib.ListN.{length, take, drop, length-drop, length-take}
use borrow.Author.Tests.{leb-true}
use Rattle.shared_words.specs.declared.Refusal.{Refusal}
use Rattle.shared_words.specs.Bytes.{value}
use Rattle.studio_rules.specs.Table.{listed, shape}
use Rattle.studio_rules.specs.OwnData.{own_size}
use Rattle.studio_rules.specs.Layout.{Run, end}
use Rattle.studio_rules.specs.Rules.{Parent, inside}
use Rattle.shared_words.specs.Conditions.{broken, Answer, accepted}
use Rattle.studio_rules.specs.Walk.{Step, stop, pass, enter, header_conditions, child_conditions, opened, sorted, parted, length_field, step, taken, run, walk, told_by, version_run, version_in}
use Rattle.shared_words.proofs.Conditions.{met}

-- what a step leaves to walk is shorter than n
abbrev pub Shorter : ℕ → Step → Type 0
Shorter n (stop r) = Unit
Shorter n (pass id body rest) = length rest < n
Shorter n (enter id own kids rest) = (length kids < n) × (length rest < n)

opened-short : (n id : ℕ) (body rest : List ℕ) (k : ℕ) → length body < n → length rest < n → (r : Option Refusal) → Shorter n (opened id body rest k r)
opened-short n id body rest k b l (some r) = tt
opened-short n id body rest k b l none = (omega (arith, length-drop k body), l)

sorted-short : (n : ℕ) (e : Bool) (p : Parent) (seen : List ℕ) (o id : ℕ) (body rest : List ℕ) → length body < n → length rest < n → Shorter n (sorted e p seen o id body rest)
sorted-short n true p seen o id body rest b l =
    opened-short n id body rest (own_size (shape id) p.own body) b l (broken (child_conditions p seen o id body (own_size (shape id) p.own body)))
sorted-short n false p seen o id body rest b l = l

parted-short : (p : Parent) (seen : List ℕ) (o : ℕ) (s : List ℕ) (id n : ℕ) (r : Option Refusal) → broken (header_conditions o s n) ≡ r → Shorter (length s) (parted p seen o s id n r)
parted-short p seen o s id n (some r) e = tt
parted-short p seen o s id n none e =
    let t = met _ e in
    let l₁ : 6 ≤ length s = leb-true _ _ t.0 in
    let l₂ : 6 ≤ n = leb-true _ _ t.1.0 in
    sorted-short (length s) (listed id) p seen o id (take (n - 6) (drop 6 s)) (drop n s)
    (omega (arith, length-take (n - 6) (drop 6 s), length-drop 6 s)) (omega (arith, length-drop n s))

pub step-short : (p : Parent) (seen : List ℕ) (o : ℕ) (s : List ℕ) → Shorter (length s) (step p seen o s)
unfolding step
step-short p seen o s = parted-short p seen o s (value (take 2 s)) (length_field s) (broken (header_conditions o s (length_field s))) refl

-- two walks that agree on all that is shorter go on alike
taken-same : (n : ℕ) (go go' : Parent → List ℕ → ℕ → List ℕ → Answer Run) → ((p : Parent) (seen : List ℕ) (o : ℕ) (s : List ℕ) → length s < n → go p seen o s ≡ go' p seen o s) →
    (p : Parent) (seen : List ℕ) (o : ℕ) (x : Step) → Shorter n x → taken go p seen o x ≡ taken go' p seen o x
taken-same n go go' h p seen o (stop r) l = refl
taken-same n go go' h p seen o (pass id body rest) l = rw (h p seen (o + (6 + length body)) rest l)
taken-same n go go' h p seen o (enter id own kids rest) l =
    rw (h (inside p seen id own) [] (o + (6 + length own)) kids l.0, h p (id ∷ seen) (o + (6 + length own + length kids)) rest l.1)

run-same : (k k' : ℕ) (p : Parent) (seen : List ℕ) (o : ℕ) (s : List ℕ) → length s < k → length s < k' → run k p seen o s ≡ run k' p seen o s
run-same zero k' p seen o s h h' = absurd (omega arith)
run-same (suc k) zero p seen o s h h' = absurd (omega arith)
run-same (suc k) (suc k') p seen o [] h h' = refl
run-same (suc k) (suc k') p seen o (x ∷ s) h h' =
    taken-same (length (x ∷ s)) (run k) (run k') (λ p seen o t l. run-same k k' p seen o t (omega arith) (omega arith)) p seen o (step p seen o (x ∷ s)) (step-short p seen o (x ∷ s))

-- THE EQUATIONS
pub walk_nil : (p : Parent) (seen : List ℕ) (o : ℕ) → walk p seen o [] ≡ accepted end
unfolding walk
walk_nil p seen o = refl

pub walk_cons : (p : Parent) (seen : List ℕ) (o x : ℕ) (s : List ℕ) → walk p seen o (x ∷ s) ≡ taken walk p seen o (step p seen o (x ∷ s))
unfolding walk
walk_cons p seen o x s =
    taken-same (length (x ∷ s)) (run (length (x ∷ s))) walk (λ p seen o t l. run-same (length (x ∷ s)) (suc (length t)) p seen o t l (omega arith)) p seen o (step p seen o (x ∷ s)) (step-short p seen o (x ∷ s))

-- ---- the version, likewise

told_same : (go go' : List ℕ → ℕ) (s : List ℕ) (n : ℕ) (r : Option Refusal) → broken (header_conditions 0 s n) ≡ r → ((t : List ℕ) → length t < length s → go t ≡ go' t) →
    told_by go s n r ≡ told_by go' s n r
told_same go go' s n (some r) e h = refl
told_same go go' s n none e h =
    let t = met _ e in
    let l₁ : 6 ≤ length s = leb-true _ _ t.0 in
    let l₂ : 6 ≤ n = leb-true _ _ t.1.0 in
    rw (h (drop n s) (omega (arith, length-drop n s)))

version-same : (k k' : ℕ) (s : List ℕ) → length s < k → length s < k' → version_run k s ≡ version_run k' s
version-same zero k' s h h' = absurd (omega arith)
version-same (suc k) zero s h h' = absurd (omega arith)
version-same (suc k) (suc k') s h h' =
    told_same (version_run k) (version_run k') s (length_field s) (broken (header_conditions 0 s (length_field s))) refl (λ t l. version-same k k' t (omega arith) (omega arith))

-- THE EQUATION
pub version-next : (s : List ℕ) → version_in s ≡ told_by version_in s (length_field s) (broken (header_conditions 0 s (length_field s)))
unfolding version_in
version-next s =
    told_same (version_run (length s)) version_in s (length_field s) (broken (header_conditions 0 s (length_field s))) refl (λ t l. version-same (length s) (suc (length t)) t l (omega arith))
