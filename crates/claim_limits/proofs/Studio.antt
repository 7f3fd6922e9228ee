-- 3D Studio figures: no step of the walk answers 1, and the walk is given more steps than there are bytes.
use mathlib.Core.Bool.{Bool, true, false}
use mathlib.Core.List.{List, [], ◌∷◌}
use mathlib.Core.Option.{Option, none, some}
use Prim.Native.Nat.{ℕ, zero, suc, ◌+◌, ◌-◌, ◌<◌}
use native.Mathlib.Omega.{arith}
use lib.ListN.{length, take, drop}
use borrow.Author.Rules.{rules}
use Rattle.shared_words.specs.declared.Refusal.{Refusal}
use Rattle.shared_words.specs.Bytes.{value}
use Rattle.shared_words.specs.Conditions.{Condition, must, broken, Answer, refused, accepted}
use Rattle.studio_rules.specs.Table.{listed, shape}
use Rattle.studio_rules.specs.OwnData.{own_size}
use Rattle.studio_rules.specs.Layout.{Run}
use Rattle.studio_rules.specs.Rules.{Parent, inside}
use Rattle.studio_rules.specs.Walk.{Step, stop, pass, enter, header_conditions, child_conditions, end_conditions, opened, sorted, parted, length_field, step, ended, with_skip, with_known, taken, run, walk}
use Rattle.studio_rules.proofs.Fuel.{Shorter, step-short}
use Rattle.claim_limits.proofs.Other.{Other, NotLong, Others, unless_not}

-- ---- one step

abbrev StepNot : Step → Type 0
StepNot (stop r) = Other r
StepNot (pass id body rest) = Unit
StepNot (enter id own kids rest) = Unit

abbrev FaultNot : Option Refusal → Type 0
FaultNot none = Unit
FaultNot (some r) = Other r

broken-not : (cs : List Condition) → Others cs → FaultNot (broken cs)
unfolding broken
broken-not [] h = tt
broken-not (must true r ∷ cs) h = broken-not cs h.1
broken-not (must false r ∷ cs) h = h.0

opened-not : (id : ℕ) (body rest : List ℕ) (k : ℕ) (r : Option Refusal) → FaultNot r → StepNot (opened id body rest k r)
opened-not id body rest k (some r) h = h
opened-not id body rest k none h = tt

sorted-not : (e : Bool) (p : Parent) (seen : List ℕ) (o id : ℕ) (body rest : List ℕ) → StepNot (sorted e p seen o id body rest)
sorted-not true p seen o id body rest =
    let k = own_size (shape id) p.own body in
    opened-not id body rest k (broken (child_conditions p seen o id body k)) (broken-not (child_conditions p seen o id body k) (search rules))
sorted-not false p seen o id body rest = tt

parted-not : (p : Parent) (seen : List ℕ) (o : ℕ) (s : List ℕ) (id n : ℕ) (r : Option Refusal) → FaultNot r → StepNot (parted p seen o s id n r)
parted-not p seen o s id n (some r) h = h
parted-not p seen o s id n none h = sorted-not (listed id) p seen o id (take (n - 6) (drop 6 s)) (drop n s)

step-not : (p : Parent) (seen : List ℕ) (o : ℕ) (s : List ℕ) → StepNot (step p seen o s)
unfolding step
step-not p seen o s =
    parted-not p seen o s (value (take 2 s)) (length_field s) (broken (header_conditions o s (length_field s))) (broken-not (header_conditions o s (length_field s)) (search rules))

-- ---- the walk

pub ended-not : (q : Parent) (o : ℕ) (a : Answer Run) → NotLong a → NotLong (ended q o a)
ended-not q o (refused r) h = h
ended-not q o (accepted t) h = unless_not (end_conditions q o t) (accepted t) (search rules) (λ _. tt)

skip-not : (id : ℕ) (body : List ℕ) (a : Answer Run) → NotLong a → NotLong (with_skip id body a)
skip-not id body (refused r) h = h
skip-not id body (accepted t) h = tt

known-not : (id : ℕ) (own : List ℕ) (a b : Answer Run) → NotLong a → NotLong b → NotLong (with_known id own a b)
known-not id own (refused r) b h k = h
known-not id own (accepted kids) (refused r) h k = k
known-not id own (accepted kids) (accepted t) h k = tt

taken_not : (n : ℕ) (go : Parent → List ℕ → ℕ → List ℕ → Answer Run) → ((p : Parent) (seen : List ℕ) (o : ℕ) (s : List ℕ) → length s < n → NotLong (go p seen o s)) →
    (p : Parent) (seen : List ℕ) (o : ℕ) (x : Step) → Shorter n x → StepNot x → NotLong (taken go p seen o x)
taken_not n go h p seen o (stop r) l w = w
taken_not n go h p seen o (pass id body rest) l w = skip-not id body (go p seen (o + (6 + length body)) rest) (h p seen (o + (6 + length body)) rest l)
taken_not n go h p seen o (enter id own kids rest) l w =
    let q = inside p seen id own in
    let inner = go q [] (o + (6 + length own)) kids in
    known-not id own (ended q o inner) (go p (id ∷ seen) (o + (6 + length own + length kids)) rest) (ended-not q o inner (h q [] (o + (6 + length own)) kids l.0)) (h p (id ∷ seen) (o + (6 + length own + length kids)) rest l.1)

run-not : (k : ℕ) (p : Parent) (seen : List ℕ) (o : ℕ) (s : List ℕ) → length s < k → NotLong (run k p seen o s)
run-not zero p seen o s h = absurd (omega arith)
run-not (suc k) p seen o [] h = tt
run-not (suc k) p seen o (b ∷ bs) h =
    taken_not (length (b ∷ bs)) (run k) (λ p seen o s l. run-not k p seen o s (omega arith)) p seen o (step p seen o (b ∷ bs)) (step-short p seen o (b ∷ bs)) (step-not p seen o (b ∷ bs))

pub walk-not : (p : Parent) (seen : List ℕ) (o : ℕ) (s : List ℕ) → NotLong (walk p seen o s)
unfolding walk
walk-not p seen o s = run-not (suc (length s)) p seen o s (omega arith)
