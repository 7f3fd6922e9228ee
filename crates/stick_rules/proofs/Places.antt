-- Numbers of entries: those that are met so far, and those that a path has.
use Rattle.std.specs.Prelude.{Ok}
use mathlib.Core.Path.{◌≡◌, refl}
use mathlib.Core.Bool.{Bool, true, false, ◌||◌, cond}
use mathlib.Core.List.{List, [], ◌∷◌}
use mathlib.Core.Option.{some}
use Prim.Native.Nat.{ℕ, zero, suc, ◌+◌, ◌<◌, ◌≤◌}
use native.Mathlib.Omega.{arith}
use lib.Dec.{eqb}
use lib.ListN.{length}
use borrow.Author.Tests.{eqb-true}
use Rattle.shared_words.proofs.Bools.{and_parts}
use Rattle.slip_rules.specs.Slip.{Entry}
use Rattle.stick_rules.specs.Names.{equal_ignoring_case}
use Rattle.stick_rules.specs.Judge.{Target, is_target, is_matched, entry_index, entry_of, entry_conditions}
use Rattle.shared_words.specs.Conditions.{must, answered, broken}
use Rattle.shared_words.specs.declared.Refusal.TheVariants.{Absent}
use Rattle.stick_rules.proofs.Answers.{never}

-- 1 where it holds
abbrev pub once : Bool → ℕ
once b = cond b 1 0

pub once-true : (b : Bool) → once b ≡ 1 → b ≡ true
once-true true h = refl
once-true false h = absurd (omega arith)

pub once-false : (b : Bool) → once b ≡ 0 → b ≡ false
once-false true h = absurd (omega arith)
once-false false h = refl

pub once-most : (b : Bool) → once b ≤ 1
once-most true = omega arith
once-most false = omega arith

-- one mark more, that was not among them
pub one_more : (k n : ℕ) (m : Target) (matched : List Target) → is_matched m.entry m.up_to matched ≡ false →
    once (is_matched k n (m ∷ matched)) ≡ once (is_target k n m) + once (is_matched k n matched)
one_more k n m matched f = go (is_target k n m) refl
  where
    go : (b : Bool) → is_target k n m ≡ b → once (b || is_matched k n matched) ≡ once b + once (is_matched k n matched)
    go true q =
        let p = and_parts (eqb k m.entry) (eqb n m.up_to) q in
        let e = eqb-true k m.entry p.0 in
        let u = eqb-true n m.up_to p.1 in
        let g : is_matched k n matched ≡ false = rw (e, u) f in
        rw g
    go false q = omega arith

-- a path that has an entry has its number
pub has_place : (es : List Entry) (path : List ℕ) (e : Entry) → entry_of es path ≡ some e → entry_index true es path < length es
unfolding entry_index entry_of
has_place [] path e h = let z : ◌≡◌ {A = ℕ} 0 1 = cc in absurd (omega arith)
has_place (x ∷ es) path e h = go (has_place es path e) (equal_ignoring_case x.name path) h
  where
    go : (entry_of es path ≡ some e → entry_index true es path < length es) →
        (b : Bool) → cond b (some x) (entry_of es path) ≡ some e → cond b 0 (suc (entry_index true es path)) < suc (length es)
    go on true h = omega arith
    go on false h = omega (arith, on h)

-- all entries are met exactly where the conditions say so
pub all-matched : (k : ℕ) (es : List Entry) (matched : List Target) → answered (entry_conditions k es matched) ≡ (Ok tt) →
    (j : ℕ) → j < length es → is_matched (k + j) 0 matched ≡ true
unfolding answered broken entry_conditions
all-matched k [] matched h j l = absurd (omega arith)
all-matched k (e ∷ es) matched h j l = go (all-matched (suc k) es matched) (is_matched k 0 matched) refl h j l
  where
    go : (answered (entry_conditions (suc k) es matched) ≡ (Ok tt) → (j : ℕ) → j < length es → is_matched (suc k + j) 0 matched ≡ true) →
        (b : Bool) → is_matched k 0 matched ≡ b → answered (must b (Absent k) ∷ entry_conditions (suc k) es matched) ≡ (Ok tt) →
        (j : ℕ) → j < suc (length es) → is_matched (k + j) 0 matched ≡ true
    go on true q h zero l = let z : k + 0 ≡ k = omega arith in rw z q
    go on true q h (suc j) l =
        let z : k + suc j ≡ suc k + j = omega arith in
        rw z (on h j (omega arith))
    go on false q h j l = never (Absent k) h

pub matched-all : (k : ℕ) (es : List Entry) (matched : List Target) → ((j : ℕ) → j < length es → is_matched (k + j) 0 matched ≡ true) →
    answered (entry_conditions k es matched) ≡ (Ok tt)
unfolding answered broken entry_conditions
matched-all k [] matched h = refl
matched-all k (e ∷ es) matched h =
    let z : k + 0 ≡ k = omega arith in
    let q : is_matched k 0 matched ≡ true = rw z at (h 0 (omega arith)) in
    rw q (matched-all (suc k) es matched (λ j l. let z : suc k + j ≡ k + suc j = omega arith in rw z (h (suc j) (omega arith))))
