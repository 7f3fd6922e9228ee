-- A refusal, whatever call answers it: every one has a number of the table, and an answer is no two refusals.
use Rattle.std.specs.Prelude.{Result, Ok, Err, ℕ, ◌≡◌}
use mathlib.Core.Path.{refl, sym, ap}
use native.Mathlib.Omega.{arith}
use mathlib.Core.Logic.{inr}
use Rattle.shared_words.specs.declared.Refusal.{Refusal}
use Rattle.shared_words.specs.Effects.{leaving}
use Rattle.shared_words.specs.Refusals.{code_of}
use Rattle.shared_words.proofs.Refusals.{numbered}
use Rattle.claim_demands.specs.Demand1.{RefusedWith, Answered, AnsweredOn}

-- an answer that is a refusal is no other one
abbrev pub Apart : {A : Type 0} → (Refusal → A) → Type 0
Apart refuse = (r q : Refusal) → refuse r ≡ refuse q → r ≡ q

-- every call that answers a Result answers so
pub apart : {X : Type 0} → Apart {A = Result X Refusal} Err
apart r q e = cc

pub never-ok : {X : Type 0} (x : X) (r : Refusal) → ◌≡◌ {A = Result X Refusal} (Err r) (Ok x) → ⊥
never-ok x r e = let z : ◌≡◌ {A = ℕ} 0 1 = cc in omega arith

pub same_ok : {X : Type 0} {x y : X} → ◌≡◌ {A = Result X Refusal} (Ok x) (Ok y) → y ≡ x
same_ok e = cc

with_code : {A : Type 0} (refuse : Refusal → A) → Apart refuse → (r : Refusal) → RefusedWith refuse (refuse r) (code_of r)
with_code refuse apart r =
    record { refusal = r; is = refl; number_and_place = refl; no_other = λ q e. ap code_of (sym (apart r q e)); of-table = numbered r }

pub refuses : {X A : Type 0} (accept : X → A) (refuse : Refusal → A) → Apart refuse → (r : Refusal) → Answered accept refuse (refuse r)
refuses accept refuse apart r = inr (code_of r, with_code refuse apart r)

pub leaves : {X A R : Type 0} (accept : X → A) (refuse : Refusal → A) → Apart refuse → (lent : R) (r : Refusal) →
    AnsweredOn accept refuse lent (leaving (refuse r) lent)
leaves accept refuse apart lent r = inr (code_of r, with_code refuse apart r, refl)
