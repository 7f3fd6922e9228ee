-- What is left of the size of own data where a flaw of it has become a refusal.
use mathlib.Core.Path.{◌≡◌}
use mathlib.Core.List.{List}
use native.Mathlib.Omega.{arith}
use Prim.Native.Nat.{ℕ}
use Rattle.std.specs.Prelude.{Result, Ok, Err, MatchResult}
use Rattle.shared_words.specs.declared.Refusal.{Refusal}
use Rattle.studio_rules.specs.Table.{shape}
use Rattle.studio_rules.specs.Rules.{Parent}
use Rattle.studio_own_size.specs.declared.Flaw.{Flaw}
use Rattle.studio_own_size.specs.declared.Flaw.TheVariants.{NoName, Unfit, TooLong}
use Rattle.studio_own_size.specs.Own.{FitIs}
use Rattle.studio_own_data.specs.Judges.{refusal_of, Judges}
use Rattle.studio_own_data.proofs.Conditions.{judge_no_name, judge_unfit, judge_too_long}

pub still_ok : (r : Result ℕ Flaw) {k : ℕ} → MatchResult r (λ x. ◌≡◌ {A = Result ℕ Refusal} (Ok k) (Ok x)) (λ e. ⊥) → r ≡ Ok k
still_ok (Ok x) h = cc
still_ok (Err e) h = absurd h

pub flawed : (p : Parent) (o id : ℕ) (body : List ℕ) (r : Result ℕ Flaw) → FitIs (shape id) p.own body r → (y : Refusal) →
    MatchResult r (λ x. ◌≡◌ {A = Result ℕ Refusal} (Err y) (Ok x)) (λ e. y ≡ refusal_of e o) → Judges p o id body (Err y)
flawed p o id body (Ok x) f y h = let z : ◌≡◌ {A = ℕ} 0 1 = cc in absurd (omega arith)
flawed p o id body (Err NoName) f y h = rw h (judge_no_name p o id body f)
flawed p o id body (Err Unfit) f y h = rw h (judge_unfit p o id body f.0 f.1)
flawed p o id body (Err TooLong) f y h = rw h (judge_too_long p o id body f.0 f.1)
