-- Conditions in order: the first that does not hold is answered.
use Rattle.std.specs.Prelude.{Bool, true, false, List, [], ◌∷◌, Result, Ok, Err}
use Rattle.std.proofs.Math.Option.{Option, none, some}
use Rattle.shared_words.specs.declared.Refusal.{Refusal}

-- what must hold, and the refusal where it does not
pub data Condition : Type 0 where
  must : Bool → Refusal → Condition

-- the refusal of the first condition that does not hold
unfoldable pub broken : List Condition → Option Refusal
broken [] = none
broken (must true r ∷ cs) = broken cs
broken (must false r ∷ cs) = some r

-- what code answers of them: the first that is broken, or that none is
abbrev pub judged_by : Option Refusal → Result Unit Refusal
judged_by none = Ok tt
judged_by (some r) = Err r

unfoldable pub answered : List Condition → Result Unit Refusal
answered cs = judged_by (broken cs)

-- what a walk answers: a refusal, or what it has read
pub data Answer (A : Type 0) : Type 0 where
  refused : Refusal → Answer A
  accepted : A → Answer A

abbrev pub unless : {A : Type 0} → Option Refusal → Answer A → Answer A
unless (some r) a = refused r
unless none a = a
