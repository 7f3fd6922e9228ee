-- What C is told of Cinema 4D figures.
use mathlib.Core.List.{List}
use Prim.Native.Nat.{ℕ, ◌≤◌}
use native.Mathlib.Omega.{arith}
use borrow.Author.Rules.{rules}
use lib.ListN.{length}
use Rattle.shared_words.specs.Conditions.{Answer, refused, accepted}
use Rattle.shared_words.specs.Encodings.{Encoding}
use Rattle.shared_words.specs.Refusals.{limit}
use Rattle.c4d_rules.specs.Layout.{Layout}
use Rattle.c4d_rules.specs.Walk.{verdict}
use Rattle.c4d_rules.specs.Gives.{Object, objects}
use Rattle.c4d_rules.specs.Calls.{room_conditions, check_of, objects_of, list_of, objects_call, c4d_check_call, c4d_list_call}
use Rattle.c_codes.specs.Codes.{count_or}
use Rattle.claim_numbers.specs.Cinema.{ObjectsTold, CinemaTold}
use Rattle.claim_numbers.proofs.Tells.{tells}
use Rattle.claim_numbers.proofs.Conditions.{AnswerTo, unless-met, and-accepted}
use Rattle.claim_numbers.proofs.CinemaPlaces.{verdict_to}
use Rattle.claim_numbers.proofs.CinemaObjects.{many, few}

-- ---- what is accepted

abbrev Few : List Object → Type 0
Few rs = many rs ≤ limit

abbrev FewIn : Layout → Type 0
FewIn l = Few (objects l)

within : (s : List ℕ) → AnswerTo limit FewIn (verdict s)
within s = and-accepted FewIn limit (verdict s) (verdict_to s) (few s)

-- ---- the calls

check_told : (a : Answer Layout) → AnswerTo limit FewIn a → ObjectsTold (check_of a) (count_or (check_of a))
check_told (refused r) h = tells r h
check_told (accepted l) h = omega arith

objects-few : (n m : ℕ) (a : Answer Layout) → AnswerTo limit FewIn a → AnswerTo limit Few (objects_of n m a)
objects-few n m (refused r) h = h
objects-few n m (accepted l) h = unless-met Few limit (room_conditions n m (objects l)) (accepted (objects l)) (search rules) (λ _. h)

list-told : {A B : Type 0} (e : Encoding Object A) (m : Encoding ℕ B) (os : List A) (ms : List B) (a : Answer (List Object)) → AnswerTo limit Few a →
    ObjectsTold (list_of e m os ms a).answer (count_or (list_of e m os ms a).answer)
list-told e m os ms (refused r) h = tells r h
list-told e m os ms (accepted rs) h = omega arith

pub cinema-told : CinemaTold
unfolding c4d_check_call c4d_list_call objects_call
cinema-told = record {
  check = λ s. check_told (verdict s) (within s);
  list = λ e m s os ms.
      let n = e.room (length os) in
      let k = m.room (length ms) in
      list-told e m os ms (objects_of n k (verdict s)) (objects-few n k (verdict s) (within s));
}
