-- What C is told of Cinema 4D figures, whatever the bytes are.
use Rattle.shared_words.specs.declared.Refusal.{Refusal}
use Rattle.std.specs.Prelude.{List, ℕ, Result, Ok, Err}
use Rattle.shared_words.specs.Encodings.{Encoding}
use Rattle.c4d_rules.specs.Gives.{Object}
use Rattle.c4d_rules.specs.Calls.{c4d_check_call, c4d_list_call}
use Rattle.c_codes.specs.Codes.{count_or}
use Rattle.claim_numbers.specs.Tells.{Proper, Tells}

abbrev pub ObjectsTold : Result ℕ Refusal → ℕ → Type 0
ObjectsTold (Ok count) n = Proper n
ObjectsTold (Err r) n = Tells r n

pub record CinemaTold : Type 1 where
  pub check : (s : List ℕ) → ObjectsTold (c4d_check_call s) (count_or (c4d_check_call s))
  pub list : {A B : Type 0} (e : Encoding Object A) (m : Encoding ℕ B) (s : List ℕ) (os : List A) (ms : List B) →
      ObjectsTold (c4d_list_call e m s os ms).answer (count_or (c4d_list_call e m s os ms).answer)
