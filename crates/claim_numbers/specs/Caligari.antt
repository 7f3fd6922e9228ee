-- What C is told of Caligari figures, whatever the bytes are.
use Rattle.shared_words.specs.declared.Refusal.{Refusal}
use Rattle.std.specs.Prelude.{List, ℕ, Result, Ok, Err}
use Rattle.shared_words.specs.Encodings.{Encoding}
use Rattle.cob_rules.specs.declared.Record.{Record}
use Rattle.cob_rules.specs.Calls.{check_call, list_call, sizes_call, Rows, tables_call}
use Rattle.cob_meshes_rules.specs.Standing.{Standing}
use Rattle.cob_meshes_rules.specs.Calls.{meshes_call}
use Rattle.c_codes.specs.Codes.{count_or}
use Rattle.claim_numbers.specs.Tells.{Proper, Tells}

abbrev pub CountTold : Result ℕ Refusal → ℕ → Type 0
CountTold (Ok count) n = Proper n
CountTold (Err r) n = Tells r n

pub record CaligariTold : Type 0 where
  pub check : (s : List ℕ) → CountTold (check_call s) (count_or (check_call s))
  pub list : (e : Encoding Record ℕ) (s row : List ℕ) → CountTold (list_call e s row).answer (count_or (list_call e s row).answer)
  pub sizes : (e : Encoding ℕ ℕ) (s : List ℕ) (mesh : ℕ) (row : List ℕ) →
      CountTold (sizes_call e s mesh row).answer (count_or (sizes_call e s mesh row).answer)
  pub tables : (e : Encoding ℕ ℕ) (s : List ℕ) (mesh : ℕ) (rows : Rows) →
      CountTold (tables_call e s mesh rows).answer (count_or (tables_call e s mesh rows).answer)
  pub meshes : (e : Encoding Standing ℕ) (s row : List ℕ) → CountTold (meshes_call e s row).answer (count_or (meshes_call e s row).answer)
