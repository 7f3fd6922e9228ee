-- What the call about all meshes answers and leaves in the lent row, for every file and every row.
use Rattle.shared_words.specs.declared.Refusal.{Refusal}
use Rattle.std.specs.Prelude.{ℕ, ◌/◌, List, Result, Err}
use Rattle.shared_words.specs.Bytes.{packed}
use Rattle.shared_words.specs.Conditions.{refused, accepted}
use Rattle.shared_words.specs.Effects.{Effect, leaving}
use Rattle.shared_words.specs.Encodings.{Encoding}
use Rattle.cob_rules.specs.Walk.{Verdict, verdict}
use Rattle.cob_rules.specs.Calls.{give}
use Rattle.cob_meshes_rules.specs.Standing.{Standing, standing, flat_meshes}

-- eight numbers each, four bytes a number
abbrev pub mesh_bytes : Encoding Standing ℕ
mesh_bytes = record { room = λ n. n / 32; encode = λ ms. packed 4 (flat_meshes ms) }

abbrev pub meshes_of : Encoding Standing ℕ → List ℕ → Verdict → Effect (Result ℕ Refusal) (List ℕ)
meshes_of e row (refused r) = leaving (Err r) row
meshes_of e row (accepted l) = give e (standing l) row

unfoldable pub meshes_call : Encoding Standing ℕ → List ℕ → List ℕ → Effect (Result ℕ Refusal) (List ℕ)
meshes_call e s row = meshes_of e row (verdict s)
