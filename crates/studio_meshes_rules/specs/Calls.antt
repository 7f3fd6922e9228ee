-- What the call about all meshes answers and leaves in the lent row, for every file and every row.
use Rattle.shared_words.specs.declared.Refusal.{Refusal}
use Rattle.std.specs.Prelude.{ℕ, ◌/◌, List, Result}
use Rattle.shared_words.specs.Bytes.{packed}
use Rattle.shared_words.specs.Effects.{Effect}
use Rattle.shared_words.specs.Encodings.{Encoding}
use Rattle.studio_rules.specs.Walk.{verdict}
use Rattle.studio_rules.specs.Calls.{all_of}
use Rattle.studio_meshes_rules.specs.Standing.{Standing, standing, flat_meshes}

-- eight numbers each, four bytes a number
abbrev pub mesh_bytes : Encoding Standing ℕ
mesh_bytes = record { room = λ n. n / 32; encode = λ ms. packed 4 (flat_meshes ms) }

unfoldable pub meshes_call : {A : Type 0} → Encoding Standing A → List ℕ → List A → Effect (Result ℕ Refusal) (List A)
meshes_call e s row = all_of standing e row (verdict s)
