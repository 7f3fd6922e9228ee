-- What is left of an OBJ5 from a position on: the first fault met there, or the objects that end there.
use Rattle.std.specs.Prelude.{ℕ, List, ◌++◌}
use Rattle.std.proofs.Math.Option.{Option}
use Rattle.std.proofs.Math.Seq.{slice}
use Rattle.shared_words.specs.Conditions.{Answer, refused, accepted}
use Rattle.c4d_rules.specs.Blocks.{Block}
use Rattle.c4d_rules.specs.Rules.{Open}
use Rattle.c4d_rules.specs.Read.{walk}
use Rattle.c4d_rules.specs.Walk.{object_grammar}
use Rattle.c4d_rules.specs.Gives.{Object, objects_from}

abbrev pub given : ℕ → Open → ℕ → Answer (List Block) → Answer (List Object)
given begun held o (refused r) = refused r
given begun held o (accepted bs) = accepted (objects_from begun held o bs)

-- of the OBJ5 at `chunk`, which ends at `to`; `begun` is the offset of the last T_OBJECT before `at`
abbrev pub ahead : List ℕ → Option ℕ → ℕ → ℕ → ℕ → Open → ℕ → Answer (List Object)
ahead s last chunk to begun held at = given begun held at (walk (object_grammar last chunk) held at (slice at to s))

-- behind objects that have been read
abbrev pub behind : List Object → Answer (List Object) → Answer (List Object)
behind rs (refused r) = refused r
behind rs (accepted more) = accepted (rs ++ more)
