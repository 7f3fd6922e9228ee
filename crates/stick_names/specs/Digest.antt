-- A number made of a name, letters of either case alike: two names of other digests are not one name. So most names are told apart by
-- one comparison of two numbers.
use Rattle.std.specs.Prelude.{List, [], ◌∷◌, ℕ, ◌+◌, ◌*◌, ◌%◌}
use Rattle.stick_rules.specs.Names.{lower}

unfoldable pub digest_from : ℕ → List ℕ → ℕ
digest_from d [] = d
digest_from d (b ∷ bs) = digest_from ((251 * d + lower b) % 16_777_216) bs

abbrev pub digest_of : List ℕ → ℕ
digest_of name = digest_from 0 name
