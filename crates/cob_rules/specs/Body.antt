-- Where a body ends: what is left of some bytes behind its parts, or none where they do not fit.
use Rattle.std.specs.Prelude.{ℕ, zero, suc, ◌+◌, ◌-◌, ◌*◌, ◌/◌, ◌%◌, Bool, true, false, not, ◌&&◌, cond, List, [], ◌∷◌, eqb, leb, length, take, drop}
use Rattle.std.proofs.Math.Option.{Option, none, some}
use Rattle.shared_words.specs.Bytes.{value, negative}
use Rattle.shared_words.specs.Lists.{same}
use Rattle.cob_rules.specs.declared.Kind.{Kind}
use Rattle.cob_rules.specs.Kinds.{Part, plain, natural, times, faces, optional, anything, parts}

-- what is left behind something, of the bytes that begin with it
abbrev pub Reading : Type 0
Reading = List ℕ → Option (List ℕ)

abbrev pub and_then : Option (List ℕ) → Reading → Option (List ℕ)
and_then none f = none
and_then (some s) f = f s

abbrev pub skip : ℕ → Reading
skip k s = cond (leb k (length s)) (some (drop k s)) none

-- a number of w bytes that is not negative, and with it what follows
abbrev pub counted : ℕ → (ℕ → Reading) → Reading
counted w f s = cond (leb w (length s) && not (negative w (value (take w s)))) (f (value (take w s)) (drop w s)) none

-- F_HOLE, 0x08 (bit 3)
abbrev pub hole : ℕ → Bool
hole flags = eqb (flags / 8 % 2) 1

-- A face is flags, a count of corners, a material and its corners, two longs each. A hole has no material.
abbrev pub face : Reading
face [] = none
face (flags ∷ s) = counted 2 (λ n. skip (cond (hole flags) 0 2 + 8 * n)) s

abbrev pub face_run : ℕ → Reading
face_run zero s = some s
face_run (suc n) s = and_then (face s) (face_run n)

abbrev pub map_data : ℕ → Reading
map_data k s = and_then (skip 3 s) λ t. and_then (counted 2 (λ n. skip n) t) (skip k)

abbrev pub behind : Part → Reading
behind (plain k) s = skip k s
behind (natural w) s = counted w (λ n t. some t) s
behind (times w k) s = counted w (λ n. skip (k * n)) s
behind faces s = counted 4 face_run s
behind (optional letter k) s = cond (same (take 2 s) (letter ∷ 0x3A ∷ [])) (map_data k s) (some s)
behind anything s = some []

-- behind some parts, one after another
unfoldable pub behind_all : List Part → Reading
behind_all [] s = some s
behind_all (p ∷ ps) s = and_then (behind p s) (behind_all ps)

-- ---- one body

abbrev pub fits : Option (List ℕ) → Bool
fits none = false
fits (some left) = true

-- it fits, and nothing is left of it
abbrev pub nothing : Option (List ℕ) → Bool
nothing none = false
nothing (some []) = true
nothing (some (b ∷ bs)) = false

abbrev pub exact : Kind → List ℕ → Bool
exact k body = nothing (behind_all (parts k) body)

-- the bytes of s before what is left of it; all of them where the body does not fit
abbrev pub up_to : List ℕ → Option (List ℕ) → List ℕ
up_to s none = s
up_to s (some left) = take (length s - length left) s

-- the body that s, which follows a header, begins with: of a size that is told, or as long as it tells itself
abbrev pub body_at : Kind → ℕ → List ℕ → List ℕ
body_at k size s = cond (negative 4 size) (up_to s (behind_all (parts k) s)) (take size s)
