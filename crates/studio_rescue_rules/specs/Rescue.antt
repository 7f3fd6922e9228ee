-- Q-10: the rescue of a damaged figure. Each direct child of 3D3D that fails, judged by itself, is taken out, and the two
-- lengths around it are lowered. What fails outside 3D3D's children is answered and nothing is mended.
use Rattle.std.specs.Prelude.{ℕ, zero, suc, ◌+◌, ◌-◌, Bool, true, false, List, [], ◌∷◌, ◌++◌, eqb, length, take, drop}
use Rattle.std.proofs.Math.Option.{Option, none, some}
use Rattle.shared_words.specs.declared.Refusal.{Refusal}
use Rattle.shared_words.specs.declared.Refusal.TheVariants.{TooLong}
use Rattle.shared_words.specs.Refusals.{number_of}
use Rattle.studio_rules.specs.Layout.{Run, end, ◌then◌, figure, bytes, with_length, offset_of}
use Rattle.studio_rules.specs.Rules.{Parent, inside}
use Rattle.shared_words.specs.Conditions.{broken, Answer, refused, accepted, unless}
use Rattle.studio_rules.specs.Walk.{file_conditions, header_conditions, length_field, Step, stop, pass, enter}
use Rattle.studio_rules.specs.Walk.{step, ended, with_skip, with_known, walk, version_in, top}

-- the version that a file tells, damaged or not: a child judged alone is judged with it. (The rescue keeps it: 4D4D's children
-- keep their identifiers and order.)
abbrev pub version_of : List ℕ → ℕ
version_of s = version_in (drop 6 s)

-- 3D3D in a file of this version: the first of its 4D4D, which has one
abbrev pub scene : ℕ → Parent
scene version = inside (top version) [] 0x3D3D []

-- ---- the children of 3D3D

-- a cut: its offset in the damaged file, the number of the refusal, and the bytes removed
pub record Cut : Type 0 where
  pub at : ℕ
  pub number : ℕ
  pub piece : List ℕ

abbrev pub cut : ℕ → Refusal → List ℕ → Cut
cut o r piece = record { at = o; number = number_of r; piece = piece }

-- the children that are kept, as the walk of each gives them, and the cuts
pub record Sifted : Type 0 where
  pub kept : Run
  pub cuts : List Cut

abbrev pub nothing : Sifted
nothing = record { kept = end; cuts = [] }

abbrev pub cutting : Cut → Sifted → Sifted
cutting c x = record { kept = x.kept; cuts = c ∷ x.cuts }

-- a child at o by the answer to it alone, and those that follow
abbrev pub judged : ℕ → List ℕ → Answer Run → Sifted → Sifted
judged o child (refused r) x = cutting (cut o r child) x
judged o child (accepted t) x = record { kept = t then x.kept; cuts = x.cuts }

-- The children s, of which the first has length n: a fault of its header cuts all, as nothing tells where the next begins;
-- else it is judged alone, as a run of one, with the version v, and `go` sifts the others.
abbrev pub sifted : ℕ → (ℕ → List ℕ → Sifted) → ℕ → List ℕ → ℕ → Option Refusal → Sifted
sifted v go o s n (some r) = cutting (cut o r s) nothing
sifted v go o s n none = judged o (take n s) (walk (scene v) [] o (take n s)) (go (o + n) (drop n s))

-- The second number bounds the depth of the calls, as in the walk: proofs/Fuel has the equations without it.
abbrev pub sift_run : ℕ → ℕ → ℕ → List ℕ → Sifted
sift_run v zero o s = nothing
sift_run v (suc k) o [] = nothing
sift_run v (suc k) o (b ∷ s) = sifted v (sift_run v k) o (b ∷ s) (length_field (b ∷ s)) (broken (header_conditions o (b ∷ s) (length_field (b ∷ s))))

-- the children s of 3D3D in a file of version v, of which the first stands at o
unfoldable pub sift : ℕ → ℕ → List ℕ → Sifted
sift v o s = sift_run v (suc (length s)) o s

-- ---- the children of 4D4D

-- A known chunk and what follows it: 3D3D is entered with what is kept of it, and what follows it is walked as ever (a
-- second one is 8 there). Every other chunk is walked as ever, and `go` mends what follows.
abbrev pub around : ℕ → Bool → (List ℕ → ℕ → List ℕ → Answer Run) → List ℕ → ℕ → ℕ → List ℕ → List ℕ → List ℕ → Answer Run
around v true go seen o id own kids rest =
    with_known id own (ended (scene v) o (accepted (sift v (o + (6 + length own)) kids).kept))
    (walk (top v) (id ∷ seen) (o + (6 + length own + length kids)) rest)
around v false go seen o id own kids rest =
    with_known id own (ended (inside (top v) seen id own) o (walk (inside (top v) seen id own) [] (o + (6 + length own)) kids))
    (go (id ∷ seen) (o + (6 + length own + length kids)) rest)

abbrev pub mend_step : ℕ → (List ℕ → ℕ → List ℕ → Answer Run) → List ℕ → ℕ → Step → Answer Run
mend_step v go seen o (stop r) = refused r
mend_step v go seen o (pass id body rest) = with_skip id body (go seen (o + (6 + length body)) rest)
mend_step v go seen o (enter id own kids rest) = around v (eqb id 0x3D3D) go seen o id own kids rest

abbrev pub mend_run : ℕ → ℕ → List ℕ → ℕ → List ℕ → Answer Run
mend_run v zero seen o s = refused TooLong
mend_run v (suc k) seen o [] = accepted end
mend_run v (suc k) seen o (b ∷ s) = mend_step v (mend_run v k) seen o (step (top v) seen o (b ∷ s))

-- the children s of 4D4D in a file of version v, after those `seen`, at offset o
unfoldable pub mend : ℕ → List ℕ → ℕ → List ℕ → Answer Run
mend v seen o s = mend_run v (suc (length s)) seen o s

-- ---- the file

-- the first fault outside 3D3D's children, or the children of the mended file's 4D4D
unfoldable pub mended : List ℕ → Answer Run
mended s = unless (broken (file_conditions s (length_field s))) (ended (top (version_of s)) 0 (mend (version_of s) [] 6 (drop 6 s)))

-- what becomes of the children of 3D3D in the file s, where it stands at e
abbrev pub sifted_at : ℕ → List ℕ → Sifted
sifted_at e s = sift (version_of s) (e + 6) (take (length_field (drop e s) - 6) (drop (e + 6) s))

-- a refusal; or the mended file and the cuts
pub data Rescued : Type 0 where
  beyond : Refusal → Rescued
  saved : List ℕ → List Cut → Rescued

-- 3D3D stands where it stood. (`bytes` computes the two lengths.)
abbrev pub rescue_of : List ℕ → Answer Run → Rescued
rescue_of s (refused r) = beyond r
rescue_of s (accepted kids) = saved (bytes (figure kids)) (sifted_at (offset_of 0x3D3D 6 kids) s).cuts

-- THE RESCUE of the file s
unfoldable pub rescue : List ℕ → Rescued
rescue s = rescue_of s (mended s)

-- ---- putting back

-- all bytes removed
abbrev pub gone : List Cut → ℕ
gone [] = 0
gone (c ∷ cs) = length c.piece + gone cs

-- each piece at its offset in the damaged file, in order
abbrev pub put_in : List Cut → List ℕ → List ℕ
put_in [] s = s
put_in (c ∷ cs) s = put_in cs (take c.at s ++ (c.piece ++ drop c.at s))

-- the cuts put back, and the lengths n of 4D4D and m of 3D3D, which stands at e
abbrev pub put_back : ℕ → ℕ → ℕ → List Cut → List ℕ → List ℕ
put_back e n m cuts s = with_length 0 n (with_length e m (put_in cuts s))
