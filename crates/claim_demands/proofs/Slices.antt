-- Demand 3 of the calls that give out a few numbers: their answer is a function of what demand 3 speaks of.
use Rattle.studio_rules.specs.declared.Span.{Span}
use Rattle.shared_words.specs.declared.Refusal.{Refusal}
use Rattle.std.specs.Prelude.{Result, Ok, Err}
use mathlib.Core.Path.{◌≡◌, refl, ap}
use mathlib.Core.Bool.{Bool, true, false, cond}
use mathlib.Core.List.{List, [], ◌∷◌}
use Prim.Native.Nat.{ℕ, ◌/◌, ◌+◌}
use lib.Dec.{leb}
use lib.ListN.{length}
use Rattle.shared_words.specs.declared.Refusal.TheVariants.{NoRoom}
use Rattle.shared_words.specs.Bytes.{packed}
use Rattle.shared_words.specs.Effects.{leaving, filled}
use Rattle.studio_rules.specs.declared.Counts.{Counts}
use Rattle.studio_rules.specs.Gaps.{Piece}
use Rattle.studio_rules.specs.Calls.{name_call}
use Rattle.c_codes.specs.Codes.{refusal_code}
use Rattle.c_answers.specs.Given.{untouched, given, counts_given, name_given, box_given}
use Rattle.claim_demands.specs.Demand3.{NameMoved}
use Rattle.claim_demands.specs.Slices.{CountsGrow, NameGrows, GivenAlike, SlicesMoved}

-- as many numbers into the same slice
alike : (R : List ℕ → List ℕ → Type 0) (out old new : List ℕ) → R old new → length new ≡ length old → GivenAlike R out (given out old) (given out new)
alike R out old new r n = rw n (go (leb (length old) (length out / 4)))
  where
    go : (b : Bool) → GivenAlike R out (cond b (leaving (length old) (filled (packed 4 old) out)) (untouched out (NoRoom (length old))))
        (cond b (leaving (length old) (filled (packed 4 new) out)) (untouched out (NoRoom (length old))))
    go true = GivenAlike.given old new r refl refl
    go false = GivenAlike.refused (refusal_code (NoRoom (length old))) refl refl

counts_alike : (out : List ℕ) (all : ℕ) (c c' : Counts) → c'.headers ≡ c.headers → c'.own ≡ c.own → c'.skipped ≡ c.skipped + all →
    GivenAlike (CountsGrow all) out (counts_given out (Ok c)) (counts_given out (Ok c'))
counts_alike out all c c' h o k =
    alike (CountsGrow all) out (c.headers ∷ c.own ∷ c.skipped ∷ []) (c'.headers ∷ c'.own ∷ c'.skipped ∷ [])
    record { headers = c.headers; own = c.own; skipped = c.skipped; old-is = refl; new_is = rw (h, o, k) } refl

name_alike : (ps : List Piece) (out : List ℕ) (n n' : Result Span Refusal) → NameMoved ps n n' → GivenAlike (NameGrows ps) out (name_given out n) (name_given out n')
name_alike ps out (Err r) n' h = rw h (GivenAlike.refused (refusal_code r) refl refl)
name_alike ps out (Ok old) (Err r) h = absurd h
name_alike ps out (Ok old) (Ok new) h =
    alike (NameGrows ps) out (old.offset ∷ old.size ∷ []) (new.offset ∷ new.size ∷ [])
    record { offset = old.offset; offset' = new.offset; name-length = old.size; old-is = refl; new_is = rw h.1; grows = h.0 } refl

pub slices_moved : SlicesMoved
slices_moved ps all s s' a = record {
  counts = λ out. rw (a.accepted, a.accepted') (counts_alike out all a.counts a.counts' a.headers-same a.own_same a.skipped-grows);
  name = λ mesh out. name_alike ps out (name_call s mesh) (name_call s' mesh) (a.name-moved mesh);
  box = λ mesh out. ap (box_given out) (a.box-same mesh);
}
