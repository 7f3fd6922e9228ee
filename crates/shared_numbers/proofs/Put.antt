-- Bytes put one after another: what is put behind what was put makes one longer piece. One law for every function that
-- writes.
use mathlib.Core.Path.{◌≡◌, refl, sym, ap, ◌∙◌}
use Prim.Native.Nat.{ℕ, ◌+◌, ◌<◌, ◌≤◌, suc}
use native.Mathlib.Nat.{zero-add}
use native.Mathlib.Numerals.{add-one}
use native.Mathlib.Omega.{arith}
use mathlib.Core.List.{List, [], ◌∷◌, ◌++◌, append_assoc}
use lib.ListN.{length, take, drop, set, length-append, take-append-drop}
use lib.Seq.{sets, sets-eq, set_split, length-take-le, take_at, drop-append-add, drop-drop}
use Rattle.shared_words.specs.Effects.{filled}
use Rattle.shared_numbers.specs.Put.{Put}

pub put-none : (o : List ℕ) (at : ℕ) → Put o at [] o at
put-none o at =
    let z : at + 0 ≡ at = omega arith in
    record { is = rw z (sym (take-append-drop at o)); ends = sym z }

pub put_byte : (o : List ℕ) (at x : ℕ) → at < length o → Put o at (x ∷ []) (set o at x) (at + 1)
put_byte o at x h = record { is = rw add-one (set_split o at x h); ends = refl }

pub put_then : {o a o₁ b o₂ : List ℕ} {at k n : ℕ} → at ≤ length o → Put o at a o₁ k → Put o₁ k b o₂ n → Put o at (a ++ b) o₂ n
put_then {o} {a} {o₁} {b} {o₂} {at} {k} {n} h p q =
    let front : List ℕ = take at o ++ a in
    let back : List ℕ = drop (at + length a) o in
    let l : length front ≡ k = omega (arith, length-append (take at o) a, length-take-le at o h, p.ends) in
    let e : o₁ ≡ front ++ back = p.is ∙ sym (append_assoc (take at o) a back) in
    let t : take k o₁ ≡ front = rw e (take_at front back k l) in
    let m : at + length a + length b ≡ at + length (a ++ b) = omega (arith, length-append a b) in
    let d : drop (k + length b) o₁ ≡ drop (at + length (a ++ b)) o =
    rw (e, ← l, drop-append-add front back (length b), drop-drop (length b) (at + length a) o, m) in
    record { is = q.is ∙ rw (t, d) (simp append_assoc); ends = omega (arith, p.ends, q.ends, length-append a b) }

-- a piece put at the front
pub put_front : {o new o₁ : List ℕ} {n : ℕ} → Put o 0 new o₁ n → o₁ ≡ filled new o
put_front {o} {new} p = p.is ∙ ap (λ (k : ℕ). new ++ drop k o) (zero-add (length new))

-- a piece put is as many stores
pub put-sets : {o new o₁ : List ℕ} {at n : ℕ} → at + length new ≤ length o → Put o at new o₁ n → o₁ ≡ sets o at new
put-sets {o} {new} {at = at} h p = p.is ∙ sym (sets-eq new o at h ∙ append_assoc (take at o) new (drop (at + length new) o))

-- stores one behind the other are the stores of both
pub sets_append : (row : List ℕ) (i : ℕ) (a b : List ℕ) → sets row i (a ++ b) ≡ sets (sets row i a) (i + length a) b
sets_append row i [] b = ap (λ (k : ℕ). sets row k b) (omega arith)
sets_append row i (x ∷ a) b = sets_append (set row i x) (suc i) a b ∙ ap (λ (k : ℕ). sets (sets (set row i x) (suc i) a) k b) (omega arith)
