-- Laws of what is noted: one object more, and numbers put in front of others.
use mathlib.Core.Path.{◌≡◌, refl, sym, ap, ◌∙◌}
use Prim.Native.Nat.{ℕ, zero, suc, ◌+◌, ◌*◌, ◌≤◌}
use native.Mathlib.Omega.{arith}
use mathlib.Core.List.{List, [], ◌∷◌, ◌++◌, append_assoc, append-nil}
use lib.ListN.{length, take, drop, length-append}
use lib.Seq.{length-take-le, take-append-le, take-take, drop_at}
use borrow.Author.Tests.{ne_eqb}
use Rattle.shared_numbers.specs.Put.{Put}
use Rattle.shared_numbers.proofs.Put.{put-none}
use Rattle.c4d_rules.specs.Gives.{Object}
use Rattle.c4d_rules.specs.Calls.{all_materials}
use Rattle.c4d_rules.proofs.Objects.{materials_append}
use Rattle.c4d_objects.specs.Notes.{front, notes_of, all_notes}

pub notes_append : (a b : List Object) → all_notes (a ++ b) ≡ all_notes a ++ all_notes b
notes_append [] b = refl
notes_append (r ∷ a) b = ap (λ (l : List ℕ). notes_of r ++ l) (notes_append a b) ∙ sym (append_assoc (notes_of r) (all_notes a) (all_notes b))

pub materials_more : (rs : List Object) (r : Object) → all_materials (rs ++ (r ∷ [])) ≡ all_materials rs ++ r.materials
materials_more rs r = materials_append rs (r ∷ []) ∙ ap (λ (l : List ℕ). all_materials rs ++ l) (append-nil r.materials)

pub notes_more : (rs : List Object) (r : Object) → all_notes (rs ++ (r ∷ [])) ≡ all_notes rs ++ notes_of r
notes_more rs r = notes_append rs (r ∷ []) ∙ ap (λ (l : List ℕ). all_notes rs ++ l) (append-nil (notes_of r))

-- ---- what stands in front

pub front_alone : (offset number textures : ℕ) → textures ≡ 0 → front offset number textures ≡ (32 * offset + number) ∷ []
front_alone offset number textures e = rw e

pub front_pair : (offset number textures : ℕ) → (textures ≡ 0 → ⊥) → front offset number textures ≡ (32 * offset + 16 + number) ∷ textures ∷ []
front_pair offset number textures n = rw (ne_eqb textures 0 n)

pub front-some : (offset number textures : ℕ) → 1 ≤ length (front offset number textures)
front-some offset number zero = omega arith
front-some offset number (suc k) = rw (ne_eqb (suc k) 0 (λ e. omega arith)) (omega arith)

-- eight bytes are room for a number: no object is shorter than its notes
pub front-short : (offset number textures : ℕ) → 8 * (length (front offset number textures) + textures) ≤ 68 * textures + 8
front-short offset number zero = omega arith
front-short offset number (suc k) = rw (ne_eqb (suc k) 0 (λ e. omega arith)) (omega arith)

-- ---- numbers put in front of what has been put

put-before : {o b o₁ a o₂ : List ℕ} {at k n : ℕ} → at + length a ≤ length o → Put o (at + length a) b o₁ n → Put o₁ at a o₂ k → Put o at (a ++ b) o₂ n
put-before {o} {b} {o₁} {a} {o₂} {at} {k} {n} h p q =
    let m = at + length a in
    let rest : List ℕ = b ++ drop (m + length b) o in
    let l : length (take m o) ≡ m = length-take-le m o h in
    let t : take at o₁ ≡ take at o = ap (take at) p.is ∙ take-append-le at (take m o) rest (omega arith) ∙ take-take at m o (omega arith) in
    let d : drop m o₁ ≡ rest = ap (drop m) p.is ∙ drop_at (take m o) rest m l in
    let z : m + length b ≡ at + length (a ++ b) = omega (arith, length-append a b) in
    record { is = q.is ∙ rw (t, d, z) (ap (λ (x : List ℕ). take at o ++ x) (sym (append_assoc a b (drop (at + length (a ++ b)) o)))); ends = p.ends ∙ z }

module _ (offset number textures : ℕ) where
  abbrev f : List ℕ
  f = front offset number textures

  pub noted-object : (ms : List ℕ) → textures ≡ length ms → {o o₁ o₂ : List ℕ} {row k n : ℕ} → row + length f ≤ length o → Put o (row + 2) ms o₁ n → Put o₁ row f o₂ k →
      Put o row (f ++ ms) o₂ (row + length f + textures)
  noted-object [] e {o} {o₁} {o₂} {row} h p q =
      let z : o₁ ≡ o = p.is ∙ sym (put-none o (row + 2)).is in
      record { is = q.is ∙ rw (z, append-nil f); ends = omega (arith, length-append f []) }
  noted-object (x ∷ xs) e {o} {o₁} {o₂} {row} {n = n} h p q =
      let ms : List ℕ = x ∷ xs in
      let l : length f ≡ 2 = ap length (front_pair offset number textures (λ y. omega arith)) in
      let p' : Put o (row + length f) ms o₁ n = rw l p in
      record { is = (put-before h p' q).is; ends = omega (arith, length-append f ms) }
