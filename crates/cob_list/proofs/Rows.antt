-- Records one after another in a row of bytes.
use mathlib.Core.Path.{◌≡◌, refl, ap, subst, ◌∙◌}
use Prim.Native.Nat.{ℕ, ◌*◌, ◌≤◌}
use native.Mathlib.Omega.{arith}
use mathlib.Core.List.{List, [], ◌∷◌, ◌++◌}
use lib.ListN.{length}
use Rattle.shared_words.specs.Bytes.{packed, le}
use Rattle.shared_words.proofs.Bytes.{length-packed, packed_append}
use Rattle.shared_numbers.specs.Put.{Put}
use Rattle.shared_numbers.proofs.Put.{put_then}
use Rattle.cob_rules.specs.declared.Record.{Record}
use Rattle.cob_rules.specs.Calls.{flat, record_bytes}

flat_append : (a b : List Record) → flat (a ++ b) ≡ flat a ++ flat b
flat_append [] b = refl
flat_append (r ∷ a) b = ap (λ (l : List ℕ). r.kind ∷ r.offset ∷ r.len ∷ r.identifier ∷ r.parent ∷ r.owner ∷ l) (flat_append a b)

length-flat : (rs : List Record) → length (flat rs) ≡ 6 * length rs
length-flat [] = refl
length-flat (r ∷ rs) = omega (arith, length-flat rs)

pub encoded_append : (a b : List Record) → record_bytes.encode (a ++ b) ≡ record_bytes.encode a ++ record_bytes.encode b
encoded_append a b = ap (packed 4) (flat_append a b) ∙ packed_append 4 (flat a) (flat b)

pub length_encoded : (rs : List Record) → length (record_bytes.encode rs) ≡ 24 * length rs
length_encoded rs = omega (arith, length-packed 4 (flat rs), length-flat rs)

-- one record more
pub put-more : (done : List Record) (r : Record) {row₀ row row' : List ℕ} {to next : ℕ} → Put row₀ 0 (record_bytes.encode done) row to → Put row to (record_bytes.encode (r ∷ [])) row' next →
    Put row₀ 0 (record_bytes.encode (done ++ (r ∷ []))) row' next
put-more done r a b = rw (encoded_append done (r ∷ [])) (put_then (omega arith) a b)

-- six numbers put one behind the other
pub six_puts : {r r₁ r₂ r₃ r₄ r₅ r₆ : List ℕ} {i i₁ i₂ i₃ i₄ i₅ i₆ : ℕ} (x : Record) → i ≤ length r → Put r i (le 4 x.kind) r₁ i₁ → Put r₁ i₁ (le 4 x.offset) r₂ i₂ →
    Put r₂ i₂ (le 4 x.len) r₃ i₃ → Put r₃ i₃ (le 4 x.identifier) r₄ i₄ → Put r₄ i₄ (le 4 x.parent) r₅ i₅ → Put r₅ i₅ (le 4 x.owner) r₆ i₆ →
    Put r i (record_bytes.encode (x ∷ [])) r₆ i₆
six_puts x h a b c d e f = put_then h (put_then h (put_then h (put_then h (put_then h a b) c) d) e) f

-- the same record by another name
pub put_as : {row row' : List ℕ} {to next : ℕ} (x y : Record) → x ≡ y → Put row to (record_bytes.encode (x ∷ [])) row' next → Put row to (record_bytes.encode (y ∷ [])) row' next
put_as {row} {row'} {to} {next} x y e p = subst (λ (z : Record). Put row to (record_bytes.encode (z ∷ [])) row' next) e p
