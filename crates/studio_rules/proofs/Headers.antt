-- A chunk's header, as bytes.
use mathlib.Core.Path.{◌≡◌, ap, ◌∙◌}
use Prim.Native.Nat.{ℕ, ◌≤◌}
use native.Mathlib.Omega.{arith}
use mathlib.Core.List.{List, [], ◌∷◌, ◌++◌}
use lib.ListN.{length, take, drop}
use Rattle.shared_words.specs.Bytes.{value, le, Bytes}
use Rattle.shared_words.proofs.Bytes.{bytes_take, le-value}
use Rattle.studio_rules.specs.Layout.{header}
use Rattle.studio_rules.specs.Walk.{length_field}

-- six bytes or more begin with a header
pub header_is : (s : List ℕ) → Bytes s → 6 ≤ length s → header (value (take 2 s)) (length_field s) ++ drop 6 s ≡ s
header_is [] h l = absurd (omega arith)
header_is (a ∷ []) h l = absurd (omega arith)
header_is (a ∷ b ∷ []) h l = absurd (omega arith)
header_is (a ∷ b ∷ c ∷ []) h l = absurd (omega arith)
header_is (a ∷ b ∷ c ∷ d ∷ []) h l = absurd (omega arith)
header_is (a ∷ b ∷ c ∷ d ∷ e ∷ []) h l = absurd (omega arith)
header_is (a ∷ b ∷ c ∷ d ∷ e ∷ f ∷ s) h l =
    let p = le-value (a ∷ b ∷ []) (h.0, (h.1.0, tt)) in
    let q = le-value (c ∷ d ∷ e ∷ f ∷ []) (bytes_take 4 (c ∷ d ∷ e ∷ f ∷ s) h.1.1) in
    ap (λ (l : List ℕ). (l ++ le 4 (value (c ∷ d ∷ e ∷ f ∷ []))) ++ s) p ∙ ap (λ (l : List ℕ). (a ∷ b ∷ l) ++ s) q
