-- The loop that puts the materials of one object: those so far stand in the row.
use mathlib.Core.Path.{◌≡◌, sym, ap, ◌∙◌}
use Prim.Native.Nat.{ℕ, ◌+◌, ◌*◌, ◌-◌, ◌<◌, ◌≤◌}
use native.Mathlib.Numerals.{add-one}
use native.Mathlib.Omega.{arith}
use mathlib.Core.List.{List, [], ◌∷◌, ◌++◌}
use lib.ListN.{length, take, drop, get_or, length-take, length-drop}
use lib.Seq.{slice, take-suc, take_all}
use Rattle.shared_words.specs.Bytes.{packed}
use Rattle.shared_words.proofs.Bytes.{length-packed}
use Rattle.shared_numbers.specs.Put.{Put}
use Rattle.shared_numbers.proofs.Slices.{drop-take}

pub one-more : (l : List ℕ) (i : ℕ) → i < length l → take (i + 1) l ≡ take i l ++ (get_or l i 0 ∷ [])
one-more l i h = ap (λ (n : ℕ). take n l) (add-one i) ∙ take-suc l i 0 h

module _ (notes : List ℕ) (from to at : ℕ) (row₀ row : List ℕ) (behind i : ℕ) (f : from ≤ to) (m : to ≤ length notes) where
  abbrev part : List ℕ
  part = take (to - from) (drop from notes)

  part-long : length part ≡ to - from
  part-long = omega (arith, length-take (to - from) (drop from notes), length-drop from notes)

  -- there is room for one more
  pub room : at + 4 * (to - from) ≤ length row₀ → Put row₀ at (packed 4 (take i part)) row behind → i < length part → length row ≡ length row₀ → behind + 4 ≤ length row
  room h p l s = omega (arith, p.ends, length-packed 4 (take i part), length-take i part, part-long)

  pub all-put : Put row₀ at (packed 4 (take i part)) row behind → length part ≤ i → Put row₀ at (packed 4 (slice from to notes)) row behind
  all-put p l =
      let e : from + (to - from) ≡ to = omega arith in
      let z : slice from to notes ≡ take i part = rw e at (drop-take from (to - from) notes) ∙ sym (take_all i part l) in
      rw z p
