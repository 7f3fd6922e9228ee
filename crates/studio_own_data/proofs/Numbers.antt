-- The lists of numbers in own data, and where they stand in the file.
use mathlib.Core.Path.{◌≡◌, sym, ap, ◌∙◌}
use mathlib.Core.Bool.{true, ◌||◌, and-true}
use mathlib.Core.List.{List}
use Prim.Native.Nat.{ℕ, ◌+◌, ◌-◌, ◌*◌, ◌≤◌, ◌<◌}
use native.Mathlib.Omega.{arith}
use lib.Dec.{eqb, ltb}
use lib.ListN.{length, drop, take}
use lib.Seq.{slice, length-slice}
use borrow.Author.Tests.{ne_eqb, eq-eqb}
use Rattle.shared_words.specs.Bytes.{value, numbers}
use Rattle.shared_words.specs.Lists.{every}
use Rattle.shared_words.specs.Floats.{finite}
use Rattle.studio_rules.specs.OwnData.{name_size, count, vertex_numbers, father, root}
use Rattle.studio_rules.specs.Table.{under}
use Rattle.studio_rules.specs.Rules.{Parent, all_below, numbers_finite, face_numbers_below, father_earlier}
use Rattle.shared_numbers.specs.Numbers.{word_at}
use Rattle.shared_numbers.proofs.Slices.{word_slice, drop-slice}
use Rattle.studio_scan.proofs.Parts.{numbers-slice}
use Rattle.studio_own_data.specs.Bounds.{BoundIs}
use Rattle.studio_own_data.specs.Judges.{Exact}
use Rattle.studio_own_data.proofs.Bounds.{count-around, below_order}

different : ◌≡◌ {A = ℕ} 0x4130 0xB010 → ⊥
different e = omega arith

-- the father that a B010 tells is the last word of its own data
pub father_last : (s : List ℕ) (at stop : ℕ) → stop ≤ length s → length (slice at stop s) ≡ name_size (slice at stop s) + 6 → father (slice at stop s) ≡ word_at s (stop - 2)
father_last s at stop stays e =
    let n : length (slice at stop s) ≡ stop - at = length-slice at stop s stays in
    let q : at + (name_size (slice at stop s) + 4) ≡ stop - 2 = omega arith in
    ap (λ (l : List ℕ). value (take 2 l)) (drop-slice (name_size (slice at stop s) + 4) at stop s ∙ ap (λ (o : ℕ). slice o stop s) q) ∙ word_slice (stop - 2) stop s (omega arith)

module _ (s : List ℕ) (at stop : ℕ) (order : at ≤ stop) (stays : stop ≤ length s) (id : ℕ) (exact : Exact id (slice at stop s)) where
  own_length : length (slice at stop s) ≡ stop - at
  own_length = length-slice at stop s stays

  -- ---- lists behind a count word: 4110 and 4140

  module _ (k : ℕ) (sized : length (slice at stop s) ≡ 2 + k * count (slice at stop s)) where
    pub has_word : at + 2 ≤ stop
    has_word = omega (arith, own_length, sized)

    count-is : count (slice at stop s) ≡ word_at s at
    count-is = word_slice at stop s has_word

    pub fills : (n : ℕ) → n ≡ word_at s at → at + 2 + k * n ≡ stop
    fills n e = rw (e, ← count-is) (omega (arith, own_length, sized))

    -- m numbers a piece, of four bytes each
    pub list-is : (m n : ℕ) → n ≡ word_at s at → at + 2 + 4 * (m * n) ≤ stop → numbers 4 (m * count (slice at stop s)) (drop 2 (slice at stop s)) ≡ numbers 4 (m * n) (drop (at + 2) s)
    list-is m n e l = rw (count-is, ← e, drop-slice 2 at stop s) (numbers-slice 4 (m * n) (at + 2) stop s l)

  pub vertices-finite : id ≡ 0x4110 → (p : Parent) (n : ℕ) → n ≡ word_at s at → every finite (numbers 4 (3 * n) (drop (at + 2) s)) ≡ numbers_finite p id (slice at stop s)
  vertices-finite i p n e =
      let f = fills 12 (exact.vertices i) n e in
      rw i (ap (every finite) (sym (list-is 12 (exact.vertices i) 3 n e (omega arith))) ∙ sym (and-true (every finite (vertex_numbers (slice at stop s)))))

  pub pairs-finite : id ≡ 0x4140 → (p : Parent) (n : ℕ) → n ≡ word_at s at → every finite (numbers 4 (2 * n) (drop (at + 2) s)) ≡ numbers_finite p id (slice at stop s)
  pairs-finite i p n e =
      let f = fills 8 (exact.pairs i) n e in
      rw i (ap (every finite) (sym (list-is 8 (exact.pairs i) 2 n e (omega arith))))

  -- ---- the words of a 4130

  module _ (i : id ≡ 0x4130) (z : ℕ) (e : z ≡ name_size (slice at stop s)) where
    pub words_room : at + z + 2 ≤ stop
    words_room = omega (arith, own_length, exact.words i)

    words_count : count (drop (name_size (slice at stop s)) (slice at stop s)) ≡ word_at s (at + z)
    words_count = rw (← e, drop-slice z at stop s) (word_slice (at + z) stop s words_room)

    pub words_fill : (n : ℕ) → n ≡ word_at s (at + z) → at + z + 2 + 2 * n ≡ stop
    words_fill n f = omega (arith, own_length, exact.words i, words_count)

    pub words_below : (p : Parent) (limit n : ℕ) → under p.id id ≡ true → BoundIs p limit → n ≡ word_at s (at + z) →
        all_below limit (numbers 2 n (drop (at + z + 2) s)) ≡ face_numbers_below p id (slice at stop s)
    words_below p limit n u b f =
        let l : limit ≡ count p.own = count-around p id limit u b (λ e. different (sym i ∙ e)) in
        let q : at + (z + 2) ≡ at + z + 2 = omega arith in
        let r : numbers 2 n (slice (at + z + 2) stop s) ≡ numbers 2 n (drop (at + z + 2) s) = numbers-slice 2 n (at + z + 2) stop s (omega (arith, words_fill n f)) in
        let t : drop (name_size (slice at stop s) + 2) (slice at stop s) ≡ slice (at + z + 2) stop s = rw (← e, drop-slice (z + 2) at stop s, q) in
        rw (i, ← l, words_count, ← f, t, r)

  -- ---- the father that a B010 tells

  module _ (i : id ≡ 0xB010) where
    pub father-room : at + 2 ≤ stop
    father-room = omega (arith, own_length, exact.father i)

    father-is : father (slice at stop s) ≡ word_at s (stop - 2)
    father-is = father_last s at stop stays (exact.father i)

    module _ (p : Parent) (f : ℕ) (e : f ≡ word_at s (stop - 2)) where
      told : father_earlier p id (slice at stop s) ≡ (eqb f root || ltb f p.order)
      told = rw (i, father-is, ← e)

      pub father-root : f ≡ root → true ≡ father_earlier p id (slice at stop s)
      father-root h = sym (told ∙ rw (eq-eqb f root h))

      pub father-below : (order : ℕ) → under p.id id ≡ true → BoundIs p order → (f ≡ root → ⊥) → f < 65536 → ltb f order ≡ father_earlier p id (slice at stop s)
      father-below order u b h l = below_order p id order u b i f (omega (arith, h, l)) ∙ sym (told ∙ rw (ne_eqb f root h))

pub other_finite : (id : ℕ) → (id ≡ 0x4110 → ⊥) → (id ≡ 0x4140 → ⊥) → (p : Parent) (own : List ℕ) → true ≡ numbers_finite p id own
other_finite id a b p own = rw (ne_eqb id 0x4110 a, ne_eqb id 0x4140 b)

pub other_below : (id : ℕ) → (id ≡ 0x4130 → ⊥) → (p : Parent) (own : List ℕ) → true ≡ face_numbers_below p id own
other_below id a p own = rw (ne_eqb id 0x4130 a)

pub other_father : (id : ℕ) → (id ≡ 0xB010 → ⊥) → (p : Parent) (own : List ℕ) → true ≡ father_earlier p id own
other_father id a p own = rw (ne_eqb id 0xB010 a)
