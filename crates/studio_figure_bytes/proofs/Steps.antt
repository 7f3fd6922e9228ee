-- From one object to the next: the place behind it, and what the first of them take.
use mathlib.Core.Path.{◌≡◌, refl, ap, ◌∙◌}
use Prim.Native.Nat.{ℕ, zero, suc, ◌+◌, ◌-◌, ◌*◌, ◌<◌, ◌≤◌}
use native.Mathlib.Omega.{arith}
use mathlib.Core.List.{List, [], ◌∷◌}
use lib.Ieee.{Float}
use lib.ListN.{length, length-append}
use Rattle.shared_words.proofs.Bytes.{length-packed}
use Rattle.studio_rules.specs.Layout.{bytes}
use Rattle.studio_rules.proofs.Sound.{length-bytes}
use Rattle.studio_figure_rules.specs.Given.{over}
use Rattle.shared_words.specs.Lists.{total}
use Rattle.studio_figure_rules.specs.Built.{smoothing_chunk}
use Rattle.studio_figure_rows.specs.Rows.{entry, sum_to, run, part, name_at}
use Rattle.studio_figure_rows.proofs.Runs.{sum-next, sum-up, part_length}
use Rattle.studio_figure_objects.specs.Sizes.{size_of_words, object_bytes}
use Rattle.studio_figure_chunks.specs.Chunks.{material_bytes, group_bytes, material_in, group_in, lists_bytes}
use Rattle.studio_figure_chunks.proofs.Chunks.{material-length}
use Rattle.studio_figure_bytes.specs.declared.Place.{Place}
use Rattle.studio_figure_bytes.specs.Objects.{At, Behind, Writable, pieces}
use Rattle.studio_figure_bytes.proofs.Objects.{lists_length, groups_length}

pub at_first : (objects groups : List ℕ) (from : ℕ) → At objects groups from 0 record { name = 0; vertex = 0; corner = 0; word = 0; group = 0; label = from; face = 0 }
at_first objects groups from = record { name = refl; vertex = refl; corner = refl; word = refl; group = refl; label = omega arith; face = refl }

pub at_next : (objects groups : List ℕ) (from i : ℕ) (p q : Place) → At objects groups from i p → Behind objects groups i p q → At objects groups from (i + 1) q
at_next objects groups from i p q a b =
    let u = sum-up 2 0 groups p.group (p.group + entry 5 4 objects i) (omega arith) in
    let v = sum-up 2 1 groups p.group (p.group + entry 5 4 objects i) (omega arith) in
    let g = ap (sum_to 2 0 groups) b.group in
    let h = ap (sum_to 2 1 groups) b.group in
    record {
      name = omega (arith, a.name, b.name, sum-next 5 0 objects i);
      vertex = omega (arith, a.vertex, b.vertex, sum-next 5 1 objects i);
      corner = omega (arith, a.corner, b.corner, sum-next 5 2 objects i);
      word = omega (arith, a.word, b.word, sum-next 5 3 objects i);
      group = omega (arith, a.group, b.group, sum-next 5 4 objects i);
      label = omega (arith, a.label, b.label);
      face = omega (arith, a.face, b.face);
    }

-- what the first i take, and the next
pub total-next : (f : ℕ → ℕ) (i : ℕ) → total f (run (λ k. k) 0 (i + 1)) ≡ total f (run (λ k. k) 0 i) + f i
total-next f i = go 0 i ∙ (let z : 0 + i ≡ i = omega arith in rw z)
  where
    go : (a n : ℕ) → total f (run (λ k. k) a (n + 1)) ≡ total f (run (λ k. k) a n) + f (a + n)
    go a zero = let z : a + 0 ≡ a = omega arith in rw z (omega arith)
    go a (suc n) =
        let e : suc n + 1 ≡ suc (n + 1) = omega arith in
        let d : suc a + n ≡ a + suc n = omega arith in
        let ih = go (suc a) n in
        rw (e, ih, d) (omega arith)

pub total_inside : (f : ℕ → ℕ) (i n : ℕ) → i < n → total f (run (λ k. k) 0 i) + f i ≤ total f (run (λ k. k) 0 n)
total_inside f i n h = let e : n ≡ i + 1 + (n - (i + 1)) = omega arith in rw e (go (n - (i + 1)))
  where
    go : (m : ℕ) → total f (run (λ k. k) 0 i) + f i ≤ total f (run (λ k. k) 0 (i + 1 + m))
    go zero = let z : i + 1 + 0 ≡ i + 1 = omega arith in rw z (omega (arith, total-next f i))
    go (suc m) = let z : i + 1 + suc m ≡ i + 1 + m + 1 = omega arith in rw z (omega (arith, total-next f (i + 1 + m), go m))

smoothing_length : (words : List ℕ) → length (bytes (smoothing_chunk words)) ≡ size_of_words (length words)
smoothing_length [] = refl
smoothing_length (w ∷ ws) = length-bytes (smoothing_chunk (w ∷ ws)) ∙ omega (arith, length-packed 4 (w ∷ ws))

module _ (names objects : List ℕ) (vertices : List Float) (corners smoothing groups faces : List ℕ) (from i : ℕ) where
  pub place_small : (p : Place) → At objects groups from i p → Writable names objects vertices corners smoothing groups faces from i →
      length names < 9223372036854775808 → length vertices < 9223372036854775808 → length corners < 9223372036854775808 → length smoothing < 9223372036854775808 → length faces < 9223372036854775808 →
      ((5 * i + 5 ≤ length objects) × (2 * (p.group + entry 5 4 objects i) ≤ length groups)) ×
      (((p.name + entry 5 0 objects i < 9223372036854775808) × (p.vertex + entry 5 1 objects i < 9223372036854775808)) ×
      (((p.corner + entry 5 2 objects i < 9223372036854775808) × (p.word + entry 5 3 objects i < 9223372036854775808)) ×
      (((sum_to 2 0 groups (p.group + entry 5 4 objects i) < 9223372036854775808) × (sum_to 2 1 groups (p.group + entry 5 4 objects i) < 9223372036854775808)) ×
      ((p.label < 9223372036854775808) × (p.face < 9223372036854775808)))))
  place_small p a w n v c s f =
      let g = ap (λ (k : ℕ). sum_to 2 0 groups (k + entry 5 4 objects i)) a.group in
      let h = ap (λ (k : ℕ). sum_to 2 1 groups (k + entry 5 4 objects i)) a.group in
      let u = sum-up 2 0 groups p.group (p.group + entry 5 4 objects i) (omega arith) in
      let t = sum-up 2 1 groups p.group (p.group + entry 5 4 objects i) (omega arith) in (
        (w.there, omega (arith, a.group, w.groups_in_lem)),
        (
          (omega (arith, a.name, w.name_in), omega (arith, a.vertex, w.vertices_in_lem)),
          (
            (omega (arith, a.corner, w.corners_in), omega (arith, a.word, w.words_in)),
            (
              (omega (arith, w.labels_in), omega (arith, w.faces_in)),
              (omega (arith, a.label, w.labels_in), omega (arith, a.face, w.faces_in)),
            ),
          ),
        ),
      )

  pub pieces-length : Writable names objects vertices corners smoothing groups faces from i → length (pieces names objects vertices corners smoothing groups faces from i) ≡ object_bytes objects groups i
  pieces-length w =
      let name = name_at 5 objects names 0 i in
      let vs = part (sum_to 5 1 objects i) (entry 5 1 objects i) vertices in
      let cs = part (sum_to 5 2 objects i) (entry 5 2 objects i) corners in
      let ws = part (sum_to 5 3 objects i) (entry 5 3 objects i) smoothing in
      let l₀ : length name ≡ entry 5 0 objects i = part_length (0 + sum_to 5 0 objects i) (entry 5 0 objects i) names (omega (arith, w.name_in)) in
      let l₁ : length vs ≡ entry 5 1 objects i = part_length (sum_to 5 1 objects i) (entry 5 1 objects i) vertices w.vertices_in_lem in
      let l₂ : length cs ≡ entry 5 2 objects i = part_length (sum_to 5 2 objects i) (entry 5 2 objects i) corners w.corners_in in
      let l₃ : length ws ≡ entry 5 3 objects i = part_length (sum_to 5 3 objects i) (entry 5 3 objects i) smoothing w.words_in in
      let lists = lists_bytes name vs cs (object_bytes objects groups i) in
      let gs = over (λ j. group_bytes (group_in names groups faces from (sum_to 5 4 objects i + j))) (run (λ j. j) 0 (entry 5 4 objects i)) in
      length-append lists _ ∙ ap (λ (k : ℕ). length lists + k) (length-append gs (bytes (smoothing_chunk ws))) ∙
      rw (lists_length name vs cs (object_bytes objects groups i) (rw l₁ w.whole), groups_length names groups faces from (sum_to 5 4 objects i) (entry 5 4 objects i) w.labels_in w.faces_in, smoothing_length ws, l₀, l₁, l₂, l₃)

-- ---- materials

module _ (names materials colours : List ℕ) (first : ℕ) where
  materials_long : (i n : ℕ) → first + sum_to 1 0 materials (i + n) ≤ length names →
      length (over material_bytes (run (material_in names materials colours first) i n)) + sum_to 1 0 materials i ≡ 58 * n + sum_to 1 0 materials (i + n)
  materials_long i zero a = let z : i + 0 ≡ i = omega arith in rw z (omega arith)
  materials_long i (suc n) a =
      let e : i + suc n ≡ suc i + n = omega arith in
      let thing = material_in names materials colours first in
      let ih = materials_long (suc i) n (rw e at a) in
      let u = sum-up 1 0 materials (suc i) (i + suc n) (omega arith) in
      let k = part_length (first + sum_to 1 0 materials i) (entry 1 0 materials i) names (omega arith) in
      let m = material-length (thing i) in
      rw e (omega (arith, length-append (material_bytes (thing i)) (over material_bytes (run thing (suc i) n))))

  pub materials_length : (n : ℕ) → first + sum_to 1 0 materials n ≤ length names → length (over material_bytes (run (material_in names materials colours first) 0 n)) ≡ 58 * n + sum_to 1 0 materials n
  materials_length n a = let z : 0 + n ≡ n = omega arith in let e = rw z at (materials_long 0 n (rw z a)) in omega arith
