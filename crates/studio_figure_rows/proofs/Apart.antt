-- Taken apart from the front, the rows give what stands at each position: counts, groups, objects, materials.
use mathlib.Core.Path.{◌≡◌, refl, ap, ◌∙◌, sym}
use Prim.Native.Nat.{ℕ, zero, suc, ◌+◌, ◌*◌}
use native.Mathlib.Omega.{arith}
use mathlib.Core.List.{List, ◌∷◌}
use lib.ListN.{length, drop, get_or}
use lib.Seq.{drop-drop, get_or-drop, ext_get_or}
use Rattle.studio_figure_rules.specs.Given.{Group, Object, Material}
use Rattle.shared_words.specs.Lists.{total}
use Rattle.studio_figure_rules.specs.Described.{ObjectCounts, GroupCounts, object_counts, group_counts, groups_of, materials_of, objects_of, colour}
use Rattle.studio_figure_rows.specs.Rows.{entry, sum_to, run, part}
use Rattle.studio_figure_rows.proofs.Runs.{run_length, run_get}

-- ---- the numbers of the description

abbrev pub counts_at : List ℕ → ℕ → ObjectCounts
counts_at s i = record { name = entry 5 0 s i; floats = entry 5 1 s i; corners = entry 5 2 s i; smoothing = entry 5 3 s i; groups = entry 5 4 s i }

abbrev pub group_counts_at : List ℕ → ℕ → GroupCounts
group_counts_at s i = record { name = entry 2 0 s i; faces = entry 2 1 s i }

object-counts : (i n : ℕ) (s : List ℕ) → object_counts n (drop (5 * i) s) ≡ run (counts_at s) i n
object-counts i zero s = refl
object-counts i (suc n) s =
    let a : 5 * i + 5 ≡ 5 * suc i = omega arith in
    rw (drop-drop 5 (5 * i) s, a, get_or-drop (5 * i) s 0 0, get_or-drop (5 * i) s 1 0, get_or-drop (5 * i) s 2 0, get_or-drop (5 * i) s 3 0, get_or-drop (5 * i) s 4 0)
    (ap (λ (l : List ObjectCounts). counts_at s i ∷ l) (object-counts (suc i) n s))

group-counts : (i n : ℕ) (s : List ℕ) → group_counts n (drop (2 * i) s) ≡ run (group_counts_at s) i n
group-counts i zero s = refl
group-counts i (suc n) s =
    let a : 2 * i + 2 ≡ 2 * suc i = omega arith in
    rw (drop-drop 2 (2 * i) s, a, get_or-drop (2 * i) s 0 0, get_or-drop (2 * i) s 1 0)
    (ap (λ (l : List GroupCounts). group_counts_at s i ∷ l) (group-counts (suc i) n s))

pub all-objects : (n : ℕ) (s : List ℕ) → object_counts n s ≡ run (counts_at s) 0 n
all-objects n s = object-counts 0 n s

pub all_groups : (n : ℕ) (s : List ℕ) → group_counts n s ≡ run (group_counts_at s) 0 n
all_groups n s = group-counts 0 n s

pub all_materials_lem : (s : List ℕ) → s ≡ run (entry 1 0 s) 0 (length s)
all_materials_lem s =
    ext_get_or 0 s (run (entry 1 0 s) 0 (length s)) (sym (run_length (entry 1 0 s) 0 (length s)))
    (λ i h. let a : i ≡ 1 * (0 + i) + 0 = omega arith in ap (λ (t : ℕ). get_or s t 0) a ∙ sym (run_get (entry 1 0 s) 0 (length s) i 0 h))

-- what they add up to
pub total-run : {A : Type 0} (size : A → ℕ) (thing : ℕ → A) (k j : ℕ) (s : List ℕ) → ((i : ℕ) → size (thing i) ≡ entry k j s i) →
    (i n : ℕ) → sum_to k j s i + total size (run thing i n) ≡ sum_to k j s (i + n)
total-run size thing k j s e i zero = let a : i + 0 ≡ i = omega arith in let b : sum_to k j s i + 0 ≡ sum_to k j s i = omega arith in rw (a, b)
total-run size thing k j s e i (suc n) =
    let a : i + suc n ≡ suc i + n = omega arith in
    let h = total-run size thing k j s e (suc i) n in
    let sum : sum_to k j s i + (size (thing i) + total size (run thing (suc i) n)) ≡ sum_to k j s (suc i + n) = omega (arith, e i) in
    rw a sum

-- ---- the things

module _ (s names faces : List ℕ) where
  abbrev pub group_cut : ℕ → Group
  group_cut i = record { name = part (sum_to 2 0 s i) (entry 2 0 s i) names; faces = part (sum_to 2 1 s i) (entry 2 1 s i) faces }

  pub groups_cut : (i n : ℕ) → groups_of (run (group_counts_at s) i n) (drop (sum_to 2 0 s i) names) (drop (sum_to 2 1 s i) faces) ≡ run group_cut i n
  groups_cut i zero = refl
  groups_cut i (suc n) =
      rw (drop-drop (entry 2 0 s i) (sum_to 2 0 s i) names, drop-drop (entry 2 1 s i) (sum_to 2 1 s i) faces)
      (ap (λ (l : List Group). group_cut i ∷ l) (groups_cut (suc i) n))

module _ (s names colours : List ℕ) where
  abbrev pub material_cut : ℕ → Material
  material_cut i = record {
    name = part (sum_to 1 0 s i) (entry 1 0 s i) names;
    ambient = colour (drop (9 * i) colours);
    diffuse = colour (drop (9 * i + 3) colours);
    specular = colour (drop (9 * i + 6) colours);
  }

  pub materials_cut : (i n : ℕ) → materials_of (run (entry 1 0 s) i n) (drop (sum_to 1 0 s i) names) (drop (9 * i) colours) ≡ run material_cut i n
  materials_cut i zero = refl
  materials_cut i (suc n) =
      let a : 9 * i + 9 ≡ 9 * suc i = omega arith in
      rw (drop-drop (entry 1 0 s i) (sum_to 1 0 s i) names, drop-drop 9 (9 * i) colours, a, drop-drop 3 (9 * i) colours, drop-drop 6 (9 * i) colours)
      (ap (λ (l : List Material). material_cut i ∷ l) (materials_cut (suc i) n))

module _ (s names vertices corners smoothing : List ℕ) (groups : List Group) where
  abbrev pub object_cut : ℕ → Object
  object_cut i = record {
    name = part (sum_to 5 0 s i) (entry 5 0 s i) names;
    vertices = part (sum_to 5 1 s i) (entry 5 1 s i) vertices;
    corners = part (sum_to 5 2 s i) (entry 5 2 s i) corners;
    smoothing = part (sum_to 5 3 s i) (entry 5 3 s i) smoothing;
    groups = part (sum_to 5 4 s i) (entry 5 4 s i) groups;
  }

  pub objects-cut : (i n : ℕ) →
      objects_of (run (counts_at s) i n) (drop (sum_to 5 0 s i) names) (drop (sum_to 5 1 s i) vertices) (drop (sum_to 5 2 s i) corners) (drop (sum_to 5 3 s i) smoothing)
      (drop (sum_to 5 4 s i) groups) ≡ run object_cut i n
  objects-cut i zero = refl
  objects-cut i (suc n) =
      rw (
        drop-drop (entry 5 0 s i) (sum_to 5 0 s i) names,
        drop-drop (entry 5 1 s i) (sum_to 5 1 s i) vertices,
        drop-drop (entry 5 2 s i) (sum_to 5 2 s i) corners,
        drop-drop (entry 5 3 s i) (sum_to 5 3 s i) smoothing,
        drop-drop (entry 5 4 s i) (sum_to 5 4 s i) groups,
      )
      (ap (λ (l : List Object). object_cut i ∷ l) (objects-cut (suc i) n))
