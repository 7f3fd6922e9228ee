-- The writer of figures with materials: bare rows describe a bare figure, and the rows of an object are what is read of its mesh.
use mathlib.Core.Path.{◌≡◌, refl, ap, subst, ◌∙◌}
use mathlib.Core.List.{List, [], ◌∷◌, map}
use mathlib.Core.Option.{some, none}
use Prim.Native.Nat.{ℕ, zero, suc, ◌+◌}
use native.Mathlib.Omega.{arith}
use lib.Ieee.{Float}
use lib.ListN.{length, take, drop, get_elem?, length-map}
use lib.Seq.{take-length, take_all}
use borrow.Author.Tests.{eq-eqb, le-leb}
use Rattle.shared_words.specs.Conditions.{broken}
use Rattle.shared_words.specs.Lists.{total}
use Rattle.shared_words.proofs.Conditions.{unbroken}
use Rattle.studio_write.specs.ReadsBack.{Floats32}
use Rattle.studio_write.proofs.Floats.{bits, floats-back}
use Rattle.studio_figure_rules.specs.Given.{Group, Object, Figure}
use Rattle.studio_figure_rules.specs.Write.{write_figure}
use Rattle.studio_figure_rules.specs.AsBefore.{bare_figure}
use Rattle.studio_figure_rules.specs.ReadsBack.{NameStands}
use Rattle.studio_figure_rules.specs.Described.{Flat, ObjectCounts, objects_in, objects_of, object_name_bytes, material_name_bytes, group_name_bytes, fit_conditions, described, write_flat}
use Rattle.studio_figure_rules.proofs.AsBefore.{as_before}
use Rattle.studio_figure_rules.proofs.Described.{fits-first, flat-reads-back}
use Rattle.studio_figure_rules.proofs.Lists.{every_take, every_drop}
use Rattle.claim_written.specs.Rows.{bare_rows, BareAsBefore, Lent, lent_objects, RowsGivenBack}

-- ---- a bare figure

module _ (name : List ℕ) (vertices : List Float) (corners : List ℕ) where
  abbrev r : Flat
  r = bare_rows name vertices corners

  rows_fit : broken (fit_conditions r) ≡ none
  rows_fit =
      let n = eq-eqb (length name) (object_name_bytes r + (material_name_bytes r + group_name_bytes r)) (omega arith) in
      let v = eq-eqb (length vertices) (total (λ (c : ObjectCounts). c.floats) (objects_in r)) (omega arith) in
      let c = eq-eqb (length corners) (total (λ (c : ObjectCounts). c.corners) (objects_in r)) (omega arith) in
      unbroken (fit_conditions r) (refl, (refl, (n, (v, (c, (refl, (refl, (refl, tt))))))))

  described-bare : described r ≡ bare_figure name vertices corners
  described-bare = rw (take-length name, take_all (length vertices) (map bits vertices) (omega (arith, length-map vertices bits)), take-length corners)

pub bare-as_before : BareAsBefore
bare-as_before name vertices corners out f =
    (fits-first (bare_rows name vertices corners) out).fits (rows_fit name vertices corners) ∙
    ap (λ (x : Figure). write_figure x out) (described-bare name vertices corners) ∙
    (as_before name vertices corners f).same-call out

-- ---- the rows of an object

map-take : (n : ℕ) (xs : List Float) → take n (map bits xs) ≡ map bits (take n xs)
map-take zero xs = refl
map-take (suc n) [] = refl
map-take (suc n) (x ∷ xs) = ap (λ (l : List ℕ). bits x ∷ l) (map-take n xs)

map-drop : (n : ℕ) (xs : List Float) → drop n (map bits xs) ≡ map bits (drop n xs)
map-drop zero xs = refl
map-drop (suc n) [] = refl
map-drop (suc n) (x ∷ xs) = map-drop n xs

-- an object is what was lent of it, its floats as bits
pub record Bits (o : Lent) (x : Object) : Type 0 where
  pub name : x.name ≡ o.name
  pub vertices : x.vertices ≡ map bits o.floats
  pub corners : x.corners ≡ o.corners
  pub floats : Floats32 o.floats

object-there : (cs : List ObjectCounts) (names : List ℕ) (vertices : List Float) (corners smoothing : List ℕ) (groups : List Group) → Floats32 vertices →
    (k : ℕ) (o : Lent) → get_elem? (lent_objects cs names vertices corners) k ≡ some o →
    (x : Object) × (get_elem? (objects_of cs names (map bits vertices) corners smoothing groups) k ≡ some x) × Bits o x
object-there [] names vertices corners smoothing groups f k o h = let z : ◌≡◌ {A = ℕ} 0 1 = cc in absurd (omega arith)
object-there (c ∷ cs) names vertices corners smoothing groups f zero o h =
    let e : record { name = take c.name names; floats = take c.floats vertices; corners = take c.corners corners } ≡ o = cc in (
      record { name = take c.name names; vertices = take c.floats (map bits vertices); corners = take c.corners corners; smoothing = take c.smoothing smoothing; groups = take c.groups groups },
      refl,
      subst (λ (y : Lent). Bits y record { name = take c.name names; vertices = take c.floats (map bits vertices); corners = take c.corners corners; smoothing = take c.smoothing smoothing; groups = take c.groups groups }) e
          record { name = refl; vertices = map-take c.floats vertices; corners = refl; floats = every_take _ c.floats vertices f },
    )
object-there (c ∷ cs) names vertices corners smoothing groups f (suc k) o h =
    let t = object-there cs (drop c.name names) (drop c.floats vertices) (drop c.corners corners) (drop c.smoothing smoothing) (drop c.groups groups) (every_drop _ c.floats vertices f) k o h in (
      t.0,
      ap (λ (v : List ℕ). get_elem? (objects_of cs (drop c.name names) v (drop c.corners corners) (drop c.smoothing smoothing) (drop c.groups groups)) k) (map-drop c.floats vertices) ∙ t.1,
      t.2,
    )

pub rows-given-back : RowsGivenBack
rows-given-back r out size f w k o h =
    let back = flat-reads-back r out size f w in
    let t = object-there (objects_in r) r.names r.vertices r.corners r.smoothing _ f k o h in
    let x : Object = t.0 in
    let b = t.2 in
    let n : length x.vertices ≡ length o.floats = ap length b.vertices ∙ length-map o.floats bits in
    let m : length x.corners ≡ length o.corners = ap length b.corners in
    record {
      name = subst (NameStands (take size (write_flat r out).rows) k) b.name (back.name k x t.1);
      tables = λ rows v c.
          back.tables k x rows t.1 ∙
          rw (
            le-leb (length x.vertices) (length rows.vertices) (omega arith),
            le-leb (length x.corners) (length rows.corners) (omega arith),
            le-leb (length {A = ℕ} []) (length rows.mapping) (omega arith),
            n,
            b.vertices,
            b.corners,
            floats-back o.floats b.floats,
          );
    }
