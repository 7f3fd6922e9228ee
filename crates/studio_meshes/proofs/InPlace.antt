-- Each mesh stands in the file with its children, and their elements where it is told.
use mathlib.Core.Path.{◌≡◌, refl, ap}
use mathlib.Core.Bool.{Bool, true, false}
use mathlib.Core.List.{List, [], ◌∷◌}
use Prim.Native.Nat.{ℕ, ◌+◌, ◌-◌, ◌*◌}
use lib.Dec.{eqb, ltb}
use lib.ListN.{length}
use borrow.Author.Tests.{ltb-true, ltb-false}
use Rattle.shared_words.specs.Lists.{All}
use Rattle.shared_numbers.specs.Numbers.{word_at}
use Rattle.studio_rules.specs.Table.{shape, counted}
use Rattle.studio_rules.specs.OwnData.{count}
use Rattle.studio_rules.specs.Layout.{Run, end, skip, known, size, child, offset_of}
use Rattle.studio_rules.specs.Rules.{Parent, inside}
use Rattle.studio_rules.specs.Gives.{pairs_of, filled_up}
use Rattle.studio_meshes_rules.specs.Standing.{Standing, one_standing, standing_of, standing, elements_at}
use Rattle.studio_child.specs.Runs.{Spans}
use Rattle.studio_child.proofs.Runs.{kids_here, after-skip, after-known}
use Rattle.studio_child.proofs.Figure.{figure_top, figure_kids}
use Rattle.studio_mesh_find.specs.Places.{ElementsAre}
use Rattle.studio_mesh_find.proofs.Parts.{counts-first, counts-nowhere, begins-first, begins-nowhere, vertices-there, pairs-there, corners-there}
use Rattle.studio_rules.proofs.Rows.{vertices-counted, faces-counted, pairs-counted}
use Rattle.studio_meshes.specs.InPlace.{ReadInPlace, InPlace}
use Rattle.shared_words.proofs.Lists.{all_append}

-- ---- the elements of a child

module _ (x k : ℕ) (e : shape x ≡ counted k) (p : Parent) (t : Run) (s : List ℕ) (at stop : ℕ) (h : Spans p t s at stop) where
  elements_stand : ElementsAre k (child x t) s record { at = elements_at x at t; count = count (child x t) }
  elements_stand = go (ltb (offset_of x at t) stop) refl
    where
      go : (b : Bool) → ltb (offset_of x at t) stop ≡ b → ElementsAre k (child x t) s record { at = elements_at x at t; count = count (child x t) }
      go true l =
          let o = offset_of x at t in
          let there = ltb-true o stop l in
          let r = counts-first x k e p t s at stop h o refl there (word_at s (o + 6)) refl in
          rw (← (begins-first x k e p t s at stop h o refl there), ← r.count-is) r
      go false l =
          let o = offset_of x at t in
          let nowhere = ltb-false o stop l in
          let r = counts-nowhere x k e p t s at stop h o refl nowhere in
          rw (← (begins-nowhere x k e p t s at stop h o refl nowhere), ← r.count-is) r

-- ---- each mesh

-- its children stand in the file
abbrev Stands : List ℕ → Standing → Type 0
Stands s m = (q : Parent) × (stop : ℕ) × Spans q m.kids s m.at stop

all_stand : (p : Parent) (t : Run) (s : List ℕ) (at stop a n : ℕ) → Spans p t s at stop → All (Stands s) (standing_of at a n t)
all_stand p end s at stop a n h = tt
all_stand p (skip id body rest) s at stop a n h = all_stand p rest s (at + (6 + length body)) stop a n (after-skip p s at stop id body rest h)
all_stand p (known id own kids rest) s at stop a n h =
    let q : Parent = inside p h.seen id own in
    let past : ℕ = at + (6 + length own + size kids) in
    let in_it = kids_here p s at stop id own kids rest h in
    let m : Standing = record { name_at = a; name_length = n; at = at + (6 + length own); kids = kids } in
    all_append (Stands s) (one_standing (eqb id 0x4100) m) _ (one (eqb id 0x4100) m (q, past, in_it))
    (all_append (Stands s) (standing_of (at + (6 + length own)) (at + 6) (length own - 1) kids) _
    (all_stand q kids s (at + (6 + length own)) past (at + 6) (length own - 1) in_it)
    (all_stand p rest s past stop a n (after-known p s at stop id own kids rest h)))
  where
    one : (b : Bool) (m : Standing) → Stands s m → All (Stands s) (one_standing b m)
    one true m g = (g, tt)
    one false m g = tt

read_one : (s : List ℕ) (m : Standing) → Stands s m → ReadInPlace s m
read_one s m g =
    let vertices = elements_stand 0x4110 12 vertices-counted g.0 m.kids s m.at g.1 g.2 in
    let faces = elements_stand 0x4120 8 faces-counted g.0 m.kids s m.at g.1 g.2 in
    let pairs = elements_stand 0x4140 8 pairs-counted g.0 m.kids s m.at g.1 g.2 in
    record {
      vertices = vertices-there (child 0x4110 m.kids) s _ vertices;
      corners_are = corners-there (child 0x4120 m.kids) s _ faces;
      mapping = ap (filled_up (2 * pairs_of m.kids)) (pairs-there (child 0x4140 m.kids) s _ pairs);
      vertices_stay = vertices.stay;
      faces_stay = faces.stay;
      pairs_stay = pairs.stay;
    }

read_all : (s : List ℕ) (ms : List Standing) → All (Stands s) ms → All (ReadInPlace s) ms
read_all s [] h = tt
read_all s (m ∷ ms) h = (read_one s m h.0, read_all s ms h.1)

pub in_place : InPlace
in_place s kids m =
    read_all s (standing kids) (all_append (Stands s) (standing_of 6 6 0 kids) [] (all_stand (figure_top s kids m) kids s 6 (length s) 6 0 (figure_kids s kids m)) tt)
