use mathlib.Core.Path.{◌≡◌, refl, ap}
use Prim.Native.Nat.{ℕ, ◌+◌, ◌/◌, ◌%◌, ◌<◌, ◌≤◌}
use native.Mathlib.Omega.{arith}
use mathlib.Core.List.{List, [], ◌∷◌}
use lib.ListN.{length, get_or}
use Rattle.shared_numbers.proofs.Put.{put-none}
use Rattle.c4d_objects.specs.Notes.{front}
use Rattle.c4d_objects.proofs.Notes.{front_alone, front-some}
use Rattle.c4d_list.specs.Filled.{Fillable}
use Rattle.c4d_list.proofs.Filling.{Filling, all-filled, Next, next, reaches, offset_is, number_is, none-there, count-there, two-before, materials_there, object-room, material-room, one_more}
use Rattle.c4d_list.proofs.fill.Goals as goal

no-materials : (ms : List ℕ) → length ms ≡ 0 → ms ≡ []
no-materials [] e = refl
no-materials (m ∷ ms) e = absurd (omega arith)

-- an iteration's values: the first number of the next object's notes
module _ (notes objects₀ materials₀ : List ℕ) (count : ℕ) (g : Fillable notes count (length objects₀) (length materials₀)) {objects materials : List ℕ} {i from row behind : ℕ} where
  module _ (f : Filling objects₀ materials₀ g objects materials i from row behind) (l : i < count) where
    one : Next objects₀ materials₀ g f
    one = next objects₀ materials₀ g f l

    first-there : from < length notes
    first-there =
        let r = one.r in
        omega (arith, reaches objects₀ materials₀ g f one, front-some r.offset r.combination (length r.materials))

    offset-is' : get_or notes from 0 / 32 ≡ one.r.offset
    offset-is' = offset_is objects₀ materials₀ g f one (get_or notes from 0) refl

    number-is' : get_or notes from 0 % 16 ≡ one.r.combination
    number-is' = number_is objects₀ materials₀ g f one (get_or notes from 0) refl

    room-there : row + 12 ≤ length objects
    room-there = object-room objects₀ materials₀ g f one

    module _ (z : get_or notes from 0 / 16 % 2 ≡ 0 → ⊥) where
      count-is' : get_or notes (from + 1) 0 ≡ length one.r.materials
      count-is' = count-there objects₀ materials₀ g f one (get_or notes from 0) refl z

      two-before' : let r = one.r in length (front r.offset r.combination (length r.materials)) ≡ 2
      two-before' = two-before objects₀ materials₀ g f one (get_or notes from 0) refl z

      next-there : from + 2 + get_or notes (from + 1) 0 ≤ length notes
      next-there = omega (arith, reaches objects₀ materials₀ g f one, two-before', count-is')

pub offset_bounds-notes-from : goal.offset_bounds-notes-from
offset_bounds-notes-from c =
    let a = c.args in
    let l = c.loop in
    omega (arith, first-there a.notes.now a.objects.now a.materials.now a.count c.requires (l.invariant c.requires) (omega arith))

pub bounds-notes-from : goal.bounds-notes-from
bounds-notes-from c =
    let a = c.args in
    let l = c.loop in
    first-there a.notes.now a.objects.now a.materials.now a.count c.requires (l.invariant c.requires) (omega arith)

pub put_object-row-requires : goal.put_object-row-requires
put_object-row-requires c =
    let a = c.args in
    let l = c.loop in
    let b = c.type_inv.notes l.from in
    (room-there a.notes.now a.objects.now a.materials.now a.count c.requires (l.invariant c.requires) (omega arith), omega arith, omega arith, omega arith)

pub overflow_add-from : goal.overflow_add-from
overflow_add-from c =
    let a = c.args in
    let l = c.loop in
    omega (arith, first-there a.notes.now a.objects.now a.materials.now a.count c.requires (l.invariant c.requires) (omega arith))

pub loop-preserved-then-noted-eq0 : goal.loop-preserved-then-noted-eq0
loop-preserved-then-noted-eq0 c = λ g.
    let a = c.args in
    let l = c.loop in
    let n = one a.notes.now a.objects.now a.materials.now a.count g (l.invariant g) (omega arith) in
    let z = none-there a.objects.now a.materials.now g (l.invariant g) n (get_or a.notes.now l.from 0) refl c.if-noted-eq0.true in
    let e = no-materials n.r.materials z in
    let k = ap length (front_alone n.r.offset n.r.combination (length n.r.materials) z) in
    let o = offset-is' a.notes.now a.objects.now a.materials.now a.count g (l.invariant g) (omega arith) in
    let p = number-is' a.notes.now a.objects.now a.materials.now a.count g (l.invariant g) (omega arith) in
    one_more a.objects.now a.materials.now g (l.invariant g) n (l.from + 1) (omega arith)
    (rw (← o, ← p, z) c.put_object-row.ensures) (rw e (put-none l.materials l.behind)) c.put_object-row.auto.row refl

pub bounds-notes-from-in-loop : goal.bounds-notes-from-in-loop
bounds-notes-from-in-loop c =
    let a = c.args in
    let l = c.loop in
    omega (arith, next-there a.notes.now a.objects.now a.materials.now a.count c.requires (l.invariant c.requires) (omega arith) c.if-noted-eq0.false)

pub put_object-row-requires-in-loop : goal.put_object-row-requires-in-loop
put_object-row-requires-in-loop c =
    let a = c.args in
    let l = c.loop in
    let b = c.type_inv.notes l.from in
    let t = c.type_inv.notes (l.from + 1) in
    (room-there a.notes.now a.objects.now a.materials.now a.count c.requires (l.invariant c.requires) (omega arith), omega arith, omega arith, omega arith)

pub put_materials-behind-requires : goal.put_materials-behind-requires
put_materials-behind-requires c =
    let a = c.args in
    let l = c.loop in
    let z = c.if-noted-eq0.false in
    let n = one a.notes.now a.objects.now a.materials.now a.count c.requires (l.invariant c.requires) (omega arith) in
    let k = count-is' a.notes.now a.objects.now a.materials.now a.count c.requires (l.invariant c.requires) (omega arith) z in
    (omega arith, next-there a.notes.now a.objects.now a.materials.now a.count c.requires (l.invariant c.requires) (omega arith) z, omega (arith, material-room a.objects.now a.materials.now c.requires (l.invariant c.requires) n))

pub loop-preserved : goal.loop-preserved
loop-preserved c = λ g.
    let a = c.args in
    let l = c.loop in
    let n = one a.notes.now a.objects.now a.materials.now a.count g (l.invariant g) (omega arith) in
    let z = c.if-noted-eq0.false in
    let k = count-is' a.notes.now a.objects.now a.materials.now a.count g (l.invariant g) (omega arith) z in
    let two = two-before' a.notes.now a.objects.now a.materials.now a.count g (l.invariant g) (omega arith) z in
    let m = materials_there a.objects.now a.materials.now g (l.invariant g) n (get_or a.notes.now l.from 0) refl z in
    let o = offset-is' a.notes.now a.objects.now a.materials.now a.count g (l.invariant g) (omega arith) in
    let p = number-is' a.notes.now a.objects.now a.materials.now a.count g (l.invariant g) (omega arith) in
    one_more a.objects.now a.materials.now g (l.invariant g) n (l.from + 2 + get_or a.notes.now (l.from + 1) 0) (omega arith)
    (rw (← o, ← p, ← k) c.put_object-row-in-loop.ensures)
    (rw (← m) c.put_materials-behind.ensures)
    c.put_object-row-in-loop.auto.row c.put_materials-behind.auto.row

pub returns : goal.returns
returns c = λ g. all-filled c.args.objects.now c.args.materials.now g (c.loop.invariant g) (omega arith)
