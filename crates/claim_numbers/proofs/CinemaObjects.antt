-- A Cinema 4D file has no more objects and materials together than bytes: each object has its T_END and each material its
-- T_TEXTURE, whose headers take four.
use mathlib.Core.Path.{◌≡◌, ap}
use Prim.Native.Nat.{ℕ, suc, ◌+◌, ◌≤◌}
use native.Mathlib.Omega.{arith}
use mathlib.Core.Bool.{Bool, true, false, cond}
use mathlib.Core.List.{List, [], ◌∷◌, ◌++◌}
use mathlib.Core.Option.{Option, none, some}
use lib.Dec.{eqb}
use lib.ListN.{length, length-append}
use Rattle.shared_words.specs.Conditions.{accepted}
use Rattle.shared_words.specs.Refusals.{limit}
use Rattle.shared_flat.specs.Flat.{Obeys, records}
use Rattle.c4d_rules.specs.Blocks.{Block, size, block_bytes, all_bytes, itself}
use Rattle.c4d_rules.specs.Kinds.{Kind, Platform, Materials, Objects, Other, t_end, t_object, t_texture}
use Rattle.c4d_rules.specs.Layout.{Inside, plain, subs, Layout, kind, inside_bytes, block}
use Rattle.c4d_rules.specs.Rules.{Open, so_far, object_id, with_one, after_object, ObjectRules, Before, start, after, InsideObeys, ChunkRules, material}
use Rattle.c4d_rules.specs.Walk.{verdict}
use Rattle.c4d_rules.specs.Gives.{Object, materials_of, object_at, objects_from, objects_inside, cinema, objects}
use Rattle.c4d_rules.specs.Calls.{all_materials}
use Rattle.c4d_rules.proofs.Verdict.{accepted_exactly}
use Rattle.c4d_rules.proofs.Objects.{materials_append}

-- how many objects and materials
abbrev pub many : List Object → ℕ
many rs = length rs + length (all_materials rs)

-- ---- of the sub-chunks of an OBJ5, where an object may be open

materials_few : (bs : List Block) → length (materials_of bs) ≤ length bs
materials_few [] = omega arith
materials_few (b ∷ bs) = go (eqb (object_id b) t_texture) (materials_few bs)
  where
    go : (t : Bool) → length (materials_of bs) ≤ length bs → length (cond t (material b ∷ materials_of bs) (materials_of bs)) ≤ suc (length bs)
    go true h = omega arith
    go false h = omega arith

one_more : (held : Open) (b : Block) → length (so_far (with_one held b)) ≤ suc (length (so_far held))
one_more none b = omega arith
one_more (some bs) b = omega (arith, length-append bs (b ∷ []))

from-few : (last : Option ℕ) (bs : List Block) (begun : ℕ) (held : Open) (o : ℕ) → Obeys after_object (ObjectRules last) held bs →
    many (objects_from begun held o bs) ≤ length (so_far held) + length (all_bytes itself bs)
from-few last [] begun held o h = omega arith
from-few last (b ∷ bs) begun held o h =
    go (eqb (object_id b) t_object) (eqb (object_id b) t_end) (from-few last bs (cond (eqb (object_id b) t_object) o begun) (after_object held b) (o + size b) h.1)
  where
    four : 4 + length (all_bytes itself bs) ≤ length (block_bytes b ++ all_bytes itself bs)
    four = omega (arith, length-append (block_bytes b) (all_bytes itself bs), length-append b.head b.body, h.0.framed.header-whole)

    -- by whether an object begins, and whether one ends
    go : (t e : Bool) → many (objects_from (cond t o begun) (cond t (some []) (cond e none (with_one held b))) (o + size b) bs) ≤
        length (so_far (cond t (some []) (cond e none (with_one held b)))) + length (all_bytes itself bs) →
        many (cond e (object_at begun (so_far held) ∷ []) [] ++ objects_from (cond t o begun) (cond t (some []) (cond e none (with_one held b))) (o + size b) bs) ≤
        length (so_far held) + length (block_bytes b ++ all_bytes itself bs)
    go true true ih = omega (arith, four, materials_few (so_far held), length-append (materials_of (so_far held)) (all_materials (objects_from o (some []) (o + size b) bs)))
    go true false ih = omega (arith, four)
    go false true ih = omega (arith, four, materials_few (so_far held), length-append (materials_of (so_far held)) (all_materials (objects_from begun none (o + size b) bs)))
    go false false ih = omega (arith, four, one_more held b)

-- ---- of the chunks of a file

inside-few : (last : Option ℕ) (o : ℕ) (k : Kind) (i : Inside) → InsideObeys last k i → many (objects_inside o k i) ≤ length (inside_bytes i)
inside-few last o Platform i h = omega arith
inside-few last o Materials i h = omega arith
inside-few last o Objects (plain rest) h = absurd h
inside-few last o Objects (subs bs) h = omega (arith, from-few last bs o none o h.each)
inside-few last o Other i h = omega arith

chunks-few : (l : Layout) (p : Before) (o : ℕ) → Obeys after ChunkRules p l → many (records cinema p o l) ≤ length (all_bytes block l)
chunks-few [] p o h = omega arith
chunks-few (c ∷ l) p o h =
    let b = block c in
    let here = objects_inside (o + length c.head) (kind c) c.inside in
    let more = records cinema (after p c) (o + size b) l in
    omega (
      arith,
      inside-few p.last (o + length c.head) (kind c) c.inside h.0.inside-obeys,
      chunks-few l (after p c) (o + size b) h.1,
      length-append here more,
      ap length (materials_append here more),
      length-append (all_materials here) (all_materials more),
      length-append (block_bytes b) (all_bytes block l),
      length-append c.head (inside_bytes c.inside),
    )

-- ---- of an accepted file

pub few : (s : List ℕ) (l : Layout) → verdict s ≡ accepted l → many (objects l) ≤ limit
few s l e =
    let m = (accepted_exactly s l).0 e in
    let n = ap length m.is in
    let w = m.within-limit in
    omega (arith, chunks-few l start 12 m.chunks)
