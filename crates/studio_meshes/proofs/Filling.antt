-- A row that is filled object by object: what stands in it so far, and what one object more puts there.
use mathlib.Core.Path.{◌≡◌, refl, sym, ap, ◌∙◌}
use mathlib.Core.List.{List, [], ◌∷◌, ◌++◌}
use Prim.Native.Nat.{ℕ, ◌+◌, ◌≤◌, ◌<◌, ◌^◌}
use native.Mathlib.Omega.{arith}
use lib.ListN.{length, length-append}
use lib.Seq.{length-sets}
use Rattle.shared_words.specs.Effects.{filled}
use Rattle.shared_numbers.specs.Put.{Put}
use Rattle.shared_numbers.proofs.Put.{put-none, put_then, put_front, put-sets}
use Rattle.studio_rules.specs.Layout.{Run, known, size, offset_of}
use Rattle.studio_rules.specs.Rules.{Parent}
use Rattle.studio_rules.specs.Gives.{Mesh}
use Rattle.studio_meshes_rules.specs.Standing.{Standing, standing_of, standing}
use Rattle.studio_meshes_rules.proofs.Few.{standing-few}
use Rattle.studio_child.specs.Runs.{Spans, onward}
use Rattle.studio_child.proofs.Runs.{span-size}
use Rattle.studio_mesh_find.specs.declared.Object.{Object}
use Rattle.studio_mesh_find.specs.declared.Place.{Place}
use Rattle.studio_mesh_find.specs.Places.{ObjectIs, PlaceIs, place_numbers}
use Rattle.studio_mesh_find.specs.Runs.{ObjectsAt}
use Rattle.studio_mesh_find.proofs.Meshes.{MeshesBefore, none_before, all-before, Here, here}
use Rattle.studio_mesh_find.proofs.Objects.{one_on}
use Rattle.studio_meshes.specs.Fit.{Small, held_in}

-- ---- the numbers of one mesh

pub place_small : {s : List ℕ} {m : Mesh} {r : Place} → PlaceIs s m r → length s < 2 ^ 32 → m.name_at < 2 ^ 32 → m.name_length < 2 ^ 32 → Small (place_numbers r)
place_small {r = r} q l a n =
    let vertices = q.vertices_stay in
    let faces = q.faces_stay in
    let pairs = q.mapping_stays in
    let mapping : Small (r.mapping.count ∷ r.mapping.at ∷ []) = (omega (arith, pairs, l), (omega (arith, pairs, l), tt)) in
    (omega (arith, q.name-at, a), (omega (arith, q.name-size, n), (omega (arith, vertices, l), (omega (arith, vertices, l), (omega (arith, faces, l), (omega (arith, faces, l), mapping))))))

-- ---- the meshes passed

module _ (s : List ℕ) (kids : Run) (from stop : ℕ) (q : ObjectsAt s kids from stop) where
  -- of the figure's meshes these stand before `at`
  abbrev pub Before : List Standing → ℕ → Type 0
  Before done at = MeshesBefore q.p q.t s from stop q.name_at q.name_length done at

  pub before-none : (at : ℕ) → at ≡ offset_of 0x4000 from q.t → Before [] at
  before-none at e = rw e (none_before q.p q.id q.t s from stop q.name_at q.name_length q.spans)

  module _ (done : List Standing) (at : ℕ) (w : Before done at) where
    pub before-all : stop ≤ at → standing kids ≡ done
    before-all l = q.meshes_in ∙ all-before q.p q.id q.t s from stop q.name_at q.name_length done at w l

    pub before-few : length done ≤ stop
    before-few =
        omega (arith, ap length w.split, length-append done (standing_of at q.name_at q.name_length (onward 0x4000 w.tail)), standing-few from q.name_at q.name_length q.t, span-size q.p s from stop q.t q.spans)

    -- the object at hand
    module _ (l : at < stop) where
      abbrev pub hand : Here q.p q.id q.t s from stop q.name_at q.name_length done at w
      hand = here q.p q.id q.t s from stop q.name_at q.name_length done at w l

      pub before_more : (o : Object) → ((p : Parent) (own : List ℕ) (kids rest : Run) (stop : ℕ) → Spans p (known 0x4000 own kids rest) s at stop → ObjectIs at own kids o) →
          (next : ℕ) → next ≡ offset_of 0x4000 o.stop hand.rest → Before (done ++ held_in at hand.own hand.kids) next
      before_more o is next e = one_on q.p q.id q.t s from stop q.name_at q.name_length done at w l o is next e (held_in at hand.own hand.kids) refl

  -- ---- in a row

  module _ (bytes : List Standing → List ℕ) (row₀ : List ℕ) where
    pub record Filling (row : List ℕ) (next at : ℕ) : Type 0 where
      pub done : List Standing
      pub before : Before done at
      pub put : Put row₀ 0 (bytes done) row next
      pub same : length row ≡ length row₀

    pub fill_none : bytes [] ≡ [] → (at : ℕ) → at ≡ offset_of 0x4000 from q.t → Filling row₀ 0 at
    fill_none none at e = record { done = []; before = before-none at e; put = rw none (put-none row₀ 0); same = refl }

    module _ (row : List ℕ) (next at : ℕ) (w : Filling row next at) where
      pub fill-all : stop ≤ at → row ≡ filled (bytes (standing kids)) row₀
      fill-all l = put_front w.put ∙ ap (λ (ms : List Standing). filled (bytes ms) row₀) (sym (before-all w.done at w.before l))

      module _ (l : at < stop) (more : (ms ns : List Standing) → bytes (ms ++ ns) ≡ bytes ms ++ bytes ns) where
        abbrev pub held : List Standing
        held = held_in at (hand w.done at w.before l).own (hand w.done at w.before l).kids

        -- there is room for what the object at hand holds
        pub fill-fits : length (bytes (standing kids)) ≤ length row₀ → next + length (bytes held) ≤ length row
        fill-fits room =
            let behind : List Standing =
            standing_of (at + (6 + length (hand w.done at w.before l).own + size (hand w.done at w.before l).kids)) q.name_at q.name_length (hand w.done at w.before l).rest in
            let all : bytes (standing kids) ≡ bytes w.done ++ (bytes held ++ bytes behind) =
            ap bytes (q.meshes_in ∙ (hand w.done at w.before l).split) ∙ more w.done (held ++ behind) ∙
            ap (λ (x : List ℕ). bytes w.done ++ x) (more held behind) in
            omega (
              arith,
              room,
              w.put.ends,
              w.same,
              ap length all,
              length-append (bytes w.done) (bytes held ++ bytes behind),
              length-append (bytes held) (bytes behind),
            )

        module _ (o : Object) (is : (p : Parent) (own : List ℕ) (kids rest : Run) (stop : ℕ) → Spans p (known 0x4000 own kids rest) s at stop → ObjectIs at own kids o) where
          pub fill_more : (row' : List ℕ) (next' : ℕ) → Put row next (bytes held) row' next' → next + length (bytes held) ≤ length row →
              (at' : ℕ) → at' ≡ offset_of 0x4000 o.stop (hand w.done at w.before l).rest → Filling row' next' at'
          fill_more row' next' p fits at' e = record {
            done = w.done ++ held;
            before = before_more w.done at w.before l o is at' e;
            put = rw (more w.done held) (put_then (omega arith) w.put p);
            same = ap length (put-sets fits p) ∙ length-sets row next (bytes held) ∙ w.same;
          }
