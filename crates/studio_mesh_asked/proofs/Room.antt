-- Room for the tables of a mesh: too little for the vertices, for the corners, for the mapping, or enough for all.
use Rattle.std.specs.Prelude.{Option, Result, Ok, Err}
use mathlib.Core.Path.{◌≡◌, refl, sym, ap, ◌∙◌}
use mathlib.Core.Bool.{Bool, true, false, cond}
use mathlib.Core.List.{List}
use mathlib.Core.Option.{Option as Maybe, none, some}
use Prim.Native.Nat.{ℕ, ◌*◌}
use native.Mathlib.Omega.{arith}
use lib.ListN.{length, drop, get_elem?}
use Rattle.shared_words.specs.Picked.{pick_mesh}
use Rattle.shared_words.proofs.Numbers.{length-numbers}
use Rattle.studio_rules.proofs.Corners.{length-corners}
use Rattle.studio_rules.proofs.Mapping.{length-filled-up}
use Rattle.shared_words.specs.Bytes.{numbers}
use Rattle.shared_words.specs.declared.Refusal.{Refusal}
use Rattle.shared_words.specs.declared.Refusal.TheVariants.{NoRoom}
use Rattle.shared_words.specs.Conditions.{Answer, refused, accepted}
use Rattle.studio_rules.specs.Walk.{verdict}
use Rattle.studio_rules.specs.Gives.{Mesh, meshes}
use Rattle.studio_mesh_find.specs.declared.Place.{Place}
use Rattle.studio_mesh_find.specs.Places.{PlaceIs}
use Rattle.studio_mesh_asked.specs.Choices.{no, yes, room_for, fitting, choose, AskedIs}
use Rattle.studio_mesh_asked.proofs.Asks.{is-no, is-yes, asked-yes}
use Rattle.studio_mesh_asked.proofs.Choices.{any-refused, any-goes-on}
use Rattle.studio_rules.specs.Layout.{Run}

-- room that is needed is refused exactly where it is not there
module _ (b : Bool) (n : ℕ) {r : Result Unit Refusal} (e : r ≡ cond b (Ok tt) (Err (NoRoom n))) where
  pub room-short : {x : Refusal} → r ≡ Err x → (b ≡ false) × (x ≡ NoRoom n)
  room-short {x} f = go b e
    where
      go : (d : Bool) → r ≡ cond d (Ok tt) (Err (NoRoom n)) → (d ≡ false) × (x ≡ NoRoom n)
      go true g = absurd (let z : ◌≡◌ {A = ℕ} 0 1 = cc in omega arith)
      go false g = (refl, cc)

  pub room-enough : {u : Unit} → r ≡ Ok u → b ≡ true
  room-enough f = go b e
    where
      go : (d : Bool) → r ≡ cond d (Ok tt) (Err (NoRoom n)) → d ≡ true
      go true g = refl
      go false g = absurd (let z : ◌≡◌ {A = ℕ} 0 1 = cc in omega arith)

module _ {s : List ℕ} {m : Mesh} {place : Place} (p : PlaceIs s m place) where
  vertex-numbers : length m.vertices ≡ 3 * place.vertices.count
  vertex-numbers = ap length p.vertices_are ∙ length-numbers 4 (3 * place.vertices.count) (drop place.vertices.at s)

  corner-numbers : length m.corners ≡ 3 * place.faces.count
  corner-numbers = ap length p.corners_are ∙ length-corners place.faces.count (drop place.faces.at s)

  mapping_numbers_lem : length m.mapping ≡ 2 * place.mapping.pairs
  mapping_numbers_lem =
      let given = numbers 4 (2 * place.mapping.count) (drop place.mapping.at s) in
      ap length p.mapping_is ∙
      length-filled-up (2 * place.mapping.pairs) given (omega (arith, length-numbers 4 (2 * place.mapping.count) (drop place.mapping.at s), p.mapping_fits))

module _ (s : List ℕ) (mesh : ℕ) (v c w : Option ℕ) where
  pub room-refused : {r : Refusal} → choose yes mesh (verdict s) ≡ no r → AskedIs s (fitting v c w) mesh (Err r)
  room-refused e = is-no (any-refused no (fitting v c w) mesh (verdict s) e)

  module _ {m : Mesh} {place : Place} (e : choose yes mesh (verdict s) ≡ yes m) (p : PlaceIs s m place) where
    goes_on : choose (fitting v c w) mesh (verdict s) ≡ fitting v c w m
    goes_on = any-goes-on no (fitting v c w) mesh (verdict s) e

    pub no-room-vertices : room_for v (3 * place.vertices.count) ≡ false → AskedIs s (fitting v c w) mesh (Err (NoRoom (3 * place.vertices.count)))
    no-room-vertices l = is-no (goes_on ∙ rw (vertex-numbers p, l))

    module _ (a : room_for v (3 * place.vertices.count) ≡ true) where
      pub no-room-corners : room_for c (3 * place.faces.count) ≡ false → AskedIs s (fitting v c w) mesh (Err (NoRoom (3 * place.faces.count)))
      no-room-corners l = is-no (goes_on ∙ rw (vertex-numbers p, a, corner-numbers p, l))

      module _ (b : room_for c (3 * place.faces.count) ≡ true) where
        pub no-room_mapping : room_for w (2 * place.mapping.pairs) ≡ false → AskedIs s (fitting v c w) mesh (Err (NoRoom (2 * place.mapping.pairs)))
        no-room_mapping l = is-no (goes_on ∙ rw (vertex-numbers p, a, corner-numbers p, b, mapping_numbers_lem p, l))

        pub room-there : room_for w (2 * place.mapping.pairs) ≡ true → AskedIs s (fitting v c w) mesh (Ok place)
        room-there l = is-yes (goes_on ∙ rw (vertex-numbers p, a, corner-numbers p, b, mapping_numbers_lem p, l)) p

-- ---- what fits has room

abbrev Fits : Option ℕ → Option ℕ → Option ℕ → Mesh → Type 0
Fits v c w m = (room_for v (length m.vertices) ≡ true) × (room_for c (length m.corners) ≡ true) × (room_for w (length m.mapping) ≡ true)

fits : (v c w : Option ℕ) (mesh : ℕ) (a : Answer Run) {m : Mesh} → choose (fitting v c w) mesh a ≡ yes m → Fits v c w m
fits v c w mesh (refused r) e = absurd (let z : ◌≡◌ {A = ℕ} 0 1 = cc in omega arith)
fits v c w mesh (accepted kids) {m} e = go (get_elem? (meshes kids) mesh) e
  where
    room : (k : Mesh) (x : Bool) → room_for v (length k.vertices) ≡ x → (y : Bool) → room_for c (length k.corners) ≡ y → (z : Bool) → room_for w (length k.mapping) ≡ z →
        cond x (cond y (cond z (yes k) (no (NoRoom (length k.mapping)))) (no (NoRoom (length k.corners)))) (no (NoRoom (length k.vertices))) ≡ yes m → Fits v c w m
    room k true f true g true h e = let i : k ≡ m = cc in rw (← i) (f, g, h)
    room k true f true g false h e = absurd (let z : ◌≡◌ {A = ℕ} 0 1 = cc in omega arith)
    room k true f false g z h e = absurd (let z : ◌≡◌ {A = ℕ} 0 1 = cc in omega arith)
    room k false f y g z h e = absurd (let z : ◌≡◌ {A = ℕ} 0 1 = cc in omega arith)

    go : (x : Maybe Mesh) → pick_mesh no (fitting v c w) (length (meshes kids)) x ≡ yes m → Fits v c w m
    go none e = absurd (let z : ◌≡◌ {A = ℕ} 0 1 = cc in omega arith)
    go (some k) e = room k (room_for v (length k.vertices)) refl (room_for c (length k.corners)) refl (room_for w (length k.mapping)) refl e

pub has_room : {s : List ℕ} (v c w : Option ℕ) {mesh : ℕ} {r : Result Place Refusal} {place : Place} → AskedIs s (fitting v c w) mesh r → r ≡ Ok place →
    (room_for v (3 * place.vertices.count) ≡ true) × (room_for c (3 * place.faces.count) ≡ true) × (room_for w (2 * place.mapping.pairs) ≡ true)
has_room {s} v c w {mesh} a e =
    let q = asked-yes a e in
    let f = fits v c w mesh (verdict s) q.is in
    (ap (room_for v) (sym (vertex-numbers q.placed)) ∙ f.0, ap (room_for c) (sym (corner-numbers q.placed)) ∙ f.1, ap (room_for w) (sym (mapping_numbers_lem q.placed)) ∙ f.2)
