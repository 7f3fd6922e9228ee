-- DEMANDS 2 AND 3 OF CINEMA 4D FILES, of the calls and in the words of figures (Demand2, Demand3).
use Rattle.std.specs.Prelude.{◌≡◌, ◌↔◌, List, ℕ, ◌≤◌, ◌<◌, length, Ok, Err}
use Rattle.shared_words.specs.declared.Refusal.TheVariants.{NoRoom}
use Rattle.shared_words.specs.Effects.{leaving, filled}
use Rattle.shared_words.specs.Encodings.{Encoding}
use Rattle.shared_words.specs.Lists.{Pairwise}
use Rattle.shared_words.specs.Refusals.{limit}
use Rattle.shared_flat.specs.Put.{Mark, without, with, Piece, pieces, Moved}
use Rattle.c4d_rules.specs.Layout.{Chunk, Layout, chunk_size, bytes}
use Rattle.c4d_rules.specs.Rules.{Meets}
use Rattle.c4d_rules.specs.Gives.{Object, objects}
use Rattle.c4d_rules.specs.Calls.{all_materials, two_rows, c4d_check_call, c4d_list_call}
use Rattle.c4d_rules.specs.PutIn.{MayPut, MayTake, SameObject}

-- ---- demand 2

-- room for so many objects and all their materials, in whole ones
abbrev pub RoomForAll : {A B : Type 0} → Encoding Object A → Encoding ℕ B → List Object → List A → List B → Type 0
RoomForAll e m rs os ms = (length rs ≤ e.room (length os)) × (length (all_materials rs) ≤ m.room (length ms))

pub record Demand2 : Type 1 where
  -- accepted exactly when the rules are met, and then with the count of the layout's objects
  pub accepted : (s : List ℕ) (n : ℕ) → (c4d_check_call s ≡ Ok n) ↔ ((l : Layout) × Meets s l × (n ≡ length (objects l)))
  -- the list likewise, given room
  pub listed : {A B : Type 0} (e : Encoding Object A) (m : Encoding ℕ B) (s : List ℕ) (os : List A) (ms : List B) (n : ℕ) →
      ((c4d_list_call e m s os ms).answer ≡ Ok n) ↔ ((l : Layout) × Meets s l × (n ≡ length (objects l)) × RoomForAll e m (objects l) os ms)
  -- and what it gives is that of the layout
  pub given : (s : List ℕ) (l : Layout) → Meets s l →
      {A B : Type 0} (e : Encoding Object A) (m : Encoding ℕ B) (os : List A) (ms : List B) → RoomForAll e m (objects l) os ms →
      c4d_list_call e m s os ms ≡ leaving (Ok (length (objects l)))
      (two_rows (filled (e.encode (objects l)) os) (filled (m.encode (all_materials (objects l))) ms))

-- ---- demand 3: whole chunks of unlisted types put into an accepted file anywhere but before PLTF, or taken out, any number together
-- One list with marked chunks tells both files: `without m` is that of the file that has them not, `with m` that of the file that
-- has them.

-- s is the file without the chunks ps, and s' the file with them
pub record SameAnswers (ps : List Piece) (s s' : List ℕ) : Type 1 where
  -- both are accepted, with the same objects in the same order, each moved
  pub objects : List Object
  pub objects' : List Object
  pub moved : Pairwise (Moved (λ r. r.offset) SameObject ps) objects objects'
  pub accepted : c4d_check_call s ≡ Ok (length objects)
  pub accepted' : c4d_check_call s' ≡ Ok (length objects)
  -- with the same room both lists are given, or neither is; the materials are the same
  pub list-given : {A B : Type 0} (e : Encoding Object A) (m : Encoding ℕ B) (os : List A) (ms : List B) →
      length objects ≤ e.room (length os) → length (all_materials objects) ≤ m.room (length ms) →
      (c4d_list_call e m s os ms ≡
      leaving (Ok (length objects)) (two_rows (filled (e.encode objects) os) (filled (m.encode (all_materials objects)) ms))) ×
      (c4d_list_call e m s' os ms ≡
      leaving (Ok (length objects)) (two_rows (filled (e.encode objects') os) (filled (m.encode (all_materials objects)) ms)))
  pub objects-refused : {A B : Type 0} (e : Encoding Object A) (m : Encoding ℕ B) (os : List A) (ms : List B) →
      e.room (length os) < length objects →
      (c4d_list_call e m s os ms ≡ leaving (Err (NoRoom (length objects))) (two_rows os ms)) ×
      (c4d_list_call e m s' os ms ≡ leaving (Err (NoRoom (length objects))) (two_rows os ms))
  pub materials_refused : {A B : Type 0} (e : Encoding Object A) (m : Encoding ℕ B) (os : List A) (ms : List B) →
      length objects ≤ e.room (length os) → m.room (length ms) < length (all_materials objects) →
      (c4d_list_call e m s os ms ≡ leaving (Err (NoRoom (length (all_materials objects)))) (two_rows os ms)) ×
      (c4d_list_call e m s' os ms ≡ leaving (Err (NoRoom (length (all_materials objects)))) (two_rows os ms))

pub record Demand3 : Type 1 where
  -- chunks put into an accepted file, the result within the length limit
  pub put_in_lem : (m : List (Mark Chunk)) (s : List ℕ) → Meets s (without m) → MayPut m → length (bytes (with m)) ≤ limit →
      SameAnswers (pieces chunk_size 12 m) s (bytes (with m))
  -- chunks taken out of an accepted file
  pub taken_out : (m : List (Mark Chunk)) (s' : List ℕ) → Meets s' (with m) → MayTake m →
      SameAnswers (pieces chunk_size 12 m) (bytes (without m)) s'
