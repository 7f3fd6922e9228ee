-- The call, by what the file is and by the room in the rows.
use Rattle.std.specs.Prelude.{Ok, Err}
use mathlib.Core.Path.{◌≡◌}
use Prim.Native.Nat.{ℕ, ◌*◌, ◌/◌, ◌<◌, ◌≤◌}
use native.Mathlib.Omega.{arith}
use mathlib.Core.List.{List}
use lib.ListN.{length, drop}
use borrow.Author.Tests.{le-leb, lt-leb}
use Rattle.shared_words.specs.declared.Refusal.{Refusal}
use Rattle.shared_words.specs.declared.Refusal.TheVariants.{NoRoom}
use Rattle.shared_words.specs.Conditions.{broken, refused}
use Rattle.shared_words.specs.Effects.{leaving}
use Rattle.shared_words.specs.Encodings.{number_bytes}
use Rattle.shared_numbers.proofs.Put.{put_front}
use Rattle.c4d_rules.specs.Walk.{verdict}
use Rattle.c4d_rules.specs.Gives.{objects}
use Rattle.c4d_rules.specs.Calls.{all_materials, object_bytes, two_rows, objects_call, c4d_list_call}
use Rattle.c4d_objects.specs.Notes.{all_notes}
use Rattle.c4d_objects.specs.declared.Figure.{Figure}
use Rattle.c4d_check.specs.Reads.{Judged}
use Rattle.c4d_list.specs.Filled.{Fillable, FilledWith}

module _ (s os ms : List ℕ) where
  pub list-refused : (r : Refusal) → verdict s ≡ refused r → c4d_list_call object_bytes (number_bytes 4) s os ms ≡ leaving (Err r) (two_rows os ms)
  unfolding c4d_list_call objects_call
  list-refused r e = rw e

  module _ {notes₀ notes : List ℕ} (f : Figure) (j : Judged s notes₀ notes f) where
    pub few-objects : length os / 12 < f.objects → c4d_list_call object_bytes (number_bytes 4) s os ms ≡ leaving (Err (NoRoom f.objects)) (two_rows os ms)
    unfolding c4d_list_call objects_call broken
    few-objects k =
        let n = j.counts.objects_are in
        rw (j.is, n, lt-leb (length (objects j.layout)) (length os / 12) (omega arith))

    module _ (k : f.objects ≤ length os / 12) where
      pub few_materials : length ms / 4 < f.textures → c4d_list_call object_bytes (number_bytes 4) s os ms ≡ leaving (Err (NoRoom f.textures)) (two_rows os ms)
      unfolding c4d_list_call objects_call broken
      few_materials l =
          let n = j.counts.objects_are in
          let m = j.counts.textures_are in
          rw (j.is, m, le-leb (length (objects j.layout)) (length os / 12) (omega arith), lt-leb (length (all_materials (objects j.layout))) (length ms / 4) (omega arith))

      module _ (l : f.textures ≤ length ms / 4) where
        pub both-filled : {os' ms' : List ℕ} → FilledWith (objects j.layout) os ms os' ms' →
            c4d_list_call object_bytes (number_bytes 4) s os ms ≡ leaving (Ok f.objects) (two_rows os' ms')
        unfolding c4d_list_call objects_call broken
        both-filled w =
            let n = j.counts.objects_are in
            let m = j.counts.textures_are in
            rw (j.is, n, w.objects_are, w.materials_are, le-leb (length (objects j.layout)) (length os / 12) (omega arith), le-leb (length (all_materials (objects j.layout))) (length ms / 4) (omega arith))

        -- the notes are at their row's front
        abbrev pub fillable : length s ≤ 8 * length notes₀ → Fillable notes f.objects (length os) (length ms)
        fillable r =
            let n = j.counts.objects_are in
            let m = j.counts.textures_are in
            record {
              objects = objects j.layout;
              rest = drop (length (all_notes (objects j.layout))) notes₀;
              are = put_front (j.noted.are r);
              each_small = j.noted.each_small;
              count-is = n;
              objects-room = omega arith;
              materials_room = omega arith;
            }
