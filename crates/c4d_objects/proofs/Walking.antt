-- The loop over an OBJ5: the objects so far, what is left of it, and what has been noted.
use mathlib.Core.Path.{◌≡◌, refl, sym, ap, ◌∙◌, subst}
use Prim.Native.Nat.{ℕ, ◌+◌, ◌*◌, ◌<◌, ◌≤◌}
use native.Mathlib.Omega.{arith}
use mathlib.Core.List.{List, [], ◌∷◌, ◌++◌, append-nil}
use mathlib.Core.Option.{Option, none, some}
use lib.ListN.{length, length-append}
use Rattle.shared_words.specs.declared.Refusal.{Refusal}
use Rattle.shared_words.specs.Conditions.{Answer, refused, accepted}
use Rattle.shared_words.specs.Lists.{All}
use Rattle.shared_words.proofs.Lists.{all_append}
use Rattle.shared_numbers.specs.Put.{Put}
use Rattle.shared_numbers.proofs.Put.{put-none, put_then}
use Rattle.c4d_rules.specs.Blocks.{Block, object_header}
use Rattle.c4d_rules.specs.Kinds.{t_object}
use Rattle.c4d_rules.specs.Gives.{Object, materials_of, object_at}
use Rattle.c4d_rules.specs.Calls.{all_materials}
use Rattle.c4d_blocks.specs.Headers.{block_in, Tells}
use Rattle.std.specs.Prelude.{Result, Ok, Err}
use Rattle.c4d_held.specs.Held.{OutsideIs}
use Rattle.c4d_held.proofs.Conditions.{object_fine, not_this}
use Rattle.c4d_object.specs.Ahead.{ahead, behind}
use Rattle.c4d_object.specs.One.{Roomy, Whole}
use Rattle.c4d_object.proofs.Ahead.{behind-none, behind-both, closed-at-end, faulty, begins, passes}
use Rattle.c4d_objects.specs.declared.Figure.{Figure}
use Rattle.c4d_objects.specs.Notes.{front, notes_of, all_notes, Small, tallied, Noted, Notes}
use Rattle.c4d_objects.proofs.Notes.{materials_more, notes_more, front-short, noted-object}

module _ (s : List ℕ) (last : Option ℕ) (chunk to : ℕ) (notes₀ : List ℕ) where
  abbrev pub all : Answer (List Object)
  all = ahead s last chunk to (chunk + 8) none (chunk + 8)

  pub record Walking (notes : List ℕ) (at count textures row : ℕ) : Type 0 where
    pub done : List Object
    pub begun : ℕ
    pub goes : all ≡ behind done (ahead s last chunk to begun none at)
    pub count-is : count ≡ length done
    pub textures_are : textures ≡ length (all_materials done)
    pub row_is : row ≡ length (all_notes done)
    pub noted : Roomy s notes₀ → Put notes₀ 0 (all_notes done) notes row
    pub same-long : length notes ≡ length notes₀
    pub each_small : All Small done
    pub short : 8 * row ≤ at
    pub few-objects : count ≤ at
    pub few-textures : textures ≤ at
    pub within : at ≤ to

  pub walking_none : chunk + 8 ≤ to → Walking notes₀ (chunk + 8) 0 0 0
  walking_none l = record {
    done = [];
    begun = chunk + 8;
    goes = sym (behind-none all);
    count-is = refl;
    textures_are = refl;
    row_is = refl;
    noted = λ r. put-none notes₀ 0;
    same-long = refl;
    each_small = tt;
    short = omega arith;
    few-objects = omega arith;
    few-textures = omega arith;
    within = l;
  }

  -- ---- what the whole answers

  abbrev pub Answered : List ℕ → Result Figure Refusal → Type 0
  Answered notes r = (r ≡ tallied all) × Notes s all notes₀ notes

  pub with_refusal : (notes : List ℕ) (r : Refusal) → all ≡ refused r → Answered notes (Err r)
  with_refusal notes r e = (sym (ap tallied e), subst (λ (w : Answer (List Object)). Notes s w notes₀ notes) (sym e) tt)

  module _ {notes : List ℕ} {at count textures row : ℕ} (i : Walking notes at count textures row) (k : to ≤ length s) where
    pub at_its_end : at ≡ to → Answered notes (Ok record { objects = count; textures = textures })
    at_its_end e =
        let z : all ≡ accepted i.done =
        i.goes ∙ ap (behind i.done) (closed-at-end s last chunk to k i.begun at e) ∙ ap accepted (append-nil i.done) in
        let n : Noted s i.done notes₀ notes = record { each_small = i.each_small; are = λ r. rw (← i.row_is) (i.noted r) } in
        (rw (i.count-is, i.textures_are) (sym (ap tallied z)), subst (λ (w : Answer (List Object)). Notes s w notes₀ notes) (sym z) n)

    pub fault-there : (r : Refusal) → ahead s last chunk to i.begun none at ≡ refused r → all ≡ refused r
    fault-there r e = i.goes ∙ ap (behind i.done) e

    module _ (l : at < to) (id len : ℕ) (t : Tells object_header s at to id len) where
      abbrev b : Block
      b = block_in object_header s at to

      -- ---- no object begins

      pub outside : (r : Refusal) → OutsideIs last at b (Err r) → all ≡ refused r
      outside r e = fault-there r (faulty s last chunk to k i.begun none at l id len t r e)

      pub skipped : (id ≡ t_object → ⊥) → OutsideIs last at b (Ok tt) → Walking notes (at + (4 + len)) count textures row
      skipped o e =
          let f = t.fits in
          let x = i.short in
          let y = i.few-objects in
          let z = i.few-textures in
          record {
            done = i.done;
            begun = i.begun;
            goes = i.goes ∙ ap (behind i.done) (passes s last chunk to k i.begun none at l id len t e.0 e.1 (not_this b t_object (sym t.id-is) o));
            count-is = i.count-is;
            textures_are = i.textures_are;
            row_is = i.row_is;
            noted = i.noted;
            same-long = i.same-long;
            each_small = i.each_small;
            short = omega arith;
            few-objects = omega arith;
            few-textures = omega arith;
            within = omega arith;
          }

      -- ---- one begins

      module _ (o : id ≡ t_object) where
        begun-there : ahead s last chunk to i.begun none at ≡ ahead s last chunk to at (some []) (at + (4 + len))
        begun-there = begins s last chunk to k i.begun none at l id len t (object_fine b last none at (sym t.id-is ∙ o) refl) (sym t.id-is ∙ o)

        pub inside : (r : Refusal) → ((begun : ℕ) → ahead s last chunk to begun (some []) (at + (4 + len)) ≡ refused r) → all ≡ refused r
        inside r e = fault-there r (begun-there ∙ e at)

        module _ {notes' : List ℕ} (end number more : ℕ) (w : Whole s last chunk (at + (4 + len)) to row notes notes' end number more) where
          abbrev one : Object
          one = object_at at w.blocks

          abbrev space : ℕ
          space = length (front at number more)

          one_notes : notes_of one ≡ front at number more ++ materials_of w.blocks
          one_notes = rw (w.number_is, w.textures_are)

          pub another : length notes' ≡ length notes → (notes'' : List ℕ) → length notes'' ≡ length notes' →
              (row + space ≤ length notes' → Put notes' row (front at number more) notes'' (row + space)) → Walking notes'' end (count + 1) (textures + more) (row + space + more)
          another same notes'' same' put =
              let f = t.fits in
              let x = i.short in
              let y = i.few-objects in
              let z = i.few-textures in
              let p = w.long in
              let q = w.within in
              let v = i.same-long in
              let c = front-short at number more in
              let n = notes_more i.done one ∙ ap (λ (a : List ℕ). all_notes i.done ++ a) one_notes in
              let m = materials_more i.done one in
              record {
                done = i.done ++ (one ∷ []);
                begun = at;
                goes = i.goes ∙ ap (behind i.done) (begun-there ∙ w.goes at) ∙ behind-both i.done (one ∷ []) (ahead s last chunk to at none end);
                count-is = ap (λ (a : ℕ). a + 1) i.count-is ∙ sym (length-append i.done (one ∷ []));
                textures_are = rw (i.textures_are, w.textures_are) (sym (ap length m ∙ length-append (all_materials i.done) (materials_of w.blocks)));
                row_is = omega (arith, ap length n, length-append (all_notes i.done) (front at number more ++ materials_of w.blocks), length-append (front at number more) (materials_of w.blocks), i.row_is, w.textures_are);
                noted = λ r. let d = put_all r in rw n d;
                same-long = same' ∙ same ∙ v;
                each_small = all_append Small i.done (one ∷ []) i.each_small (rw (← w.number_is) w.number_small, tt);
                short = omega arith;
                few-objects = omega arith;
                few-textures = omega arith;
                within = q;
              }
            where
              put_one : Roomy s notes₀ → Put notes row (front at number more ++ materials_of w.blocks) notes'' (row + space + more)
              put_one r =
                  let f = t.fits in
                  let x = i.short in
                  let p = w.long in
                  let q = w.within in
                  let v = i.same-long in
                  let c = front-short at number more in
                  noted-object at number more (materials_of w.blocks) w.textures_are (omega arith) (w.noted (omega arith)) (put (omega arith))

              put_all : Roomy s notes₀ → Put notes₀ 0 (all_notes i.done ++ (front at number more ++ materials_of w.blocks)) notes'' (row + space + more)
              put_all r = put_then (omega arith) (i.noted r) (put_one r)
