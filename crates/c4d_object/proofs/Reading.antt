-- The loop over the sub-chunks of an object: those so far, what is left of the OBJ5, and what has been noted.
use mathlib.Core.Path.{◌≡◌, refl, sym, ap, ◌∙◌}
use Prim.Native.Nat.{ℕ, ◌+◌, ◌*◌, ◌<◌, ◌≤◌}
use native.Mathlib.Omega.{arith}
use mathlib.Core.Bool.{Bool, true, false, cond}
use mathlib.Core.List.{List, [], ◌∷◌, ◌++◌, append-nil}
use mathlib.Core.Option.{Option, none, some}
use lib.Dec.{eqb}
use lib.ListN.{length, length-append}
use borrow.Author.Tests.{eq-eqb}
use Rattle.shared_words.specs.declared.Refusal.{Refusal}
use Rattle.shared_words.specs.declared.Refusal.TheVariants.{Order, Combination}
use Rattle.shared_words.specs.Conditions.{refused}
use Rattle.shared_numbers.specs.Put.{Put}
use Rattle.shared_numbers.proofs.Put.{put-none, put_then}
use Rattle.c4d_rules.specs.Blocks.{Block, object_header}
use Rattle.c4d_rules.specs.Kinds.{t_end, t_object, t_texture}
use Rattle.c4d_rules.specs.Rules.{object_id, identifiers, material}
use Rattle.c4d_rules.specs.Gives.{materials_of}
use Rattle.c4d_blocks.specs.Headers.{block_in, Tells}
use Rattle.c4d_parts.proofs.Bits.{bits_below}
use Rattle.c4d_held.specs.declared.Held.{Held}
use Rattle.std.specs.Prelude.{Ok}
use Rattle.c4d_held.specs.Held.{held_with, number_of, fault, TextureIs}
use Rattle.c4d_held.proofs.OneMore.{identifiers_snoc}
use Rattle.c4d_held.proofs.Conditions.{object-inside, end-mixed, end_fine, inside_fine, not_this, not-combined, is-combined}
use Rattle.c4d_object.specs.Ahead.{ahead}
use Rattle.c4d_object.specs.One.{Roomy, Whole}
use Rattle.c4d_object.proofs.Ahead.{faulty, ends, passes}

pub materials_snoc : (bs : List Block) (b : Block) → materials_of (bs ++ (b ∷ [])) ≡ materials_of bs ++ cond (eqb (object_id b) t_texture) (material b ∷ []) []
materials_snoc [] b = refl
materials_snoc (x ∷ bs) b = go (eqb (object_id x) t_texture) (materials_snoc bs b)
  where
    last : List ℕ
    last = cond (eqb (object_id b) t_texture) (material b ∷ []) []

    go : (q : Bool) → materials_of (bs ++ (b ∷ [])) ≡ materials_of bs ++ last →
        cond q (material x ∷ materials_of (bs ++ (b ∷ []))) (materials_of (bs ++ (b ∷ []))) ≡ cond q (material x ∷ materials_of bs) (materials_of bs) ++ last
    go true h = ap (λ (l : List ℕ). material x ∷ l) h
    go false h = h

module _ (s : List ℕ) (last : Option ℕ) (chunk from to row : ℕ) (notes₀ : List ℕ) where
  pub record Reading (notes : List ℕ) (at : ℕ) (held : Held) (textures : ℕ) : Type 0 where
    pub blocks : List Block
    pub goes : (begun : ℕ) → ahead s last chunk to begun (some []) from ≡ ahead s last chunk to begun (some blocks) at
    pub held-is : held ≡ held_with (identifiers blocks)
    pub textures_are : textures ≡ length (materials_of blocks)
    pub noted : Roomy s notes₀ → Put notes₀ (row + 2) (materials_of blocks) notes (row + 2 + textures)
    pub same-long : length notes ≡ length notes₀
    pub passed : from + 68 * textures ≤ at
    pub within : at ≤ to

  pub reading-none : (held : Held) → held ≡ held_with [] → from ≤ to → Reading notes₀ from held 0
  reading-none held e l =
      let z : row + 2 + 0 ≡ row + 2 = omega arith in
      record {
        blocks = [];
        goes = λ begun. refl;
        held-is = e;
        textures_are = refl;
        noted = λ r. rw z (put-none notes₀ (row + 2));
        same-long = refl;
        passed = omega arith;
        within = l;
      }

  pub present_small : {notes : List ℕ} {at textures : ℕ} {held : Held} → Reading notes at held textures → held.present < 131072
  present_small i =
      let e = ap (λ (h : Held). h.present) i.held-is in
      omega (arith, bits_below (identifiers i.blocks))

  module _ {notes : List ℕ} {at textures : ℕ} {held : Held} (i : Reading notes at held textures) (k : to ≤ length s) (l : at < to) (id len : ℕ) (t : Tells object_header s at to id len) where
    abbrev b : Block
    b = block_in object_header s at to

    abbrev refused_with : Refusal → Type 0
    refused_with r = (begun : ℕ) → ahead s last chunk to begun (some []) from ≡ refused r

    pub fault-there : (r : Refusal) → fault last (some i.blocks) at b ≡ some r → refused_with r
    fault-there r e begun = i.goes begun ∙ faulty s last chunk to k begun (some i.blocks) at l id len t r e

    -- ---- T_OBJECT

    pub object-again : id ≡ t_object → refused_with (Order at)
    object-again e = fault-there (Order at) (object-inside b last (some i.blocks) at (sym t.id-is ∙ e) refl)

    -- ---- T_END

    module _ (e : id ≡ t_end) (number : ℕ) (n : number ≡ number_of (identifiers i.blocks)) where
      pub mixed : number ≡ 0 → refused_with (Combination at)
      mixed z = fault-there (Combination at) (end-mixed b last (some i.blocks) at (sym t.id-is ∙ e) refl (not-combined (identifiers i.blocks) (sym n ∙ z)))

      pub whole : (number ≡ 0 → ⊥) → number ≤ 9 → Whole s last chunk from to row notes₀ notes (at + (4 + len)) number textures
      whole z m =
          let c = is-combined (identifiers i.blocks) (λ y. z (n ∙ y)) in
          let f = t.fits in
          let p = i.passed in
          record {
            blocks = i.blocks;
            goes = λ begun. i.goes begun ∙
                ends s last chunk to k begun (some i.blocks) at l id len t (end_fine b last (some i.blocks) at (sym t.id-is ∙ e) refl c.0) (sym t.id-is ∙ e);
            number_is = n ∙ c.1;
            number_small = m;
            textures_are = i.textures_are;
            noted = i.noted;
            long = omega arith;
            within = omega arith;
          }

    -- ---- others

    module _ (e : id ≡ t_end → ⊥) (o : id ≡ t_object → ⊥) (held' : Held) (h : (ids : List ℕ) → held ≡ held_with ids → held' ≡ held_with (ids ++ (id ∷ []))) where
      more-held : held' ≡ held_with (identifiers (i.blocks ++ (b ∷ [])))
      more-held = h (identifiers i.blocks) i.held-is ∙
          ap held_with (ap (λ (x : ℕ). identifiers i.blocks ++ (x ∷ [])) t.id-is ∙ sym (identifiers_snoc i.blocks b))

      goes_by : fault last (some i.blocks) at b ≡ none → (begun : ℕ) →
          ahead s last chunk to begun (some []) from ≡ ahead s last chunk to begun (some (i.blocks ++ (b ∷ []))) (at + (4 + len))
      goes_by f begun = i.goes begun ∙
          passes s last chunk to k begun (some i.blocks) at l id len t f (not_this b t_end (sym t.id-is) e) (not_this b t_object (sym t.id-is) o)

      pub another : (id ≡ t_texture → ⊥) → Reading notes (at + (4 + len)) held' textures
      another n =
          let q = not_this b t_texture (sym t.id-is) n in
          let m : materials_of (i.blocks ++ (b ∷ [])) ≡ materials_of i.blocks =
          materials_snoc i.blocks b ∙ rw q (append-nil (materials_of i.blocks)) in
          let f = t.fits in
          let p = i.passed in
          record {
            blocks = i.blocks ++ (b ∷ []);
            goes = goes_by (inside_fine b last (some i.blocks) at q (not_this b t_object (sym t.id-is) o) (not_this b t_end (sym t.id-is) e) refl);
            held-is = more-held;
            textures_are = i.textures_are ∙ ap length (sym m);
            noted = λ r. rw m (i.noted r);
            same-long = i.same-long;
            passed = omega arith;
            within = omega arith;
          }

      -- a texture whose material has been noted
      pub textured : id ≡ t_texture → (m : ℕ) → TextureIs last i.blocks at b (Ok m) → {notes' : List ℕ} → length notes' ≡ length notes → 8 * row + 4 ≤ from →
          (row + 2 + textures < length notes → Put notes (row + 2 + textures) (m ∷ []) notes' (row + 2 + textures + 1)) → Reading notes' (at + 68) held' (textures + 1)
      textured n m j {notes'} same near put =
          let q = eq-eqb (object_id b) t_texture (sym t.id-is ∙ n) in
          let y : materials_of (i.blocks ++ (b ∷ [])) ≡ materials_of i.blocks ++ (m ∷ []) = materials_snoc i.blocks b ∙ rw (q, j.2) in
          let f = t.fits in
          let p = i.passed in
          let z = t.len_is ∙ j.1 in
          let a : at + 68 ≡ at + (4 + len) = omega arith in
          let w : row + 2 + (textures + 1) ≡ row + 2 + textures + 1 = omega arith in
          let v = i.same-long in
          rw a record {
            blocks = i.blocks ++ (b ∷ []);
            goes = goes_by j.0;
            held-is = more-held;
            textures_are = ap (λ (x : ℕ). x + 1) i.textures_are ∙ sym (ap length y ∙ length-append (materials_of i.blocks) (m ∷ []));
            noted = λ r. rw (y, w) (put_then (omega arith) (i.noted r) (put (omega arith)));
            same-long = same ∙ v;
            passed = omega arith;
            within = omega arith;
          }
