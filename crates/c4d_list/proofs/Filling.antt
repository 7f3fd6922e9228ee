-- The rows while they are filled: the objects so far stand in them, and the notes of the others are left.
use mathlib.Core.Path.{◌≡◌, refl, sym, ap, ◌∙◌, subst}
use Prim.Native.Nat.{ℕ, ◌+◌, ◌*◌, ◌/◌, ◌%◌, ◌<◌, ◌≤◌}
use native.Mathlib.Omega.{arith}
use mathlib.Core.List.{List, [], ◌∷◌, ◌++◌, append_assoc, append-nil}
use lib.ListN.{length, drop, get_or, length-append}
use lib.Seq.{slice, drop_at}
use Rattle.shared_words.specs.Bytes.{packed}
use Rattle.shared_words.specs.Lists.{All}
use Rattle.shared_words.proofs.Bytes.{length-packed, packed_append}
use Rattle.shared_numbers.specs.Put.{Put}
use Rattle.shared_numbers.proofs.Put.{put-none, put_then, put_front}
use Rattle.c4d_rules.specs.Gives.{Object}
use Rattle.c4d_rules.specs.Calls.{all_materials, flat}
use Rattle.c4d_objects.specs.Notes.{front, notes_of, all_notes, Small}
use Rattle.c4d_rules.proofs.Objects.{materials_append}
use Rattle.c4d_objects.proofs.Notes.{notes_append, materials_more, notes_more}
use Rattle.c4d_list.specs.Filled.{Fillable, FilledWith}
use Rattle.c4d_list.proofs.Noted.{reach, second, those, pair_long, has_none, has_some, offset_of_lem, number_of_lem}

flat-more : (rs : List Object) (r : Object) → flat (rs ++ (r ∷ [])) ≡ flat rs ++ (r.offset ∷ r.combination ∷ length r.materials ∷ [])
flat-more [] r = refl
flat-more (x ∷ rs) r = ap (λ (l : List ℕ). x.offset ∷ x.combination ∷ length x.materials ∷ l) (flat-more rs r)

pub length-flat : (rs : List Object) → length (flat rs) ≡ 3 * length rs
length-flat [] = refl
length-flat (r ∷ rs) = omega (arith, length-flat rs)

small_of : (a : List Object) (r : Object) (b : List Object) → All Small (a ++ (r ∷ b)) → Small r
small_of [] r b h = h.0
small_of (x ∷ a) r b h = small_of a r b h.1

module _ {notes : List ℕ} {count : ℕ} (objects₀ materials₀ : List ℕ) (g : Fillable notes count (length objects₀) (length materials₀)) where
  pub record Filling (objects materials : List ℕ) (i from row behind : ℕ) : Type 0 where
    pub done : List Object
    pub left : List Object
    pub parts : g.objects ≡ done ++ left
    pub i_is : i ≡ length done
    pub from_is : from ≡ length (all_notes done)
    pub objects-put : Put objects₀ 0 (packed 4 (flat done)) objects row
    pub materials_put : Put materials₀ 0 (packed 4 (all_materials done)) materials behind
    pub objects-long : length objects ≡ length objects₀
    pub materials_long : length materials ≡ length materials₀

  pub filling_none : Filling objects₀ materials₀ 0 0 0 0
  filling_none = record {
    done = [];
    left = g.objects;
    parts = refl;
    i_is = refl;
    from_is = refl;
    objects-put = put-none objects₀ 0;
    materials_put = put-none materials₀ 0;
    objects-long = refl;
    materials_long = refl;
  }

  module _ {objects materials : List ℕ} {i from row behind : ℕ} (w : Filling objects materials i from row behind) where
    pub all-filled : count ≤ i → FilledWith g.objects objects₀ materials₀ objects materials
    all-filled l = go w.left w.parts
      where
        go : (rs : List Object) → g.objects ≡ w.done ++ rs → FilledWith g.objects objects₀ materials₀ objects materials
        go [] e =
            let z : g.objects ≡ w.done = e ∙ append-nil w.done in
            record { objects_are = rw z (put_front w.objects-put); materials_are = rw z (put_front w.materials_put) }
        go (r ∷ rs) e = absurd (omega (arith, g.count-is, ap length e, length-append w.done (r ∷ rs), w.i_is))

    -- ---- the next object

    pub record Next : Type 0 where
      pub r : Object
      pub others : List Object
      pub parts : g.objects ≡ w.done ++ (r ∷ others)

    pub next : i < count → Next
    next l = go w.left w.parts
      where
        go : (rs : List Object) → g.objects ≡ w.done ++ rs → Next
        go [] e = absurd (omega (arith, g.count-is, ap length e, length-append w.done [], w.i_is))
        go (r ∷ rs) e = record { r = r; others = rs; parts = e }

    module _ (n : Next) where
      pub small : Small n.r
      small = small_of w.done n.r n.others (subst (All Small) n.parts g.each_small)

      abbrev pub rest : List ℕ
      rest = all_notes n.others ++ g.rest

      pub here : drop from notes ≡ notes_of n.r ++ rest
      here =
          let e : notes ≡ all_notes w.done ++ (notes_of n.r ++ rest) =
          g.are ∙ ap (λ (rs : List Object). all_notes rs ++ g.rest) n.parts ∙ ap (λ (l : List ℕ). l ++ g.rest) (notes_append w.done (n.r ∷ n.others)) ∙
          append_assoc (all_notes w.done) (notes_of n.r ++ all_notes n.others) g.rest ∙
          ap (λ (l : List ℕ). all_notes w.done ++ l) (append_assoc (notes_of n.r) (all_notes n.others) g.rest) in
          ap (drop from) e ∙ drop_at (all_notes w.done) (notes_of n.r ++ rest) from (sym w.from_is)

      -- what these notes tell
      abbrev space : ℕ
      space = length (front n.r.offset n.r.combination (length n.r.materials))

      pub reaches : from + (space + length n.r.materials) ≤ length notes
      reaches = reach notes from n.r rest here

      module _ (x : ℕ) (e : x ≡ get_or notes from 0) where
        pub offset_is : x / 32 ≡ n.r.offset
        offset_is = offset_of_lem notes from n.r rest here small x e

        pub number_is : x % 16 ≡ n.r.combination
        number_is = number_of_lem notes from n.r rest here small x e

        pub none-there : x / 16 % 2 ≡ 0 → length n.r.materials ≡ 0
        none-there = has_none notes from n.r rest here small x e

        module _ (z : x / 16 % 2 ≡ 0 → ⊥) where
          some : length n.r.materials ≡ 0 → ⊥
          some = has_some notes from n.r rest here small x e z

          pub count-there : get_or notes (from + 1) 0 ≡ length n.r.materials
          count-there = second notes from n.r rest here some

          pub two-before : space ≡ 2
          two-before = pair_long notes from n.r rest here some

          pub materials_there : slice (from + 2) (from + 2 + get_or notes (from + 1) 0) notes ≡ n.r.materials
          materials_there = ap (λ (k : ℕ). slice (from + 2) (from + 2 + k) notes) count-there ∙ those notes from n.r rest here some

      pub object-room : row + 12 ≤ length objects
      object-room =
          omega (
            arith,
            g.objects-room,
            g.count-is,
            ap length n.parts,
            length-append w.done (n.r ∷ n.others),
            w.objects-put.ends,
            length-packed 4 (flat w.done),
            length-flat w.done,
            w.objects-long,
          )

      pub material-room : behind + 4 * length n.r.materials ≤ length materials
      material-room =
          let e = ap (λ (rs : List Object). length (all_materials rs)) n.parts ∙ ap length (materials_append w.done (n.r ∷ n.others)) in
          omega (
            arith,
            g.materials_room,
            e,
            length-append (all_materials w.done) (n.r.materials ++ all_materials n.others),
            length-append n.r.materials (all_materials n.others),
            w.materials_put.ends,
            length-packed 4 (all_materials w.done),
            w.materials_long,
          )

      pub one_more : {objects' materials' : List ℕ} {row' behind' : ℕ} (from' : ℕ) → from' ≡ from + (space + length n.r.materials) →
          Put objects row (packed 4 (n.r.offset ∷ n.r.combination ∷ length n.r.materials ∷ [])) objects' row' → Put materials behind (packed 4 n.r.materials) materials' behind' →
          length objects' ≡ length objects → length materials' ≡ length materials → Filling objects' materials' (i + 1) from' row' behind'
      one_more from' f po pm lo lm =
          let fn = front n.r.offset n.r.combination (length n.r.materials) in
          record {
            done = w.done ++ (n.r ∷ []);
            left = n.others;
            parts = n.parts ∙ sym (append_assoc w.done (n.r ∷ []) n.others);
            i_is = omega (arith, w.i_is, length-append w.done (n.r ∷ []));
            from_is = omega (arith, f, w.from_is, ap length (notes_more w.done n.r), length-append (all_notes w.done) (notes_of n.r), length-append fn n.r.materials);
            objects-put = rw (flat-more w.done n.r, packed_append 4 (flat w.done) (n.r.offset ∷ n.r.combination ∷ length n.r.materials ∷ [])) (put_then (omega arith) w.objects-put po);
            materials_put = rw (materials_more w.done n.r, packed_append 4 (all_materials w.done) n.r.materials) (put_then (omega arith) w.materials_put pm);
            objects-long = lo ∙ w.objects-long;
            materials_long = lm ∙ w.materials_long;
          }
