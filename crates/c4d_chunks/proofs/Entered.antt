-- A chunk entered: its order, what is inside, and what is then known.
use mathlib.Core.Path.{◌≡◌, refl, sym, ap, ◌∙◌, subst}
use Prim.Native.Nat.{ℕ, ◌+◌, ◌≤◌}
use native.Mathlib.Omega.{arith}
use mathlib.Core.Bool.{Bool, true, false, not, ◌&&◌, true≢false}
use mathlib.Core.List.{List, append-nil}
use mathlib.Core.Option.{none, some}
use lib.ListN.{length}
use lib.Seq.{slice}
use Rattle.shared_words.specs.declared.Refusal.{Refusal}
use Rattle.shared_words.specs.declared.Refusal.TheVariants.{Order}
use Rattle.shared_words.specs.Conditions.{broken, Answer, refused, accepted}
use Rattle.c4d_rules.specs.Blocks.{Block, chunk_header}
use Rattle.c4d_rules.specs.Kinds.{Kind, Platform, Materials, Objects, Other, kind_of}
use Rattle.c4d_rules.specs.Layout.{plain, subs, Chunk}
use Rattle.c4d_rules.specs.Rules.{Open, nexts, Before, is_none, is_in_order}
use Rattle.c4d_rules.specs.Read.{walk}
use Rattle.c4d_rules.specs.Walk.{material_grammar, object_grammar, with_subs, look_inside, block_kind, chunk_grammar}
use Rattle.c4d_rules.specs.Gives.{Object, objects_from}
use Rattle.c4d_rules.specs.Calls.{all_materials}
use Rattle.c4d_blocks.specs.Headers.{block_in, Tells}
use Rattle.c4d_blocks.proofs.Steps.{head_long, body_is}
use Rattle.std.specs.Prelude.{Option, Some, None, Ok, Err}
use Rattle.std.specs.Option.{is_some}
use Rattle.c4d_materials.specs.Counted.{counted_from}
use Rattle.c4d_object.specs.Ahead.{given, ahead}
use Rattle.c4d_objects.specs.declared.Figure.{Figure}
use Rattle.c4d_objects.specs.Notes.{tallied, Noted, Notes}
use Rattle.c4d_chunks.specs.declared.State.{State}
use Rattle.c4d_chunks.specs.Steps.{last_in, Counts, Known, NextIs}

-- ---- what the runs answer, said of their walks

counted-refused : (n : ℕ) (w : Answer (List Block)) (r : Refusal) → Err r ≡ counted_from n w → w ≡ refused r
counted-refused n (refused x) r e = let z : x ≡ r = cc in rw z
counted-refused n (accepted bs) r e = let z : ◌≡◌ {A = ℕ} 0 1 = cc in absurd (omega arith)

pub record Counted (w : Answer (List Block)) (n : ℕ) : Type 0 where
  pub blocks : List Block
  pub is : w ≡ accepted blocks
  pub count : n ≡ nexts blocks

counted-all : (w : Answer (List Block)) (n : ℕ) → Ok n ≡ counted_from 0 w → Counted w n
counted-all (refused x) n e = let z : ◌≡◌ {A = ℕ} 0 1 = cc in absurd (omega arith)
counted-all (accepted bs) n e = let z : n ≡ 0 + nexts bs = cc in record { blocks = bs; is = refl; count = omega arith }

module _ (begun : ℕ) (held : Open) (o : ℕ) where
  tally-refused : (w : Answer (List Block)) (r : Refusal) → Err r ≡ tallied (given begun held o w) → w ≡ refused r
  tally-refused (refused x) r e = let z : x ≡ r = cc in rw z
  tally-refused (accepted bs) r e = let z : ◌≡◌ {A = ℕ} 0 1 = cc in absurd (omega arith)

  pub record Tallied (s : List ℕ) (w : Answer (List Block)) (f : Figure) (notes notes' : List ℕ) : Type 0 where
    pub blocks : List Block
    pub is : w ≡ accepted blocks
    pub counts : Counts f (objects_from begun held o blocks)
    pub noted : Noted s (objects_from begun held o blocks) notes notes'

  tally-all : (s : List ℕ) (w : Answer (List Block)) (f : Figure) (notes notes' : List ℕ) → Ok f ≡ tallied (given begun held o w) → Notes s (given begun held o w) notes notes' →
      Tallied s w f notes notes'
  tally-all s (refused x) f notes notes' e k = let z : ◌≡◌ {A = ℕ} 0 1 = cc in absurd (omega arith)
  tally-all s (accepted bs) f notes notes' e k =
      let rs : List Object = objects_from begun held o bs in
      let y : f ≡ record { objects = length rs; textures = length (all_materials rs) } = cc in
      record { blocks = bs; is = refl; counts = record { objects_are = ap (λ (x : Figure). x.objects) y; textures_are = ap (λ (x : Figure). x.textures) y }; noted = k }

-- ---- whether there was a MAT4

none-is : (last : Option ℕ) → is_none (last_in last) ≡ not (is_some last)
none-is (Some n) = refl
none-is None = refl

-- ---- one chunk

module _ (s : List ℕ) (at id len : ℕ) (p : Before) (rs : List Object) (t : Tells chunk_header s at (length s) id len) where
  abbrev b : Block
  b = block_in chunk_header s at (length s)

  kind-is : (k : Kind) → kind_of id ≡ k → block_kind b ≡ k
  kind-is k e = ap kind_of (sym t.id-is) ∙ e

  pub out_of_order : (k : Kind) → kind_of id ≡ k → is_in_order p k ≡ false → chunk_grammar.look p at b ≡ refused (Order at)
  unfolding broken
  out_of_order k e h = rw (kind-is k e, h)

  pub in_order : (k : Kind) → kind_of id ≡ k → is_in_order p k ≡ true → chunk_grammar.look p at b ≡ look_inside p at b k
  unfolding broken
  in_order k e h = rw (kind-is k e, h)

  -- not looked into
  abbrev plain_chunk : Chunk
  plain_chunk = record { head = b.head; inside = plain b.body }

  abbrev opened : List Block → Chunk
  opened bs = record { head = b.head; inside = subs bs }

  module _ (st : State) {notes₀ notes : List ℕ} (g : Known s p st rs notes₀ notes) where
    -- what is known of materials and objects stays
    stays : {q : Before} → q.last ≡ p.last → q.objects ≡ p.objects → Known s q st rs notes₀ notes
    stays l o = record {
      last-is = g.last-is ∙ sym l;
      last_small = g.last_small;
      objects-is = g.objects-is ∙ sym o;
      none_yet = λ e. g.none_yet (sym o ∙ e);
      counts = g.counts;
      noted = g.noted;
    }

    pub platform_known : kind_of id ≡ Platform → p.any ≡ false → NextIs s p at b rs notes₀ notes st
    platform_known e h =
        let k = kind-is Platform e in
        record { chunk = plain_chunk; taken = in_order Platform e (rw h); known = rw (k, append-nil rs) (stays refl refl) }

    pub other_known : kind_of id ≡ Other → NextIs s p at b rs notes₀ notes st
    other_known e =
        let k = kind-is Other e in
        record { chunk = plain_chunk; taken = in_order Other e refl; known = rw (k, append-nil rs) (stays refl refl) }

    body-here : (end : ℕ) → end ≡ at + (8 + len) → b.body ≡ slice (at + 8) end s
    body-here end q =
        let z : at + 8 + len ≡ end = omega arith in
        body_is chunk_header s at (length s) id len t ∙ ap (λ (x : ℕ). slice (at + 8) x s) z

    -- ---- MAT4

    module _ (e : kind_of id ≡ Materials) (end : ℕ) (q : end ≡ at + (8 + len)) where
      abbrev pub material_walk : Answer (List Block)
      material_walk = walk (material_grammar at) false (at + 8) (slice (at + 8) end s)

      inside_materials : is_in_order p Materials ≡ true → chunk_grammar.look p at b ≡ with_subs b.head material_walk
      inside_materials h = in_order Materials e h ∙ ap (λ (x : List ℕ). with_subs b.head (walk (material_grammar at) false (at + 8) x)) (body-here end q)

      pub materials_order : is_some st.last ≡ false → is_some st.figure ≡ false → is_in_order p Materials ≡ true
      materials_order z n = rw (ap is_none (sym g.last-is) ∙ none-is st.last ∙ ap not z, sym g.objects-is ∙ n)

      pub materials_again : is_some st.last ≡ true → chunk_grammar.look p at b ≡ refused (Order at)
      materials_again z = out_of_order Materials e (rw (ap is_none (sym g.last-is) ∙ none-is st.last ∙ ap not z))

      pub materials_late : is_some st.figure ≡ true → chunk_grammar.look p at b ≡ refused (Order at)
      materials_late n = out_of_order Materials e (rw (sym g.objects-is ∙ n) (go (is_none p.last)))
        where
          go : (x : Bool) → (x && false) ≡ false
          go true = refl
          go false = refl

      pub materials_refused : is_in_order p Materials ≡ true → (r : Refusal) → Err r ≡ counted_from 0 material_walk → chunk_grammar.look p at b ≡ refused r
      materials_refused h r c = inside_materials h ∙ ap (with_subs b.head) (counted-refused 0 material_walk r c)

      pub materials_known : is_in_order p Materials ≡ true → (n : ℕ) → n ≤ 0x7FFF_FFFF → Ok n ≡ counted_from 0 material_walk →
          NextIs s p at b rs notes₀ notes record { last = Some n; figure = st.figure }
      materials_known h n l c =
          let k = kind-is Materials e in
          let w = counted-all material_walk n c in
          let y = w.count in
          record {
            chunk = opened w.blocks;
            taken = inside_materials h ∙ ap (with_subs b.head) w.is;
            known = rw (k, append-nil rs) record {
              last-is = ap some y;
              last_small = omega arith;
              objects-is = g.objects-is;
              none_yet = g.none_yet;
              counts = g.counts;
              noted = g.noted;
            };
          }

    -- ---- OBJ5

    module _ (e : kind_of id ≡ Objects) (end : ℕ) (q : end ≡ at + (8 + len)) where
      abbrev pub object_walk : Answer (List Block)
      object_walk = walk (object_grammar p.last at) none (at + 8) (slice (at + 8) end s)

      inside-objects : is_some st.figure ≡ false → chunk_grammar.look p at b ≡ with_subs b.head object_walk
      inside-objects z =
          in_order Objects e (rw (sym g.objects-is ∙ z)) ∙
          ap (λ (x : List ℕ). with_subs b.head (walk (object_grammar p.last at) none (at + 8) x)) (body-here end q)

      pub objects-again : is_some st.figure ≡ true → chunk_grammar.look p at b ≡ refused (Order at)
      objects-again n = out_of_order Objects e (rw (sym g.objects-is ∙ n))

      abbrev objects_ahead : Answer (List Object)
      objects_ahead = ahead s (last_in st.last) at end (at + 8) none (at + 8)

      ahead-is : objects_ahead ≡ given (at + 8) none (at + 8) object_walk
      ahead-is = rw g.last-is

      pub objects-refused : is_some st.figure ≡ false → (r : Refusal) → Err r ≡ tallied objects_ahead → chunk_grammar.look p at b ≡ refused r
      objects-refused z r c = inside-objects z ∙ ap (with_subs b.head) (tally-refused (at + 8) none (at + 8) object_walk r (c ∙ ap tallied ahead-is))

      known-with : is_some st.figure ≡ false → (f : Figure) {notes' : List ℕ} → Tallied (at + 8) none (at + 8) s object_walk f notes notes' →
          NextIs s p at b rs notes₀ notes' record { last = st.last; figure = Some f }
      known-with z f {notes'} w =
          let k = kind-is Objects e in
          let long = t.fits in
          let y = g.none_yet (sym g.objects-is ∙ z) in
          let x : length b.head ≡ 8 = head_long chunk_header s at (length s) (omega arith) (omega arith) in
          record {
            chunk = opened w.blocks;
            taken = inside-objects z ∙ ap (with_subs b.head) w.is;
            known = rw (k, y.0, x) record {
              last-is = g.last-is;
              last_small = g.last_small;
              objects-is = refl;
              none_yet = λ e. absurd (true≢false e);
              counts = w.counts;
              noted = subst (λ (a : List ℕ). Noted s (objects_from (at + 8) none (at + 8) w.blocks) a notes') y.1 w.noted;
            };
          }

      pub objects-known : is_some st.figure ≡ false → (f : Figure) (notes' : List ℕ) → Ok f ≡ tallied objects_ahead → Notes s objects_ahead notes notes' →
          NextIs s p at b rs notes₀ notes' record { last = st.last; figure = Some f }
      objects-known z f notes' c o =
          known-with z f (tally-all (at + 8) none (at + 8) s object_walk f notes notes' (c ∙ ap tallied ahead-is) (subst (λ (a : Answer (List Object)). Notes s a notes notes') ahead-is o))
