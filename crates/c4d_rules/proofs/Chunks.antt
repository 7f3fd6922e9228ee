-- The three grammars of a file are right: the conditions of each are its rules.
use mathlib.Core.Path.{◌≡◌, refl, sym, ap, subst}
use Prim.Native.Nat.{ℕ, ◌+◌}
use native.Mathlib.Omega.{arith}
use mathlib.Core.Bool.{true, false}
use mathlib.Core.List.{List}
use mathlib.Core.Option.{Option, none}
use Rattle.c4d_rules.specs.Blocks.{Block, chunk_header, Framed, all_bytes, itself}
use Rattle.c4d_rules.specs.Kinds.{Kind, Platform, Materials, Objects, Other}
use Rattle.c4d_rules.specs.Layout.{Inside, plain, subs, Chunk, kind, inside_bytes, block}
use Rattle.c4d_rules.specs.Rules.{MaterialRules, ObjectRules, Before, is_in_order, InsideObeys, ChunkRules}
use Rattle.shared_words.specs.Conditions.{Answer, refused, accepted}
use Rattle.shared_words.proofs.Conditions.{unbroken}
use Rattle.c4d_rules.specs.Read.{walk}
use Rattle.c4d_rules.specs.Walk.{material_conditions, material_grammar, object_conditions, object_grammar, chunk_conditions, with_subs, look_inside, block_kind, chunk_grammar}
use Rattle.c4d_rules.proofs.Conditions.{If, guarded}
use Rattle.c4d_rules.proofs.Read.{Is, Right, Whole, walk-tells, walk_complete}

-- ---- sub-chunks

pub materials_right : (at : ℕ) → Right (material_grammar at) itself MaterialRules
materials_right at = record {
  wide = omega arith;
  framed = λ ended b h. h.framed;
  sound = λ ended o b f. guarded (Is itself MaterialRules ended b) (material_conditions ended o) (accepted b)
      (λ t. record { same_block = refl; lawful = record { framed = f; nothing-after-end = t.0 } });
  complete = λ ended o b h. rw (unbroken (material_conditions ended o) (h.nothing-after-end, tt));
}

pub objects_right : (last : Option ℕ) (at : ℕ) → Right (object_grammar last at) itself (ObjectRules last)
objects_right last at = record {
  wide = omega arith;
  framed = λ held b h. h.framed;
  sound = λ held o b f. guarded (Is itself (ObjectRules last) held b) (object_conditions last held o b) (accepted b)
      (λ t. record {
        same_block = refl;
        lawful = record { framed = f; texture-whole = t.0; in_place = t.1.0; material-there = t.1.1.0; combination-holds = t.1.1.1.0 };
      });
  complete = λ held o b h.
      rw (unbroken (object_conditions last held o b) (h.texture-whole, (h.in_place, (h.material-there, (h.combination-holds, tt)))));
}

-- ---- chunks

module _ (p : Before) (o : ℕ) (b : Block) (f : Framed chunk_header b) where
  -- the block b with sub-chunks of these bytes
  opened : (bs : List Block) → all_bytes itself bs ≡ b.body → is_in_order p (block_kind b) ≡ true → InsideObeys p.last (block_kind b) (subs bs) →
      Is block ChunkRules p b record { head = b.head; inside = subs bs }
  opened bs e i h =
      let c : Chunk = record { head = b.head; inside = subs bs } in
      let q : block c ≡ b = ap (λ (x : List ℕ). record { head = b.head; body = x }) e in
      record { same_block = q; lawful = record { framed = subst (Framed chunk_header) (sym q) f; in_order = i; inside-obeys = h } }

  materials_sound : block_kind b ≡ Materials → is_in_order p (block_kind b) ≡ true → (x : Answer (List Block)) →
      If (Whole (material_grammar o) itself MaterialRules false b.body) x → If (Is block ChunkRules p b) (with_subs b.head x)
  materials_sound k i (refused r) h = tt
  materials_sound k i (accepted bs) h = opened bs h.is i (rw k record { each = h.obey; end-there = h.closed.0 })

  objects_sound : block_kind b ≡ Objects → is_in_order p (block_kind b) ≡ true → (x : Answer (List Block)) →
      If (Whole (object_grammar p.last o) itself (ObjectRules p.last) none b.body) x → If (Is block ChunkRules p b) (with_subs b.head x)
  objects_sound k i (refused r) h = tt
  objects_sound k i (accepted bs) h = opened bs h.is i (rw k record { each = h.obey; end-there = h.closed.0 })

  inside_sound : (k : Kind) → block_kind b ≡ k → is_in_order p (block_kind b) ≡ true → If (Is block ChunkRules p b) (look_inside p o b k)
  inside_sound Platform e i = record { same_block = refl; lawful = record { framed = f; in_order = i; inside-obeys = rw e tt } }
  inside_sound Materials e i =
      materials_sound e i (walk (material_grammar o) false (o + 8) b.body)
      (walk-tells (material_grammar o) itself MaterialRules (materials_right o) false (o + 8) b.body)
  inside_sound Objects e i =
      objects_sound e i (walk (object_grammar p.last o) none (o + 8) b.body)
      (walk-tells (object_grammar p.last o) itself (ObjectRules p.last) (objects_right p.last o) none (o + 8) b.body)
  inside_sound Other e i = record { same_block = refl; lawful = record { framed = f; in_order = i; inside-obeys = rw e tt } }

inside_complete : (p : Before) (o : ℕ) (head : List ℕ) (k : Kind) (i : Inside) → InsideObeys p.last k i →
    look_inside p o record { head = head; body = inside_bytes i } k ≡ accepted record { head = head; inside = i }
inside_complete p o head Platform (plain rest) h = refl
inside_complete p o head Platform (subs bs) h = absurd h
inside_complete p o head Materials (plain rest) h = absurd h
inside_complete p o head Materials (subs bs) h =
    rw (walk_complete (material_grammar o) itself MaterialRules (materials_right o) bs false (o + 8) h.each (h.end-there, tt))
inside_complete p o head Objects (plain rest) h = absurd h
inside_complete p o head Objects (subs bs) h =
    rw (walk_complete (object_grammar p.last o) itself (ObjectRules p.last) (objects_right p.last o) bs none (o + 8) h.each (h.end-there, tt))
inside_complete p o head Other (plain rest) h = refl
inside_complete p o head Other (subs bs) h = absurd h

pub chunks_right : Right chunk_grammar block ChunkRules
chunks_right = record {
  wide = omega arith;
  framed = λ p c h. h.framed;
  sound = λ p o b f. guarded (Is block ChunkRules p b) (chunk_conditions p o (block_kind b)) (look_inside p o b (block_kind b))
      (λ t. inside_sound p o b f (block_kind b) refl t.0);
  complete = λ p o c h. rw (unbroken (chunk_conditions p o (kind c)) (h.in_order, tt)) (inside_complete p o c.head (kind c) c.inside h.inside-obeys);
}
