-- What is left of an OBJ5, one sub-chunk on.
use mathlib.Core.Path.{◌≡◌, refl, sym, ap, ◌∙◌}
use Prim.Native.Nat.{ℕ, ◌+◌, ◌<◌, ◌≤◌}
use native.Mathlib.Omega.{arith}
use mathlib.Core.Bool.{false, cond}
use mathlib.Core.List.{List, [], ◌∷◌, ◌++◌, append_assoc}
use mathlib.Core.Option.{Option, none, some}
use lib.Dec.{eqb}
use lib.ListN.{length, drop}
use lib.Seq.{slice}
use Rattle.shared_words.specs.declared.Refusal.{Refusal}
use Rattle.shared_words.specs.declared.Refusal.TheVariants.{Overrun, Order}
use Rattle.shared_words.specs.Bytes.{value_be}
use Rattle.shared_words.specs.Conditions.{broken, Answer, refused, accepted}
use Rattle.shared_numbers.proofs.Slices.{drop-slice}
use Rattle.c4d_rules.specs.Blocks.{Block, object_header, size}
use Rattle.c4d_rules.specs.Kinds.{t_end, t_object}
use Rattle.c4d_rules.specs.Rules.{Open, so_far, object_id, with_one, after_object}
use Rattle.c4d_rules.specs.Read.{Grammar, with_more, walk}
use Rattle.c4d_rules.specs.Walk.{object_grammar}
use Rattle.c4d_rules.specs.Gives.{Object, object_at}
use Rattle.c4d_blocks.specs.Headers.{block_in, overrun, Tells}
use Rattle.c4d_blocks.proofs.Headers.{slice_is}
use Rattle.c4d_blocks.proofs.Steps.{block_size, body_is, at-end, overruns, refuses, goes_on}
use Rattle.c4d_held.specs.Held.{fault, Is}
use Rattle.c4d_object.specs.Ahead.{given, ahead, behind}

-- ---- behind objects

pub behind-none : (w : Answer (List Object)) → behind [] w ≡ w
behind-none (refused r) = refl
behind-none (accepted rs) = refl

pub behind-both : (a b : List Object) (w : Answer (List Object)) → behind a (behind b w) ≡ behind (a ++ b) w
behind-both a b (refused r) = refl
behind-both a b (accepted rs) = ap accepted (sym (append_assoc a b rs))

-- ---- one sub-chunk

given-more : (begun : ℕ) (held : Open) (o : ℕ) (b : Block) (w : Answer (List Block)) → given begun held o (with_more b w) ≡
    behind (cond (eqb (object_id b) t_end) (object_at begun (so_far held) ∷ []) []) (given (cond (eqb (object_id b) t_object) o begun) (after_object held b) (o + size b) w)
given-more begun held o b (refused r) = refl
given-more begun held o b (accepted bs) = refl

-- the block that is judged
pub block-is : (s : List ℕ) (at to id len : ℕ) → to ≤ length s → Tells object_header s at to id len → Is s at id len (block_in object_header s at to)
block-is s at to id len m t = record {
  id-is = sym t.id-is;
  len_is = sym t.len_is;
  material-is = λ e.
      let f = t.fits in
      let x : at + 4 + 60 ≡ at + 64 = omega arith in
      let y : at + 4 + len ≡ at + 64 + 4 = omega arith in
      ap (λ (bs : List ℕ). value_be (drop 60 bs)) (body_is object_header s at to id len t) ∙ ap value_be (drop-slice 60 (at + 4) (at + 4 + len) s) ∙
      rw (x, y) (ap value_be (slice_is (at + 64) 4 s (omega arith)));
}

module _ (s : List ℕ) (last : Option ℕ) (chunk to : ℕ) (k : to ≤ length s) where
  abbrev left : ℕ → Open → ℕ → Answer (List Object)
  left begun held at = ahead s last chunk to begun held at

  abbrev grammar : Grammar Open Block
  grammar = object_grammar last chunk

  pub open_at_end : (begun : ℕ) (bs : List Block) (at : ℕ) → at ≡ to → left begun (some bs) at ≡ refused (Order chunk)
  unfolding broken
  open_at_end begun bs at e = ap (given begun (some bs) at) (at-end grammar (omega arith) s (some bs) at to e)

  pub closed-at-end : (begun at : ℕ) → at ≡ to → left begun none at ≡ accepted []
  unfolding broken
  closed-at-end begun at e = ap (given begun none at) (at-end grammar (omega arith) s none at to e)

  module _ (begun : ℕ) (held : Open) (at : ℕ) (l : at < to) where
    pub cut : overrun object_header s at to ≡ some (Overrun at) → left begun held at ≡ refused (Overrun at)
    cut e = ap (given begun held at) (overruns grammar (omega arith) s held at to l k (Overrun at) e)

    module _ (id len : ℕ) (t : Tells object_header s at to id len) where
      abbrev b : Block
      b = block_in object_header s at to

      pub faulty : (r : Refusal) → fault last held at b ≡ some r → left begun held at ≡ refused r
      faulty r e = ap (given begun held at) (refuses grammar (omega arith) s held at to l k id len t r (rw e))

      next : fault last held at b ≡ none → left begun held at ≡
          behind (cond (eqb (object_id b) t_end) (object_at begun (so_far held) ∷ []) []) (left (cond (eqb (object_id b) t_object) at begun) (after_object held b) (at + (4 + len)))
      next e =
          let z = block_size object_header s at to id len k t in
          ap (given begun held at) (goes_on grammar (omega arith) s held at to l k id len t b (rw e)) ∙
          given-more begun held at b (walk grammar (after_object held b) (at + (4 + len)) (slice (at + (4 + len)) to s)) ∙ rw z

      -- an object ends
      pub ends : fault last held at b ≡ none → object_id b ≡ t_end → left begun held at ≡ behind (object_at begun (so_far held) ∷ []) (left begun none (at + (4 + len)))
      ends e i = next e ∙ rw i

      -- and begins
      pub begins : fault last held at b ≡ none → object_id b ≡ t_object → left begun held at ≡ left at (some []) (at + (4 + len))
      begins e i = next e ∙ rw i (behind-none (left at (some []) (at + (4 + len))))

      -- or neither
      pub passes : fault last held at b ≡ none → eqb (object_id b) t_end ≡ false → eqb (object_id b) t_object ≡ false → left begun held at ≡ left begun (with_one held b) (at + (4 + len))
      passes e n o = next e ∙ rw (n, o) (behind-none (left begun (with_one held b) (at + (4 + len))))
