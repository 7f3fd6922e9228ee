-- The loop over the chunks of a file: the chunks so far, and what is left of the walk.
use mathlib.Core.Path.{◌≡◌, refl, sym, ap, ◌∙◌, subst}
use Prim.Native.Nat.{ℕ, ◌+◌, ◌<◌, ◌≤◌}
use native.Mathlib.Omega.{arith}
use mathlib.Core.Bool.{not}
use mathlib.Core.List.{List, [], ◌∷◌, ◌++◌, append_assoc, append-nil}
use mathlib.Core.Option.{some}
use lib.Dec.{eqb}
use lib.ListN.{length, drop}
use lib.Seq.{slice, take-length}
use borrow.Author.Tests.{ne_eqb}
use Rattle.shared_words.specs.declared.Refusal.{Refusal}
use Rattle.shared_words.specs.declared.Refusal.TheVariants.{Overrun}
use Rattle.shared_words.specs.Conditions.{broken, Answer, refused, accepted}
use Rattle.shared_numbers.proofs.Put.{put-none}
use Rattle.shared_flat.specs.Flat.{after_all, total, Format, records}
use Rattle.c4d_rules.specs.Blocks.{chunk_header, size, Framed}
use Rattle.c4d_rules.specs.Layout.{Chunk, kind, block, chunk_size}
use Rattle.c4d_rules.specs.Rules.{Before, start, after, ChunkRules}
use Rattle.c4d_rules.specs.Read.{with_more, walk}
use Rattle.c4d_rules.specs.Walk.{chunk_grammar}
use Rattle.c4d_rules.specs.Gives.{Object, cinema}
use Rattle.c4d_rules.proofs.Conditions.{If}
use Rattle.c4d_rules.proofs.Read.{Is}
use Rattle.c4d_rules.proofs.Chunks.{chunks_right}
use Rattle.c4d_rules.proofs.PutIn.{any-after}
use Rattle.c4d_blocks.specs.Headers.{block_in, overrun, Tells}
use Rattle.c4d_blocks.proofs.Steps.{head_long, block_size, at-end, overruns, refuses, goes_on}
use Rattle.c4d_chunks.specs.declared.State.{State}
use Rattle.c4d_chunks.specs.Steps.{figure_in, Known, NextIs, Accepts}
use Rattle.std.specs.Prelude.{None}

-- ---- things read before others

pub with_all : {A : Type 0} → List A → Answer (List A) → Answer (List A)
with_all [] w = w
with_all (a ∷ as') w = with_more a (with_all as' w)

all-refused : {A : Type 0} (xs : List A) (r : Refusal) → with_all xs (refused r) ≡ refused r
unfolding with_all
all-refused [] r = refl
all-refused (x ∷ xs) r = rw (all-refused xs r)

all-accepted : {A : Type 0} (xs : List A) → with_all xs (accepted []) ≡ accepted xs
unfolding with_all
all-accepted [] = refl
all-accepted (x ∷ xs) = rw (all-accepted xs)

all_snoc : {A : Type 0} (xs : List A) (x : A) (w : Answer (List A)) → with_all xs (with_more x w) ≡ with_all (xs ++ (x ∷ [])) w
unfolding with_all
all_snoc [] x w = refl
all_snoc (y ∷ xs) x w = ap (with_more y) (all_snoc xs x w)

module _ {S A R : Type 0} (F : Format S A R) where
  after_snoc : (xs : List A) (x : A) (s : S) → after_all F.after s (xs ++ (x ∷ [])) ≡ F.after (after_all F.after s xs) x
  after_snoc [] x s = refl
  after_snoc (y ∷ xs) x s = after_snoc xs x (F.after s y)

  total_snoc : (xs : List A) (x : A) → total F.size (xs ++ (x ∷ [])) ≡ total F.size xs + F.size x
  total_snoc [] x = omega arith
  total_snoc (y ∷ xs) x = omega (arith, total_snoc xs x)

  records_snoc : (xs : List A) (x : A) (s : S) (o : ℕ) →
      records F s o (xs ++ (x ∷ [])) ≡ records F s o xs ++ F.gives (after_all F.after s xs) (o + total F.size xs) x
  records_snoc [] x s o =
      let z : o + 0 ≡ o = omega arith in
      rw z (append-nil (F.gives s o x))
  records_snoc (y ∷ xs) x s o =
      let z : o + F.size y + total F.size xs ≡ o + (F.size y + total F.size xs) = omega arith in
      ap (λ (l : List R). F.gives s o y ++ l) (records_snoc xs x (F.after s y) (o + F.size y)) ∙
      rw z (sym (append_assoc (F.gives s o y) (records F (F.after s y) (o + F.size y) xs) _))

-- ---- the loop

abbrev pub whole : List ℕ → Answer (List Chunk)
whole s = walk chunk_grammar start 12 (drop 12 s)

abbrev pub before : List Chunk → Before
before cs = after_all after start cs

abbrev pub given : List Chunk → List Object
given cs = records cinema start 12 cs

pub record On (s notes₀ notes : List ℕ) (at : ℕ) (st : State) : Type 0 where
  pub chunks : List Chunk
  pub goes : whole s ≡ with_all chunks (walk chunk_grammar (before chunks) at (slice at (length s) s))
  pub at-is : at ≡ 12 + total chunk_size chunks
  pub within : at ≤ length s
  pub any-is : (before chunks).any ≡ not (eqb at 12)
  pub known : Known s (before chunks) st (given chunks) notes₀ notes
  pub same-long : length notes ≡ length notes₀

-- all that is left
slice_all : (a : ℕ) (s : List ℕ) → slice a (length s) s ≡ drop a s
slice_all a s = ap (drop a) (take-length s)

pub on-start : (s notes : List ℕ) → 12 ≤ length s → On s notes notes 12 record { last = None; figure = None }
unfolding with_all broken
on-start s notes l = record {
  chunks = [];
  goes = ap (walk chunk_grammar start 12) (sym (slice_all 12 s));
  at-is = refl;
  within = l;
  any-is = refl;
  known = record {
    last-is = refl;
    last_small = tt;
    objects-is = refl;
    none_yet = λ e. (refl, refl);
    counts = record { objects_are = refl; textures_are = refl };
    noted = record { each_small = tt; are = λ r. put-none notes 0 };
  };
  same-long = refl;
}

framed : (s : List ℕ) (at id len : ℕ) → Tells chunk_header s at (length s) id len → Framed chunk_header (block_in chunk_header s at (length s))
framed s at id len t = record {
  header-whole = head_long chunk_header s at (length s) (omega arith) (omega (arith, t.fits));
  size-told = sym t.told_is ∙ t.len_is;
}

module _ (s notes₀ : List ℕ) {notes : List ℕ} (at : ℕ) (st : State) (i : On s notes₀ notes at st) where
  pub on-cut : at < length s → overrun chunk_header s at (length s) ≡ some (Overrun at) → whole s ≡ refused (Overrun at)
  on-cut l e =
      i.goes ∙ ap (with_all i.chunks) (overruns chunk_grammar (omega arith) s (before i.chunks) at (length s) l (omega arith) (Overrun at) e) ∙
      all-refused i.chunks (Overrun at)

  module _ (l : at < length s) (id len : ℕ) (t : Tells chunk_header s at (length s) id len) where
    pub on-refused : (r : Refusal) → chunk_grammar.look (before i.chunks) at (block_in chunk_header s at (length s)) ≡ refused r → whole s ≡ refused r
    on-refused r e =
        i.goes ∙ ap (with_all i.chunks) (refuses chunk_grammar (omega arith) s (before i.chunks) at (length s) l (omega arith) id len t r e) ∙ all-refused i.chunks r

    pub on-more : (next : State) {notes' : List ℕ} → NextIs s (before i.chunks) at (block_in chunk_header s at (length s)) (given i.chunks) notes₀ notes' next →
        length notes' ≡ length notes → On s notes₀ notes' (at + (8 + len)) next
    on-more next n same =
        let cs = i.chunks in
        let c = n.chunk in
        let b = block_in chunk_header s at (length s) in
        let q = subst (If (Is block ChunkRules (before cs) b)) n.taken (chunks_right.sound (before cs) at b (framed s at id len t)) in
        let z : chunk_size c ≡ 8 + len = ap size q.same_block ∙ block_size chunk_header s at (length s) id len (omega arith) t in
        let f = t.fits in
        let p = i.at-is in
        let a : before (cs ++ (c ∷ [])) ≡ after (before cs) c = after_snoc cinema cs c start in
        let g : given (cs ++ (c ∷ [])) ≡ given cs ++ cinema.gives (before cs) at c = records_snoc cinema cs c start 12 ∙ rw p in
        record {
          chunks = cs ++ (c ∷ []);
          goes = i.goes ∙ ap (with_all cs) (goes_on chunk_grammar (omega arith) s (before cs) at (length s) l (omega arith) id len t c n.taken) ∙
              all_snoc cs c (walk chunk_grammar (after (before cs) c) (at + (8 + len)) (slice (at + (8 + len)) (length s) s)) ∙ rw a;
          at-is = omega (arith, total_snoc cinema cs c);
          within = omega arith;
          any-is = ap (λ (x : Before). x.any) a ∙ any-after (before cs) (kind c) c.inside ∙ sym (ap not (ne_eqb (at + (8 + len)) 12 (λ (e : at + (8 + len) ≡ 12). omega arith)));
          known = rw (a, g) n.known;
          same-long = same ∙ i.same-long;
        }

  pub on-end : length s ≤ at → Accepts s notes₀ notes (figure_in st)
  unfolding broken
  on-end l = record {
    layout = i.chunks;
    walked = i.goes ∙ ap (with_all i.chunks) (at-end chunk_grammar (omega arith) s (before i.chunks) at (length s) (omega (arith, i.within))) ∙ all-accepted i.chunks;
    counts = i.known.counts;
    noted = i.known.noted;
  }
