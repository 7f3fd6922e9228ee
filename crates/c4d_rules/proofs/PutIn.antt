-- Demand 3 for Cinema 4D files: the format does what crate shared_flat asks of one chunk. An unlisted chunk leaves behind only that
-- there is a chunk, which matters to PLTF alone.
use mathlib.Core.Path.{◌≡◌, refl, sym, ap, ◌∙◌, subst}
use mathlib.Core.Logic.{◌⊎◌, inl, inr}
use Prim.Native.Nat.{ℕ, ◌+◌, ◌≤◌}
use native.Mathlib.Omega.{arith}
use mathlib.Core.Bool.{Bool, true, false, cond, true≢false, false≢true}
use mathlib.Core.List.{List, [], ◌∷◌}
use mathlib.Core.Option.{Option, none}
use lib.Dec.{eqb}
use lib.ListN.{length, length-append}
use Rattle.shared_flat.specs.Flat.{Obeys, total}
use Rattle.shared_flat.specs.Put.{Mark, put, keep, without, with, puts, LawfulThere, Pairwise, Shifted, Harmless, PutOrTaken}
use Rattle.shared_flat.proofs.Put.{total-grows, pairwise_append, harmless_is_enough}
use Rattle.shared_words.specs.Lists.{All}
use Rattle.c4d_rules.specs.Blocks.{Block, size, block_bytes, all_bytes, itself}
use Rattle.c4d_rules.specs.Kinds.{Kind, Platform, Materials, Objects, Other, t_end, t_object}
use Rattle.c4d_rules.specs.Layout.{Inside, plain, subs, Chunk, kind, sub_chunks, inside_bytes, block, chunk_size, bytes}
use Rattle.c4d_rules.specs.Rules.{Open, so_far, object_id, after_object, Before, start, after_kind, after, is_in_order, InsideObeys, ChunkRules}
use Rattle.c4d_rules.specs.Gives.{Object, object_at, objects_from, objects_inside, cinema}
use Rattle.c4d_rules.specs.PutIn.{is_plain, Unlisted, is_platform, NotPlatform, BehindPlatform, SameObject}
use Rattle.c4d_rules.specs.Theorems.{PutIn, TakenOut}
use Rattle.c4d_rules.proofs.Verdict.{accepted_exactly, verdict-good}

-- ---- the objects of a chunk stand equally far from where it begins

length-all : {A : Type 0} (block : A → Block) (xs : List A) → length (all_bytes block xs) ≡ total (λ x. size (block x)) xs
length-all block [] = refl
length-all block (x ∷ xs) =
    omega (arith, length-append (block_bytes (block x)) (all_bytes block xs), length-append (block x).head (block x).body, length-all block xs)

-- x and x' stand equally far behind o and o', at most n
record Alike (n o o' x x' : ℕ) : Type 0 where
  far : ℕ
  within : far ≤ n
  old : x ≡ o + far
  new : x' ≡ o' + far

module _ (n o o' : ℕ) where
  abbrev Shift : Object → Object → Type 0
  Shift = Shifted (λ r. r.offset) SameObject n o o'

  ended_shifted : (x x' : ℕ) → Alike n o o' x x' → (held : Open) (q : Bool) →
      Pairwise Shift (cond q (object_at x (so_far held) ∷ []) []) (cond q (object_at x' (so_far held) ∷ []) [])
  ended_shifted x x' a held true =
      (record { far = a.far; within = a.within; old-at = a.old; new-at = a.new; shifted_same = record { combination-same = refl; materials_same = refl } }, tt)
  ended_shifted x x' a held false = tt

  either : (q : Bool) (x x' y y' : ℕ) → Alike n o o' x x' → Alike n o o' y y' → Alike n o o' (cond q y x) (cond q y' x')
  either true x x' y y' a c = c
  either false x x' y y' a c = a

  -- sub-chunks that begin at y and y', both `gone` bytes behind the chunk
  from_shifted : (bs : List Block) (x x' : ℕ) → Alike n o o' x x' → (held : Open) (gone y y' : ℕ) → y ≡ o + gone → y' ≡ o' + gone →
      gone + total size bs ≤ n → Pairwise Shift (objects_from x held y bs) (objects_from x' held y' bs)
  from_shifted [] x x' a held gone y y' g g' k = tt
  from_shifted (b ∷ bs) x x' a held gone y y' g g' k =
      pairwise_append Shift (cond (eqb (object_id b) t_end) (object_at x (so_far held) ∷ []) []) _ (cond (eqb (object_id b) t_end) (object_at x' (so_far held) ∷ []) []) _
      (ended_shifted x x' a held (eqb (object_id b) t_end))
      (from_shifted bs (cond (eqb (object_id b) t_object) y x) (cond (eqb (object_id b) t_object) y' x')
      (either (eqb (object_id b) t_object) x x' y y' a record { far = gone; within = omega arith; old = g; new = g' })
      (after_object held b) (gone + size b) (y + size b) (y' + size b) (omega arith) (omega arith) (omega arith))

subs-short : (i : Inside) → total size (sub_chunks i) ≤ length (inside_bytes i)
subs-short (plain rest) = omega arith
subs-short (subs bs) = omega (arith, length-all itself bs)

inside_shifted : (c : Chunk) (o o' : ℕ) (k : Kind) →
    Pairwise (Shift (chunk_size c) o o') (objects_inside (o + length c.head) k c.inside) (objects_inside (o' + length c.head) k c.inside)
inside_shifted c o o' Platform = tt
inside_shifted c o o' Materials = tt
inside_shifted c o o' Objects =
    let l = subs-short c.inside in
    from_shifted (chunk_size c) o o' (sub_chunks c.inside) (o + length c.head) (o' + length c.head)
    record { far = length c.head; within = omega arith; old = refl; new = refl } none
    (length c.head) (o + length c.head) (o' + length c.head) refl refl (omega arith)
inside_shifted c o o' Other = tt

-- ---- the states without and with the chunks put in

pub record Like (p p' : Before) (m : List (Mark Chunk)) : Type 0 where
  pub last_same : p'.last ≡ p.last
  pub objects-same : p'.objects ≡ p.objects
  -- where only one has a chunk before, no PLTF is to come
  pub any_same : (p'.any ≡ p.any) ⊎ All NotPlatform (without m)
  pub others : All (λ c. kind c ≡ Other) (puts m)
  pub spots : BehindPlatform m

-- behind any chunk there is one
pub any-after : (p : Before) (k : Kind) (i : Inside) → (after_kind p k i).any ≡ true
any-after p Platform i = refl
any-after p Materials i = refl
any-after p Objects i = refl
any-after p Other i = refl

-- after the first one put in, none is before PLTF
spots_behind : (m : List (Mark Chunk)) → All NotPlatform (without m) → BehindPlatform m
spots_behind [] h = tt
spots_behind (put c ∷ m) h = h
spots_behind (keep c ∷ m) h = spots_behind m h.1

module _ (p p' : Before) (c : Chunk) (m : List (Mark Chunk)) where
  like_put : Like p p' (put c ∷ m) → Like p (after p' c) m
  like_put l = rw l.others.0 record {
    last_same = l.last_same;
    objects-same = l.objects-same;
    any_same = inr l.spots;
    others = l.others.1;
    spots = spots_behind m l.spots;
  }

  last_after : p'.last ≡ p.last → (k : Kind) (i : Inside) → (after_kind p' k i).last ≡ (after_kind p k i).last
  last_after e Platform i = e
  last_after e Materials i = refl
  last_after e Objects i = e
  last_after e Other i = e

  objects-after : p'.objects ≡ p.objects → (k : Kind) (i : Inside) → (after_kind p' k i).objects ≡ (after_kind p k i).objects
  objects-after e Platform i = e
  objects-after e Materials i = e
  objects-after e Objects i = refl
  objects-after e Other i = e

  like_keep : Like p p' (keep c ∷ m) → Like (after p c) (after p' c) m
  like_keep l = record {
    last_same = last_after l.last_same (kind c) c.inside;
    objects-same = objects-after l.objects-same (kind c) c.inside;
    any_same = inl (any-after p' (kind c) c.inside ∙ sym (any-after p (kind c) c.inside));
    others = l.others;
    spots = l.spots;
  }

  order_same : Like p p' (keep c ∷ m) → is_in_order p' (kind c) ≡ is_in_order p (kind c)
  order_same l = go (kind c) l.any_same
    where
      go : (k : Kind) → (p'.any ≡ p.any) ⊎ ((is_platform k ≡ false) × All NotPlatform (without m)) → is_in_order p' k ≡ is_in_order p k
      go Platform (inl e) = rw e
      go Platform (inr h) = absurd (true≢false h.0)
      go Materials h = rw (l.last_same, l.objects-same)
      go Objects h = rw l.objects-same
      go Other h = refl

harmless : Harmless cinema ChunkRules (λ r. r.offset) SameObject Like
harmless = record {
  put-after = like_put;
  put-gives = λ p p' c m l o. rw l.others.0;
  keep-after = like_keep;
  keep-lawful = λ p p' c m l.
      let e = order_same p p' c m l in
      let same : Option ℕ → Type 0 = λ x. InsideObeys x (kind c) c.inside in (
        λ h. record { framed = h.framed; in_order = e ∙ h.in_order; inside-obeys = subst same (sym l.last_same) h.inside-obeys },
        λ h. record { framed = h.framed; in_order = sym e ∙ h.in_order; inside-obeys = subst same l.last_same h.inside-obeys },
      );
  keep-gives = λ p p' c m l h o o'. inside_shifted c o o' (kind c);
}

enough : PutOrTaken cinema ChunkRules (λ r. r.offset) SameObject Like
enough = harmless_is_enough Before Chunk Object cinema ChunkRules (λ r. r.offset) SameObject Like harmless

alike : (m : List (Mark Chunk)) → All (λ c. kind c ≡ Other) (puts m) → BehindPlatform m → Like start start m
alike m h b = record { last_same = refl; objects-same = refl; any_same = inl refl; others = h; spots = b }

-- ---- a chunk put in is lawful anywhere

plain-obeys : (last : Option ℕ) (i : Inside) → is_plain i ≡ true → InsideObeys last Other i
plain-obeys last (plain rest) h = tt
plain-obeys last (subs bs) h = absurd (false≢true h)

put-lawful : (p : Before) (c : Chunk) → Unlisted c → ChunkRules p c
put-lawful p c u = record { framed = u.framed; in_order = rw u.other; inside-obeys = rw u.other (plain-obeys p.last c.inside u.not_opened) }

lawful-there : (p : Before) (m : List (Mark Chunk)) → All Unlisted (puts m) → LawfulThere after ChunkRules p m
lawful-there p [] h = tt
lawful-there p (put c ∷ m) h = (put-lawful p c h.0, lawful-there (after p c) m h.1)
lawful-there p (keep c ∷ m) h = lawful-there (after p c) m h

all_other : (cs : List Chunk) → All Unlisted cs → All (λ c. kind c ≡ Other) cs
all_other [] h = tt
all_other (c ∷ cs) h = (h.0.other, all_other cs h.1)

-- ---- where PLTF stands in an accepted file, chunks behind which it would be are none of those taken out

not_platform : (p : Before) (k : Kind) → p.any ≡ true → is_in_order p k ≡ true → is_platform k ≡ false
not_platform p Platform a i = absurd (false≢true (rw a at i))
not_platform p Materials a i = refl
not_platform p Objects a i = refl
not_platform p Other a i = refl

none-later : (p : Before) (m : List (Mark Chunk)) → p.any ≡ true → Obeys after ChunkRules p (with m) → All NotPlatform (without m)
none-later p [] a h = tt
none-later p (put c ∷ m) a h = none-later (after p c) m (any-after p (kind c) c.inside) h.1
none-later p (keep c ∷ m) a h = (not_platform p (kind c) a h.0.in_order, none-later (after p c) m (any-after p (kind c) c.inside) h.1)

taken-behind : (p : Before) (m : List (Mark Chunk)) → Obeys after ChunkRules p (with m) → BehindPlatform m
taken-behind p [] h = tt
taken-behind p (put c ∷ m) h = none-later (after p c) m (any-after p (kind c) c.inside) h.1
taken-behind p (keep c ∷ m) h = taken-behind (after p c) m h.1

-- ---- the theorems

pub put_in_lem : PutIn
put_in_lem m s e h n =
    let g = (accepted_exactly s (without m)).0 e in
    let l = alike m (all_other (puts m) h.each) h.spots in (
      verdict-good (bytes (with m)) (with m) record {
        is = refl;
        within-limit = n;
        chunks = enough.put_in_lem start start m l (lawful-there start m h.each) g.chunks;
      },
      enough.records-moved start start 12 m l g.chunks,
    )

pub taken_out : TakenOut
taken_out m s e h =
    let g = (accepted_exactly s (with m)).0 e in
    let l = alike m h (taken-behind start m g.chunks) in
    let i = ap length g.is in
    let w = g.within-limit in
    let r = enough.taken_out start start m l g.chunks in (
      verdict-good (bytes (without m)) (without m) record {
        is = refl;
        within-limit = omega (arith, length-all block (with m), length-all block (without m), total-grows chunk_size m);
        chunks = r;
      },
      enough.records-moved start start 12 m l r,
    )
