-- The walk's equations as a loop meets them, for every grammar: at a position before the end, and at the end.
use mathlib.Core.Path.{◌≡◌, sym, ap, ◌∙◌}
use Prim.Native.Nat.{ℕ, ◌+◌, ◌<◌, ◌≤◌}
use native.Mathlib.Omega.{arith}
use mathlib.Core.List.{List, [], ◌∷◌}
use mathlib.Core.Option.{some}
use lib.ListN.{length, take, drop}
use lib.Seq.{slice, slice_empty, length-slice, length-take-le}
use Rattle.shared_words.specs.declared.Refusal.{Refusal}
use Rattle.shared_words.specs.Conditions.{broken, refused, accepted, unless}
use Rattle.shared_numbers.proofs.Slices.{drop-slice, take-slice}
use Rattle.c4d_rules.specs.Blocks.{Header, width, size}
use Rattle.c4d_rules.specs.Read.{Grammar, block_at, with_more, step, walk}
use Rattle.c4d_rules.proofs.Fuel.{walk_nil, walk_cons}
use Rattle.c4d_blocks.specs.Headers.{block_in, overrun, Tells}

pub head_long : (h : Header) (s : List ℕ) (at to : ℕ) → to ≤ length s → at + width h ≤ to → length (block_in h s at to).head ≡ width h
unfolding block_at
head_long h s at to m l = length-take-le (width h) (slice at to s) (omega (arith, length-slice at to s m))

pub block_size : (h : Header) (s : List ℕ) (at to id len : ℕ) → to ≤ length s → Tells h s at to id len → size (block_in h s at to) ≡ width h + len
block_size h s at to id len m t = omega (arith, head_long h s at to m (omega (arith, t.fits)), t.len_is)

-- what is behind the header
pub body_is : (h : Header) (s : List ℕ) (at to id len : ℕ) → Tells h s at to id len → (block_in h s at to).body ≡ slice (at + width h) (at + width h + len) s
unfolding block_at
body_is h s at to id len t =
    let f = t.fits in
    ap (λ (k : ℕ). take k (drop (width h) (slice at to s))) (sym t.told_is) ∙ ap (take len) (drop-slice (width h) at to s) ∙
    take-slice len (at + width h) to s (omega arith)

module _ {S A : Type 0} (G : Grammar S A) (wide : 1 ≤ width G.header) where
  walk-some : (st : S) (o : ℕ) (bs : List ℕ) → 1 ≤ length bs → walk G st o bs ≡ step G (walk G) st o bs (block_at G.header bs)
  walk-some st o [] l = absurd (omega arith)
  walk-some st o (x ∷ bs) l = walk_cons G wide st o x bs

  pub at-end : (s : List ℕ) (st : S) (at to : ℕ) → at ≡ to → walk G st at (slice at to s) ≡ unless (broken (G.close st)) (accepted [])
  at-end s st at to e = rw (e, slice_empty to s) (walk_nil G wide st to)

  module _ (s : List ℕ) (st : S) (at to : ℕ) (l : at < to) (m : to ≤ length s) where
    here : walk G st at (slice at to s) ≡ step G (walk G) st at (slice at to s) (block_in G.header s at to)
    here = walk-some st at (slice at to s) (omega (arith, length-slice at to s m))

    pub overruns : (r : Refusal) → overrun G.header s at to ≡ some r → walk G st at (slice at to s) ≡ refused r
    overruns r e = here ∙ rw e

    module _ (id len : ℕ) (t : Tells G.header s at to id len) where
      pub refuses : (r : Refusal) → G.look st at (block_in G.header s at to) ≡ refused r → walk G st at (slice at to s) ≡ refused r
      refuses r e = here ∙ rw (t.whole, e)

      pub goes_on : (a : A) → G.look st at (block_in G.header s at to) ≡ accepted a →
          walk G st at (slice at to s) ≡ with_more a (walk G (G.after st a) (at + (width G.header + len)) (slice (at + (width G.header + len)) to s))
      goes_on a e =
          let z = block_size G.header s at to id len m t in
          here ∙ rw (t.whole, e, z, drop-slice (width G.header + len) at to s)
