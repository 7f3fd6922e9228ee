-- A pass over the chunks of an accepted file: what stands at an offset, and what is behind it.
use mathlib.Core.Path.{◌≡◌, refl, sym, ap, subst, ◌∙◌}
use Prim.Native.Nat.{ℕ, ◌+◌, ◌-◌, ◌≤◌}
use native.Mathlib.Omega.{arith}
use mathlib.Core.Bool.{true, false, true≢false}
use mathlib.Core.List.{List, [], ◌∷◌, ◌++◌, append_assoc, append-nil}
use lib.ListN.{length, take, drop}
use Rattle.cob_rules.specs.declared.Kind.{Kind}
use Rattle.cob_rules.specs.Kinds.{is_end, is_mesh}
use Rattle.cob_rules.specs.Body.{exact}
use Rattle.cob_rules.specs.Layout.{Chunk, kind, size, Layout, chunk_bytes, all_bytes}
use Rattle.cob_rules.specs.Rules.{AllPlaced, Meets}
use Rattle.cob_rules.proofs.Verdict.{accepted_exactly}
use Rattle.cob_chunk.specs.Chunks.{chunk_in, Stated}
use Rattle.cob_chunk.proofs.Stands.{chunk-is, whole, fits, behind, stated, body_is}
use Rattle.cob_chunk.proofs.Judged.{mesh-kind}
use Rattle.cob_tables.specs.Asked.{Readable, body_in, Stands}

-- the chunks `left` are left from an offset on, after the chunks `seen`
pub record Passing (s : List ℕ) (g : Readable s) (at : ℕ) (left : List Chunk) : Type 0 where
  pub seen : List Chunk
  pub here : drop at s ≡ all_bytes left ++ chunk_bytes g.layout.last
  pub inside : at ≤ length s
  pub lawful-left : AllPlaced seen left

pub meets : {s : List ℕ} (g : Readable s) → Meets s g.layout
meets {s} g = (accepted_exactly s g.layout).0 g.is

pub passing_all : (s : List ℕ) (g : Readable s) → Passing s g 32 g.layout.chunks
passing_all s g = record {
  seen = [];
  here = ap (drop 32) (sym (meets g).is);
  inside = omega (arith, ap length (meets g).is);
  lawful-left = (meets g).chunks;
}

-- what stands at the offset: a chunk before END, or END
data Standing (s : List ℕ) (l : Layout) (seen left : List Chunk) (at : ℕ) : Type 0 where
  before : (c : Chunk) (rest : List Chunk) → left ≡ c ∷ rest → drop at s ≡ chunk_bytes c ++ (all_bytes rest ++ chunk_bytes l.last) → AllPlaced seen (c ∷ rest) →
      Standing s l seen left at
  last : left ≡ [] → drop at s ≡ chunk_bytes l.last ++ [] → Standing s l seen left at

module _ {s : List ℕ} {g : Readable s} {at : ℕ} {left : List Chunk} (r : Passing s g at left) where
  abbrev l : Layout
  l = g.layout

  standing : Standing s l r.seen left at
  standing = go left refl
    where
      go : (x : List Chunk) → left ≡ x → Standing s l r.seen left at
      go [] e = last e (r.here ∙ ap (λ (x : List Chunk). all_bytes x ++ chunk_bytes l.last) e ∙ sym (append-nil (chunk_bytes l.last)))
      go (c ∷ rest) e =
          before c rest e (r.here ∙ ap (λ (x : List Chunk). all_bytes x ++ chunk_bytes l.last) e ∙ append_assoc (chunk_bytes c) (all_bytes rest) (chunk_bytes l.last))
          (subst (AllPlaced r.seen) e r.lawful-left)

  pub head_whole : at + 20 ≤ length s
  head_whole = go standing
    where
      go : Standing s l r.seen left at → at + 20 ≤ length s
      go (before c rest e h p) = whole s at c (all_bytes rest ++ chunk_bytes l.last) h p.0.lawful r.inside
      go (last e h) = whole s at l.last [] h (meets g).last r.inside

  -- ---- at END

  pub no_more : is_end (kind (chunk_in s at)) ≡ true → left ≡ []
  no_more t = go standing
    where
      go : Standing s l r.seen left at → left ≡ []
      go (before c rest e h p) =
          let q = ap (λ (x : Chunk). is_end (kind x)) (chunk-is s at c (all_bytes rest ++ chunk_bytes l.last) h p.0.lawful r.inside) in
          absurd (true≢false (sym t ∙ q ∙ p.0.not_end))
      go (last e h) = e

  -- ---- at a chunk before END

  module _ (t : is_end (kind (chunk_in s at)) ≡ false) where
    -- the chunk, its bytes and its rules
    pub record Here : Type 0 where
      pub chunk : Chunk
      pub rest : List Chunk
      pub left_is : left ≡ chunk ∷ rest
      pub bytes_are : drop at s ≡ chunk_bytes chunk ++ (all_bytes rest ++ chunk_bytes l.last)
      pub placed : AllPlaced r.seen (chunk ∷ rest)

    pub there : Here
    there = go standing
      where
        go : Standing s l r.seen left at → Here
        go (before c rest e h p) = record { chunk = c; rest = rest; left_is = e; bytes_are = h; placed = p }
        go (last e h) =
            let q = ap (λ (x : Chunk). is_end (kind x)) (chunk-is s at l.last [] h (meets g).last r.inside) in
            absurd (true≢false (sym (meets g).ends ∙ sym q ∙ t))

    abbrev pub c : Chunk
    c = there.chunk

    abbrev more : List ℕ
    more = all_bytes there.rest ++ chunk_bytes l.last

    pub here-is : chunk_in s at ≡ c
    here-is = chunk-is s at c more there.bytes_are there.placed.0.lawful r.inside

    pub here-stated : Stated s at
    here-stated = stated s at c more there.bytes_are there.placed.0.lawful r.inside

    pub here-fits : at + size (chunk_in s at) ≤ length s
    here-fits = rw here-is (fits s at c more there.bytes_are there.placed.0.lawful r.inside)

    pub here-long : at + 20 ≤ at + size (chunk_in s at)
    here-long = rw here-is (omega (arith, there.placed.0.lawful.header-whole))

    -- behind it
    module _ (next : ℕ) (f : next ≡ at + size (chunk_in s at)) where
      pub passing_on : Passing s g next there.rest
      passing_on = subst (λ (k : ℕ). Passing s g k there.rest) (ap (λ (x : Chunk). at + size x) (sym here-is) ∙ sym f) record {
        seen = c ∷ r.seen;
        here = behind s at c more there.bytes_are there.placed.0.lawful r.inside;
        inside = fits s at c more there.bytes_are there.placed.0.lawful r.inside;
        lawful-left = there.placed.1;
      }

      -- its body
      pub body-here : body_in s (at + 20) next ≡ c.body
      body-here =
          let d : next - (at + 20) ≡ size c - 20 = omega (arith, f, ap size here-is) in
          ap (λ (k : ℕ). take k (drop (at + 20) s)) d ∙ body_is s at c more there.bytes_are there.placed.0.lawful r.inside

      pub mesh-stands : is_mesh (kind c) ≡ true → Stands s (at + 20) next
      mesh-stands m = record {
        rises = omega (arith, f, here-long);
        inside = omega (arith, f, here-fits);
        exact-is = rw body-here (subst (λ (k : Kind). exact k c.body ≡ true) (mesh-kind (kind c) m) there.placed.0.lawful.body-exact);
      }
