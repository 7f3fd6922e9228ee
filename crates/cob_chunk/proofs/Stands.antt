-- A chunk of a layout where it stands in a file.
use mathlib.Core.Path.{◌≡◌, refl, sym, ap, ◌∙◌}
use Prim.Native.Nat.{ℕ, ◌+◌, ◌-◌, ◌<◌, ◌≤◌}
use native.Mathlib.Omega.{arith}
use mathlib.Core.List.{List, [], ◌∷◌, ◌++◌, append_assoc}
use lib.Dec.{leb}
use lib.ListN.{length, take, drop, length-append, length-drop}
use lib.Seq.{drop-drop, drop_at, take_at}
use borrow.Author.Tests.{le-leb}
use Rattle.shared_words.specs.Bytes.{negative}
use Rattle.shared_words.proofs.Bools.{or_else}
use Rattle.cob_rules.specs.Layout.{Chunk, size_field, size, chunk_bytes}
use Rattle.cob_rules.specs.Rules.{Lawful}
use Rattle.cob_rules.specs.Walk.{chunk_at}
use Rattle.cob_rules.proofs.Complete.{size-told, chunk-found, length-here}
use Rattle.cob_chunk.specs.Chunks.{chunk_in, Stated}

module _ (s : List ℕ) (at : ℕ) (c : Chunk) (more : List ℕ) (e : drop at s ≡ chunk_bytes c ++ more) (h : Lawful c) (i : at ≤ length s) where
  pub chunk-is : chunk_in s at ≡ c
  chunk-is = ap chunk_at e ∙ chunk-found c h more

  pub long : length s ≡ at + size c + length more
  long = omega (arith, length-drop at s, ap length e, length-here c h more, h.header-whole)

  pub whole : at + 20 ≤ length s
  whole = omega (arith, long, h.header-whole)

  pub fits : at + size c ≤ length s
  fits = omega (arith, long)

  pub behind : drop (at + size c) s ≡ more
  behind = sym (drop-drop (size c) at s) ∙ ap (drop (size c)) e ∙ drop_at (chunk_bytes c) more (size c) (length-append c.head c.body)

  pub stated : Stated s at
  stated = record {
    header = whole;
    body = rw chunk-is (or_else (negative 4 (size_field c)) (leb (20 + size_field c) (length (drop at s)))
        (λ n. le-leb (20 + size_field c) (length (drop at s)) (omega (arith, size-told c h n, length-drop at s, long, h.header-whole))));
  }

  -- its body
  pub body_is : take (size c - 20) (drop (at + 20) s) ≡ c.body
  body_is =
      let d : drop (at + 20) s ≡ c.body ++ more =
      sym (drop-drop 20 at s) ∙ ap (drop 20) (e ∙ append_assoc c.head c.body more) ∙ drop_at c.head (c.body ++ more) 20 h.header-whole in
      rw d (take_at c.body more (size c - 20) (omega (arith, h.header-whole)))

-- ---- the next of some chunks

pub record Next (left : List Chunk) : Type 0 where
  pub chunk : Chunk
  pub rest : List Chunk
  pub is : left ≡ chunk ∷ rest

pub some_next : (left : List Chunk) → 0 < length left → Next left
some_next [] l = absurd (omega arith)
some_next (c ∷ rest) l = record { chunk = c; rest = rest; is = refl }
