-- The record of a mesh in the list is that of its chunk.
use mathlib.Core.Path.{◌≡◌, refl, sym, ap, ◌∙◌}
use mathlib.Core.Bool.{cond}
use mathlib.Core.List.{List, [], ◌∷◌, ◌++◌, append_assoc}
use mathlib.Core.Option.{some}
use Prim.Native.Nat.{ℕ, ◌+◌}
use native.Mathlib.Omega.{arith}
use lib.ListN.{length, get_elem?, length-append}
use Rattle.shared_words.specs.Lists.{All}
use Rattle.shared_flat.specs.Flat.{records}
use Rattle.cob_rules.specs.declared.Kind.{Kind}
use Rattle.cob_rules.specs.declared.Record.{Record}
use Rattle.cob_rules.specs.Kinds.{is_mesh, listed}
use Rattle.cob_rules.specs.Layout.{Chunk, kind, size, Layout, last_at}
use Rattle.cob_rules.specs.Gives.{record_of, end_record, one_if, caligari, list}
use Rattle.cob_meshes_rules.specs.Standing.{Standing, standing_from, standing}
use Rattle.cob_meshes_rules.specs.Theorems.{InList, RecordsTold}

elem_here : {A : Type 0} (xs : List A) (x : A) (ys : List A) (n : ℕ) → length xs ≡ n → get_elem? (xs ++ (x ∷ ys)) n ≡ some x
elem_here xs x ys n e = ap (get_elem? (xs ++ (x ∷ ys))) (sym e) ∙ go xs
  where
    go : (xs : List _) → get_elem? (xs ++ (x ∷ ys)) (length xs) ≡ some x
    go [] = refl
    go (y ∷ xs) = go xs

module _ (l : Layout) (end : List Record) where
  -- behind the records `pre`, of which there are n
  from : (cs seen : List Chunk) (o n : ℕ) (pre : List Record) → length pre ≡ n → pre ++ (records caligari seen o cs ++ end) ≡ list l → All (InList l) (standing_from o n cs)
  from [] seen o n pre e f = tt
  from (c ∷ cs) seen o n pre e f = go (kind c) f (from cs (c ∷ seen) (o + size c))
    where
      r : Record
      r = record_of seen o c

      recs : List Record
      recs = records caligari (c ∷ seen) (o + size c) cs

      More : Type 0
      More = (n' : ℕ) (pre' : List Record) → length pre' ≡ n' → pre' ++ (recs ++ end) ≡ list l → All (InList l) (standing_from (o + size c) n' cs)

      one_more : pre ++ ((r ∷ recs) ++ end) ≡ list l → More → All (InList l) (standing_from (o + size c) (n + 1) cs)
      one_more f more = more (n + 1) (pre ++ (r ∷ [])) (omega (arith, e, length-append pre (r ∷ []))) (append_assoc pre (r ∷ []) (recs ++ end) ∙ f)

      go : (k : Kind) → pre ++ ((one_if (listed k) r ++ recs) ++ end) ≡ list l → More →
          All (InList l) (one_if (is_mesh k) record { at = o; number = n; body = c.body } ++ standing_from (o + size c) (n + cond (listed k) 1 0) cs)
      go Kind.End f more = one_more f more
      go Kind.Grou f more = one_more f more
      go Kind.PolH f more = (record { found = r; is = ap (λ (x : List Record). get_elem? x n) (sym f) ∙ elem_here pre r (recs ++ end) n e; same-chunk = refl }, one_more f more)
      go Kind.Mat1 f more = one_more f more
      go Kind.Other f more = let z : n + 0 ≡ n = omega arith in rw z (more n pre e f)

pub records-told : RecordsTold
records-told l = from l (end_record (last_at l) l.last ∷ []) l.chunks [] 32 0 [] refl refl
