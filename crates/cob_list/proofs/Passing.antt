-- The pass over an accepted file: what is known before each chunk, and what each leaves.
use mathlib.Core.Path.{◌≡◌, refl, sym, ap, subst, ◌∙◌}
use Prim.Native.Nat.{ℕ, suc, ◌+◌, ◌-◌, ◌*◌, ◌<◌, ◌≤◌}
use native.Mathlib.Omega.{arith}
use mathlib.Core.Bool.{true, false}
use mathlib.Core.List.{List, [], ◌∷◌, ◌++◌, append_assoc, append-nil}
use lib.ListN.{length, drop, get_or, set, length-append}
use Rattle.shared_words.specs.Effects.{filled}
use Rattle.shared_numbers.specs.Put.{placed, Put}
use Rattle.shared_numbers.proofs.Put.{put-none, put_front}
use Rattle.shared_flat.specs.Flat.{after_all, records}
use Rattle.shared_words.specs.Lists.{total}
use Rattle.cob_rules.specs.declared.Record.{Record}
use Rattle.cob_rules.specs.Kinds.{listed}
use Rattle.cob_rules.specs.Layout.{Chunk, kind, parent, size, Layout, chunk_bytes, all_bytes, last_at}
use Rattle.cob_rules.specs.Rules.{remember, AllPlaced, Meets}
use Rattle.cob_rules.specs.Gives.{record_of, end_record, one_if, caligari, list}
use Rattle.cob_rules.specs.Calls.{record_bytes}
use Rattle.cob_rules.specs.Theorems.{seen_in}
use Rattle.cob_seen.specs.Tree.{Represents}
use Rattle.cob_chunk.specs.Chunks.{chunk_in, Stated}
use Rattle.cob_chunk.proofs.Stands.{chunk-is, long, whole, fits, behind, stated, Next, some_next}
use Rattle.cob_step.specs.Steps.{Holds}
use Rattle.cob_list.specs.Filling.{top_for, record_with, rest_record, EndPut}
use Rattle.cob_list.proofs.Owned.{Owns, Topped, topped}
use Rattle.cob_list.proofs.Rows.{length_encoded, put-more}

-- the chunks `seen` have been passed, and `left` are left from an offset on; the records `done` stand in the row
pub record Passing (s : List ℕ) (l : Layout) (count : ℕ) (ids up row₀ row : List ℕ) (at to k : ℕ) : Type 0 where
  pub seen : List Chunk
  pub left : List Chunk
  pub here : drop at s ≡ all_bytes left ++ chunk_bytes l.last
  pub inside : at ≤ length s
  pub offset : at + total size left ≡ last_at l
  pub lawful-left : AllPlaced seen left
  pub node : k ≡ suc (length seen)
  pub nodes : count ≡ suc (length seen + length left)
  pub holds : Holds ids (after_all remember seen left)
  pub owns : Owns ids up seen
  pub done : List Record
  pub split : done ++ records caligari seen at left ≡ records caligari [] 32 l.chunks
  pub put : Put row₀ 0 (record_bytes.encode done) row to

pub starts : {s : List ℕ} {l : Layout} {count : ℕ} {ids : List ℕ} (up row : List ℕ) → Meets s l → count ≡ suc (length l.chunks) → Holds ids (seen_in l) → Passing s l count ids up row row 32 0 1
starts {s} {l} up row m n h = record {
  seen = [];
  left = l.chunks;
  here = ap (drop 32) (sym m.is);
  inside = omega (arith, ap length m.is);
  offset = refl;
  lawful-left = m.chunks;
  node = refl;
  nodes = n ∙ omega arith;
  holds = h;
  owns = tt;
  done = [];
  split = refl;
  put = put-none row 0;
}

-- identifiers of the first chunks
holds-front : (ids : List ℕ) (left seen : List Chunk) → Holds ids (after_all remember seen left) → Holds ids seen
holds-front ids [] seen h = h
holds-front ids (c ∷ left) seen h = (holds-front ids left (c ∷ seen) h).1

-- ---- the next chunk

module _ {s : List ℕ} {l : Layout} {count : ℕ} {ids up row₀ row : List ℕ} {at to k : ℕ} (r : Passing s l count ids up row₀ row at to k) where
  -- room for one record more
  pub room : 24 * length (list l) ≤ length row₀ → length row ≡ length row₀ → to + 24 ≤ length row
  room h e =
      let d = ap length r.split in
      omega (
        arith,
        r.put.ends,
        length_encoded r.done,
        length-append r.done (records caligari r.seen at r.left),
        length-append (records caligari [] 32 l.chunks) (end_record (last_at l) l.last ∷ []),
      )

  module _ (b : k < count) where
    pub next : Next r.left
    next = some_next r.left (omega (arith, r.node, r.nodes))

    abbrev c : Chunk
    c = next.chunk

    abbrev more : List ℕ
    more = all_bytes next.rest ++ chunk_bytes l.last

    bytes-here : drop at s ≡ chunk_bytes c ++ more
    bytes-here =
        r.here ∙ ap (λ (x : List Chunk). all_bytes x ++ chunk_bytes l.last) next.is ∙ append_assoc (chunk_bytes c) (all_bytes next.rest) (chunk_bytes l.last)

    placed-all : AllPlaced r.seen (c ∷ next.rest)
    placed-all = subst (AllPlaced r.seen) next.is r.lawful-left

    pub here-is : chunk_in s at ≡ c
    here-is = chunk-is s at c more bytes-here placed-all.0.lawful r.inside

    pub here-stated : Stated s at
    here-stated = stated s at c more bytes-here placed-all.0.lawful r.inside

    pub here-fits : at + size (chunk_in s at) ≤ length s
    here-fits = rw here-is (fits s at c more bytes-here placed-all.0.lawful r.inside)

    holds-here : Holds ids (c ∷ r.seen)
    holds-here = holds-front ids next.rest (c ∷ r.seen) (subst (λ (x : List Chunk). Holds ids (after_all remember r.seen x)) next.is r.holds)

    -- the topmost owner
    pub here-topped : {links : List ℕ} → Represents ids links count → count ≤ length up → (t : ℕ) → t ≡ top_for ids count up k (parent (chunk_in s at)) →
        Topped ids up r.seen c t
    here-topped tree m t e =
        let f : t ≡ top_for ids count up (suc (length r.seen)) (parent c) =
        e ∙ ap (λ (n : ℕ). top_for ids count up n (parent (chunk_in s at))) r.node ∙ ap (λ (x : Chunk). top_for ids count up (suc (length r.seen)) (parent x)) here-is in
        subst (Topped ids up r.seen c) (sym f) (topped tree up r.seen c holds-here r.owns placed-all.0.owner_known_lem (omega (arith, r.node, b)) m)

    -- one chunk passed: its record, if it is listed, stands in the row
    module _ {t : ℕ} (h : Topped ids up r.seen c t) where
      split-more : (done : List Record) → done ≡ r.done ++ one_if (listed (kind c)) (record_of r.seen at c) →
          done ++ records caligari (c ∷ r.seen) (at + size c) next.rest ≡ records caligari [] 32 l.chunks
      split-more done e =
          rw e (append_assoc r.done (one_if (listed (kind c)) (record_of r.seen at c)) (records caligari (c ∷ r.seen) (at + size c) next.rest) ∙
          ap (λ (x : List Chunk). r.done ++ records caligari r.seen at x) (sym next.is) ∙ r.split)

      pub passed : (done : List Record) (row' : List ℕ) (to' : ℕ) → done ≡ r.done ++ one_if (listed (kind c)) (record_of r.seen at c) →
          Put row₀ 0 (record_bytes.encode done) row' to' → Passing s l count ids (set up k t) row₀ row' (at + size (chunk_in s at)) to' (k + 1)
      passed done row' to' e p = subst (λ (n : ℕ). Passing s l count ids (set up k t) row₀ row' n to' (k + 1)) (ap (λ (x : Chunk). at + size x) (sym here-is)) record {
        seen = c ∷ r.seen;
        left = next.rest;
        here = behind s at c more bytes-here placed-all.0.lawful r.inside;
        inside = fits s at c more bytes-here placed-all.0.lawful r.inside;
        offset = omega (arith, ap (total size) next.is, r.offset);
        lawful-left = placed-all.1;
        node = omega (arith, r.node);
        nodes = omega (arith, r.nodes, ap length next.is);
        holds = subst (λ (x : List Chunk). Holds ids (after_all remember r.seen x)) next.is r.holds;
        owns = subst (λ (n : ℕ). Owns ids (set up n t) (c ∷ r.seen)) (sym r.node) h.owns;
        done = done;
        split = split-more done e;
        put = p;
      }

      pub skipped : listed (kind (chunk_in s at)) ≡ false → Passing s l count ids (set up k t) row₀ row (at + size (chunk_in s at)) to (k + 1)
      skipped n =
          let e : listed (kind c) ≡ false = ap (λ (x : Chunk). listed (kind x)) (sym here-is) ∙ n in
          passed r.done row to (rw e (sym (append-nil r.done))) r.put

      pub recorded : listed (kind (chunk_in s at)) ≡ true → {row' : List ℕ} {to' : ℕ} →
          Put row to (record_bytes.encode (record_with (chunk_in s at) at (size (chunk_in s at)) (get_or ids t 0) ∷ [])) row' to' →
          Passing s l count ids (set up k t) row₀ row' (at + size (chunk_in s at)) to' (k + 1)
      recorded n {row'} {to'} p =
          let e : listed (kind c) ≡ true = ap (λ (x : Chunk). listed (kind x)) (sym here-is) ∙ n in
          let q : record_with (chunk_in s at) at (size (chunk_in s at)) (get_or ids t 0) ≡ record_of r.seen at c = rw (here-is, h.owner_is) in
          passed (r.done ++ (record_of r.seen at c ∷ [])) row' to' (rw e)
          (put-more r.done (record_of r.seen at c) r.put (subst (λ (x : Record). Put row to (record_bytes.encode (x ∷ [])) row' to') q p))

  -- ---- END

  module _ (m : Meets s l) (b : count ≤ k) where
    none_left : r.left ≡ []
    none_left = go r.left (omega (arith, r.node, r.nodes))
      where
        go : (x : List Chunk) → length x ≡ 0 → x ≡ []
        go [] e = refl
        go (y ∷ x) e = absurd (omega arith)

    bytes-end : drop at s ≡ chunk_bytes l.last ++ []
    bytes-end = r.here ∙ ap (λ (x : List Chunk). all_bytes x ++ chunk_bytes l.last) none_left ∙ sym (append-nil (chunk_bytes l.last))

    pub end_whole : at + 20 ≤ length s
    end_whole = whole s at l.last [] bytes-end m.last r.inside

    end_is : rest_record s at ≡ end_record (last_at l) l.last
    end_is =
        let o : at ≡ last_at l = omega (arith, r.offset, ap (total size) none_left) in
        let n : length s - at ≡ size l.last = omega (arith, long s at l.last [] bytes-end m.last r.inside) in
        rw (chunk-is s at l.last [] bytes-end m.last r.inside, n, o)

    all_done : r.done ≡ records caligari [] 32 l.chunks
    all_done = sym (ap (λ (x : List Chunk). r.done ++ records caligari r.seen at x) none_left ∙ append-nil r.done) ∙ r.split

    pub filled-all : {row' : List ℕ} → EndPut s at row to row' → row' ≡ filled (record_bytes.encode (list l)) row₀
    filled-all {row'} p =
        let e : Put row to (record_bytes.encode (end_record (last_at l) l.last ∷ [])) row' (to + 24) =
        record { is = p.is ∙ ap (λ (x : Record). placed row to (record_bytes.encode (x ∷ []))) end_is; ends = refl } in
        put_front (put-more r.done (end_record (last_at l) l.last) r.put e) ∙
        ap (λ (x : List Record). filled (record_bytes.encode (x ++ (end_record (last_at l) l.last ∷ []))) row₀) all_done
