-- Demand 3 for Caligari files: the format does what crate shared_flat asks of one chunk. A chunk put in adds an identifier that nobody has or
-- names, so that each chunk that stays finds the same identifiers used and the same owners.
use mathlib.Core.Path.{◌≡◌, refl, sym, ap, ◌∙◌}
use Prim.Native.Nat.{ℕ, ◌+◌, ◌*◌, ◌^◌, ◌≤◌}
use native.Mathlib.Omega.{arith}
use mathlib.Core.Bool.{Bool, true, false, not, ◌&&◌, ◌||◌, cond, true≢false}
use mathlib.Core.List.{List, [], ◌∷◌}
use lib.Dec.{eqb}
use lib.ListN.{length, length-append}
use borrow.Author.Tests.{eq-eqb, ne_eqb, lt-leb}
use Rattle.shared_words.specs.Refusals.{limit}
use Rattle.shared_words.specs.Bytes.{negative}
use Rattle.cob_rules.specs.declared.Kind.{Kind}
use Rattle.cob_rules.specs.declared.Kind.TheVariants.{End, Grou, PolH, Mat1, Other}
use Rattle.shared_words.specs.Lists.{All, Pairwise, total}
use Rattle.shared_words.proofs.Bools.{or_else}
use Rattle.shared_flat.specs.Flat.{records}
use Rattle.shared_flat.specs.Put.{Mark, put, keep, without, with, puts, LawfulThere, pieces, Moved, Shifted, Harmless, PutOrTaken}
use Rattle.shared_flat.proofs.Put.{total-grows, harmless_is_enough}
use Rattle.shared_words.proofs.Lists.{pairwise_append}
use Rattle.cob_rules.specs.declared.Record.{Record}
use Rattle.cob_rules.specs.Kinds.{listed, is_mesh}
use Rattle.cob_rules.specs.Body.{behind_all}
use Rattle.cob_rules.specs.Layout.{Chunk, kind, identifier, parent, size_field, size, Layout, chunk_bytes, all_bytes, bytes, last_at}
use Rattle.cob_rules.specs.Rules.{used, owner_known, remember, Lawful, Placed, AllPlaced}
use Rattle.cob_rules.specs.Gives.{one_up, topmost, record_of, end_record, one_if, caligari, meshes_of}
use Rattle.cob_rules.specs.PutIn.{ending, Puttable, Different, SameRecord, Unchanged}
use Rattle.cob_rules.specs.Theorems.{PutIn, TakenOut}
use Rattle.cob_rules.proofs.Verdict.{accepted_exactly, verdict-good}
use Rattle.cob_rules.proofs.Apart.{Apart, used-first, used-later, unused_more, swap, apart-put, apart-taken}

-- ---- the states without and with the chunks put in, whose identifiers P tells

pub record Like (P : ℕ → Bool) (seen seen' : List Chunk) (m : List (Mark Chunk)) : Type 0 where
  pub used-same : (x : ℕ) → P x ≡ false → used x seen' ≡ used x seen
  pub top-same : (x : ℕ) → P x ≡ false → topmost seen' x ≡ topmost seen x
  pub apart : Apart P m

module _ (P : ℕ → Bool) (seen seen' : List Chunk) (c : Chunk) (m : List (Mark Chunk)) where
  -- what is not put in is not the chunk put in
  not_this : P (identifier c) ≡ true → (x : ℕ) → P x ≡ false → eqb (identifier c) x ≡ false
  not_this t x f = ne_eqb (identifier c) x λ e. true≢false (sym t ∙ (ap P e ∙ f))

  like_put : Like P seen seen' (put c ∷ m) → Like P seen (c ∷ seen') m
  unfolding topmost
  like_put l = record {
    used-same = λ x f. rw (not_this l.apart.0 x f) (l.used-same x f);
    top-same = λ x f. rw (not_this l.apart.0 x f) (l.top-same x f);
    apart = l.apart.2;
  }

  -- one step up from a chunk that stays
  up_kept : P (parent c) ≡ false → (x : ℕ) → P x ≡ false → P (one_up c x) ≡ false
  up_kept p x f = go (eqb (identifier c) x && not (eqb (parent c) 0))
    where
      go : (e : Bool) → P (cond e (parent c) x) ≡ false
      go true = p
      go false = f

  like_keep : Like P seen seen' (keep c ∷ m) → Like P (c ∷ seen) (c ∷ seen') m
  unfolding topmost
  like_keep l = record {
    used-same = λ x f. ap (λ (b : Bool). eqb (identifier c) x || b) (l.used-same x f);
    top-same = λ x f. l.top-same (one_up c x) (up_kept l.apart.1 x f);
    apart = l.apart.2;
  }

  known_same : Like P seen seen' (keep c ∷ m) → owner_known seen' c ≡ owner_known seen c
  known_same l = rw (l.used-same (identifier c) l.apart.0, l.used-same (parent c) l.apart.1)

  record_same : Like P seen seen' (keep c ∷ m) → (o o' : ℕ) → SameRecord (record_of seen o c) (record_of seen' o' c)
  record_same l o o' =
      record { kind-same = refl; length-same = refl; identifier-same = refl; parent-same = refl; owner_same = (like_keep l).top-same (identifier c) l.apart.0 }

  gives_same : (o o' : ℕ) → SameRecord (record_of seen o c) (record_of seen' o' c) → (b : Bool) →
      Pairwise (Shifted (λ r. r.offset) SameRecord (size c) o o') (one_if b (record_of seen o c)) (one_if b (record_of seen' o' c))
  gives_same o o' h true = (record { far = 0; within = omega arith; old-at = omega arith; new-at = omega arith; shifted_same = h }, tt)
  gives_same o o' h false = tt

harmless : (P : ℕ → Bool) → Harmless caligari Placed (λ r. r.offset) SameRecord (Like P)
harmless P = record {
  put-after = like_put P;
  put-gives = λ s s' c m l o. rw l.apart.1;
  keep-after = like_keep P;
  keep-lawful = λ s s' c m l.
      let e = known_same P s s' c m l in (
        λ h. record { lawful = h.lawful; not_end = h.not_end; owner_known_lem = e ∙ h.owner_known_lem },
        λ h. record { lawful = h.lawful; not_end = h.not_end; owner_known_lem = sym e ∙ h.owner_known_lem },
      );
  keep-gives = λ s s' c m l g o o'. gives_same P s s' c m o o' (record_same P s s' c m l o o') (listed (kind c));
}

enough : (P : ℕ → Bool) → PutOrTaken caligari Placed (λ r. r.offset) SameRecord (Like P)
enough P = harmless_is_enough (List Chunk) Chunk Record caligari Placed (λ r. r.offset) SameRecord (Like P) (harmless P)

-- nothing seen yet
alike : (m : List (Mark Chunk)) → Apart (λ x. used x (puts m)) m → Like (λ x. used x (puts m)) [] [] m
alike m a = record { used-same = λ x f. refl; top-same = λ x f. refl; apart = a }

-- ---- a chunk put in is lawful where it stands

other : (k : Kind) → listed k ≡ false → k ≡ Other
other End h = absurd (true≢false h)
other Grou h = absurd (true≢false h)
other PolH h = absurd (true≢false h)
other Mat1 h = absurd (true≢false h)
other Other h = refl

module _ (c : Chunk) (p : Puttable c) (short : length c.body ≤ limit) where
  is_other : kind c ≡ Other
  is_other = other (kind c) p.unlisted

  put-lawful : Lawful c
  unfolding behind_all
  put-lawful =
      let n : negative 4 (size_field c) ≡ false = lt-leb (256 ^ 4) (2 * size_field c) (omega (arith, p.size-stated)) in
      record {
        header-whole = p.header-whole;
        size_allowed_lem = rw n;
        size_matches_lem = or_else (negative 4 (size_field c)) (eqb (size_field c) (length c.body)) (λ e. eq-eqb (size_field c) (length c.body) p.size-stated);
        body-exact = rw is_other;
        numbers-finite = rw is_other;
        holes_in_faces_lem = rw is_other;
        indices-below = rw is_other;
      }

  put-placed : (seen : List Chunk) → used (identifier c) seen ≡ false → Placed seen c
  put-placed seen u = record {
    lawful = put-lawful;
    not_end = rw is_other;
    owner_known_lem = rw (ne_eqb (identifier c) 0 p.not-zero, u, eq-eqb (parent c) 0 p.no-parent);
  }

lawful-there : (m : List (Mark Chunk)) (seen : List Chunk) → All Puttable (puts m) → All (λ c. length c.body ≤ limit) (puts m) → Different (puts m) →
    ((x : ℕ) → used x (puts m) ≡ true → used x (without m) ≡ false) → ((x : ℕ) → used x (puts m) ≡ true → used x seen ≡ false) → LawfulThere remember Placed seen m
lawful-there [] seen p b d k f = tt
lawful-there (put c ∷ m) seen p b d k f = (
  put-placed c p.0 b.0 seen (f (identifier c) (used-first c (puts m))),
  lawful-there m (c ∷ seen) p.1 b.1 d.1 (λ x u. k x (used-later x c (puts m) u))
      λ x u. unused_more x c seen (λ e. true≢false (sym u ∙ (ap (λ (y : ℕ). used y (puts m)) (sym e) ∙ d.0))) (f x (used-later x c (puts m) u)),
)
lawful-there (keep c ∷ m) seen p b d k f =
    lawful-there m (c ∷ seen) p b d
    (λ x u. swap (used x (without m)) (used x (puts m)) (λ w. absurd (true≢false (sym (used-later x c (without m) w) ∙ k x u))) u)
    λ x u. unused_more x c seen (λ e. true≢false (sym (used-first c (without m)) ∙ (ap (λ (y : ℕ). used y (c ∷ without m)) e ∙ k x u))) (f x u)

-- ---- bytes

length-all : (cs : List Chunk) → length (all_bytes cs) ≡ total size cs
length-all [] = refl
length-all (c ∷ cs) = omega (arith, length-append (chunk_bytes c) (all_bytes cs), length-append c.head c.body, length-all cs)

pub length-bytes : (l : Layout) → length (bytes l) ≡ 32 + total size l.chunks + size l.last
length-bytes l =
    omega (arith, length-append (all_bytes l.chunks) (chunk_bytes l.last), length-append l.last.head l.last.body, length-all l.chunks)

-- each chunk put in is no longer than all
puts-short : (n : ℕ) (m : List (Mark Chunk)) → total size (with m) ≤ n → All (λ c. length c.body ≤ n) (puts m)
puts-short n [] h = tt
puts-short n (put c ∷ m) h = (omega arith, puts-short n m (omega arith))
puts-short n (keep c ∷ m) h = puts-short n m (omega arith)

-- ---- what stays the same

no-mesh : (k : Kind) → listed k ≡ false → is_mesh k ≡ false
no-mesh k h = rw (other k h)

meshes_stay : (P : ℕ → Bool) (m : List (Mark Chunk)) → Apart P m → meshes_of (with m) ≡ meshes_of (without m)
meshes_stay P [] a = refl
meshes_stay P (put c ∷ m) a = rw (no-mesh (kind c) a.1) (meshes_stay P m a.2)
meshes_stay P (keep c ∷ m) a = rw (meshes_stay P m a.2)

unchanged : (m : List (Mark Chunk)) (last : Chunk) → Apart (λ x. used x (puts m)) m → AllPlaced [] (without m) → Unchanged m last
unchanged m last a g =
    let P : ℕ → Bool = λ x. used x (puts m) in
    record {
      list-moved = pairwise_append (Moved (λ r. r.offset) SameRecord (pieces size 32 m))
          (records caligari [] 32 (without m)) (end_record (last_at (ending last (without m))) last ∷ [])
          (records caligari [] 32 (with m)) (end_record (last_at (ending last (with m))) last ∷ [])
          ((enough P).records-moved [] [] 32 m (alike m a) g)
          (record { offset_grows = (enough P).end_moved 32 m; else_same = record { kind-same = refl; length-same = refl; identifier-same = refl; parent-same = refl; owner_same = refl } }, tt);
      meshes-same = meshes_stay P m a;
    }

-- ---- the theorems

pub put_in_lem : PutIn
put_in_lem m last s e p n =
    let h = (accepted_exactly s (ending last (without m))).0 e in
    let a = apart-put m p h.chunks in
    let P : ℕ → Bool = λ x. used x (puts m) in
    let b = puts-short limit m (omega (arith, length-bytes (ending last (with m)))) in
    let t = lawful-there m [] p.each b p.different p.unused (λ x u. refl) in (
      verdict-good (bytes (ending last (with m))) (ending last (with m)) record {
        is = refl;
        within-limit = n;
        chunks = (enough P).put_in_lem [] [] m (alike m a) t h.chunks;
        last = h.last;
        ends = h.ends;
      },
      unchanged m last a h.chunks,
    )

pub taken_out : TakenOut
taken_out m last s e t =
    let h = (accepted_exactly s (ending last (with m))).0 e in
    let a = apart-taken m t h.chunks in
    let P : ℕ → Bool = λ x. used x (puts m) in
    let i = ap length h.is in
    let w = h.within-limit in
    let g = (enough P).taken_out [] [] m (alike m a) h.chunks in (
      verdict-good (bytes (ending last (without m))) (ending last (without m)) record {
        is = refl;
        within-limit = omega (arith, length-bytes (ending last (with m)), length-bytes (ending last (without m)), total-grows size m);
        chunks = g;
        last = h.last;
        ends = h.ends;
      },
      unchanged m last a g,
    )
