-- What the walk accepts is the bytes of a layout that meets the rules.
-- By the bound on the walk: the conditions met at a chunk are its rules, and the rest of the walk says the same of what is left.
use mathlib.Core.Path.{◌≡◌, refl, sym, ◌∙◌}
use Prim.Native.Nat.{ℕ, zero, suc, ◌+◌, ◌≤◌}
use native.Mathlib.Omega.{arith}
use mathlib.Core.Bool.{Bool, true, false, false≢true}
use mathlib.Core.List.{List, [], ◌∷◌, ◌++◌, append_assoc, append-nil}
use mathlib.Core.Option.{Option, none, some}
use lib.ListN.{length, take, drop, length-drop, take-append-drop}
use lib.Seq.{length-take-le, drop-drop}
use borrow.Author.Tests.{leb-true, eq-eqb}
use Rattle.shared_words.specs.Bytes.{negative}
use Rattle.cob_rules.specs.Fields.{field}
use Rattle.shared_words.specs.Conditions.{broken, refused, accepted, unless}
use Rattle.shared_words.proofs.Bools.{or_else, or_second}
use Rattle.shared_words.proofs.Conditions.{Met, met}
use Rattle.shared_words.specs.declared.Refusal.{Refusal}
use Rattle.cob_rules.specs.Kinds.{is_end}
use Rattle.cob_rules.specs.Layout.{Chunk, kind, size_field, size, Layout, chunk_bytes, all_bytes}
use Rattle.cob_rules.specs.Rules.{Lawful, owner_known, AllPlaced}
use Rattle.cob_rules.specs.Walk.{Verdict, chunk_conditions, end_conditions, is_empty, with_chunk, chunk_of, chunk_at, go_on, step, run}
use Rattle.cob_rules.proofs.Body.{body-whole}

-- ---- the chunk at s

-- a size that is told is that of the body
stated : (h left : List ℕ) → negative 4 (field 16 4 h) ≡ false → field 16 4 h ≤ length left → field 16 4 h ≡ length (chunk_of h left).body
stated h left e l = rw e (sym (length-take-le (field 16 4 h) left l))

chunk-lawful : (seen : List Chunk) (o : ℕ) (s : List ℕ) → Met (chunk_conditions seen o (length s) (chunk_at s)) → Lawful (chunk_at s)
unfolding chunk_at
chunk-lawful seen o s t =
    let l : 20 ≤ length s = leb-true _ _ t.0 in
    record {
      header-whole = length-take-le 20 s l;
      size_allowed_lem = t.1.1.1.0;
      size_matches_lem = or_else _ _ λ e.
          let k : 20 + field 16 4 (take 20 s) ≤ length s = leb-true _ _ (or_second _ _ t.1.0 e) in
          eq-eqb _ _ (stated (take 20 s) (drop 20 s) e (omega (arith, length-drop 20 s)));
      body-exact = t.1.1.1.1.0;
      numbers-finite = t.1.1.1.1.1.0;
      holes_in_faces_lem = t.1.1.1.1.1.1.0;
      indices-below = t.1.1.1.1.1.1.1.0;
    }

chunk_whole : (s : List ℕ) → 20 ≤ length s → chunk_bytes (chunk_at s) ++ drop (size (chunk_at s)) s ≡ s
unfolding chunk_at
chunk_whole s l =
    let c = chunk_of (take 20 s) (drop 20 s) in
    let b : c.body ++ drop (length c.body) (drop 20 s) ≡ drop 20 s = body-whole (kind c) (size_field c) (drop 20 s) in
    rw (append_assoc (take 20 s) c.body (drop (size c) s), length-take-le 20 s l, ← (drop-drop (length c.body) 20 s), b) (take-append-drop 20 s)

-- ---- what is told of an accepted rest of a file

pub record Sound (seen : List Chunk) (s : List ℕ) (l : Layout) : Type 0 where
  pub is : all_bytes l.chunks ++ chunk_bytes l.last ≡ s
  pub chunks : AllPlaced seen l.chunks
  pub last : Lawful l.last
  pub ends : is_end (kind l.last) ≡ true

abbrev pub Tells : List Chunk → List ℕ → Verdict → Type 0
Tells seen s (refused r) = Unit
Tells seen s (accepted l) = Sound seen s l

abbrev Walks : (List Chunk → ℕ → List ℕ → Verdict) → Type 0
Walks go = (seen : List Chunk) (o : ℕ) (s : List ℕ) → Tells seen s (go seen o s)

empty : (s : List ℕ) → is_empty s ≡ true → s ≡ []
empty [] h = refl
empty (b ∷ s) h = absurd (false≢true h)

module _ (seen : List Chunk) (o : ℕ) (s : List ℕ) (c : Chunk) (left : List ℕ) (is : chunk_bytes c ++ left ≡ s) (lawful : Lawful c) where
  end-tells : is_end (kind c) ≡ true → (r : Option Refusal) → broken (end_conditions (o + size c) left) ≡ r →
      Tells seen s (unless r (accepted record { chunks = []; last = c }))
  end-tells e (some r) q = tt
  end-tells e none q =
      let n : left ≡ [] = empty left (met _ q).0 in
      record { is = sym (append-nil (chunk_bytes c)) ∙ (rw n at is); chunks = tt; last = lawful; ends = e }

  more-tells : is_end (kind c) ≡ false → owner_known seen c ≡ true → (a : Verdict) → Tells (c ∷ seen) left a → Tells seen s (with_chunk c a)
  more-tells e i (refused r) h = tt
  more-tells e i (accepted l) h = record {
    is = append_assoc (chunk_bytes c) (all_bytes l.chunks) (chunk_bytes l.last) ∙ (rw h.is is);
    chunks = (record { lawful = lawful; not_end = e; owner_known_lem = i }, h.chunks);
    last = h.last;
    ends = h.ends;
  }

  on-tells : (go : List Chunk → ℕ → List ℕ → Verdict) → Walks go → (e : Bool) → is_end (kind c) ≡ e → (is_end (kind c) ≡ false → owner_known seen c ≡ true) →
      Tells seen s (go_on go seen o c left e)
  on-tells go w true e i = end-tells e (broken (end_conditions (o + size c) left)) refl
  on-tells go w false e i = more-tells e (i e) (go (c ∷ seen) (o + size c) left) (w (c ∷ seen) (o + size c) left)

step-tells : (go : List Chunk → ℕ → List ℕ → Verdict) → Walks go → (seen : List Chunk) (o : ℕ) (s : List ℕ) → Tells seen s (step go seen o s (chunk_at s))
step-tells go w seen o s = test (broken (chunk_conditions seen o (length s) (chunk_at s))) refl
  where
    test : (r : Option Refusal) → broken (chunk_conditions seen o (length s) (chunk_at s)) ≡ r →
        Tells seen s (unless r (go_on go seen o (chunk_at s) (drop (size (chunk_at s)) s) (is_end (kind (chunk_at s)))))
    test (some r) e = tt
    test none e =
        let t = met _ e in
        on-tells seen o s (chunk_at s) (drop (size (chunk_at s)) s) (chunk_whole s (leb-true _ _ t.0)) (chunk-lawful seen o s t) go w (is_end (kind (chunk_at s))) refl
        (or_second _ _ t.1.1.0)

pub run-tells : (n : ℕ) → Walks (run n)
run-tells zero seen o s = tt
run-tells (suc n) seen o [] = tt
run-tells (suc n) seen o (b ∷ s) = step-tells (run n) (run-tells n) seen o (b ∷ s)
