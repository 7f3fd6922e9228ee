-- The walk accepts the bytes of every layout that meets the rules, and gives that layout back.
-- By the chunks: each rule answers one condition.
use mathlib.Core.Path.{◌≡◌, refl, sym, ap, ◌∙◌}
use Prim.Native.Nat.{ℕ, zero, suc, ◌+◌, ◌<◌, ◌≤◌}
use native.Mathlib.Omega.{arith}
use mathlib.Core.Bool.{Bool, true, false, not, ◌&&◌, ◌||◌, cond}
use mathlib.Core.List.{List, [], ◌∷◌, ◌++◌, append_assoc, append-nil}
use mathlib.Core.Option.{none}
use lib.ListN.{length, take, drop, length-append}
use lib.Seq.{take_at, drop_at}
use lib.Dec.{eqb, leb}
use borrow.Author.Tests.{le-leb, eqb-true}
use Rattle.shared_words.specs.Bytes.{minus_one, negative}
use Rattle.shared_words.specs.Conditions.{broken, accepted}
use Rattle.shared_words.proofs.Bools.{and_parts, or_else, or_second}
use Rattle.shared_words.proofs.Conditions.{unbroken}
use Rattle.cob_rules.specs.Kinds.{is_end, tells_end, parts}
use Rattle.cob_rules.specs.Body.{behind_all, up_to, body_at}
use Rattle.cob_rules.specs.Layout.{Chunk, kind, size_field, size, chunk_bytes, all_bytes}
use Rattle.cob_rules.specs.Rules.{Lawful, owner_known, AllPlaced}
use Rattle.cob_rules.specs.Walk.{Verdict, chunk_conditions, chunk_at, go_on, step, run}
use Rattle.cob_rules.proofs.Body.{body-told}

-- ---- one chunk

pub size-told : (c : Chunk) → Lawful c → negative 4 (size_field c) ≡ false → size_field c ≡ length c.body
size-told c h e = eqb-true (size_field c) (length c.body) (or_second (negative 4 (size_field c)) (eqb (size_field c) (length c.body)) h.size_matches_lem e)

module _ (c : Chunk) (h : Lawful c) (more : List ℕ) where
  body-found : body_at (kind c) (size_field c) (c.body ++ more) ≡ c.body
  body-found = go (negative 4 (size_field c)) refl
    where
      go : (e : Bool) → negative 4 (size_field c) ≡ e →
          cond e (up_to (c.body ++ more) (behind_all (parts (kind c)) (c.body ++ more))) (take (size_field c) (c.body ++ more)) ≡ c.body
      go true e =
          let a = or_second (not (negative 4 (size_field c))) (eqb (size_field c) minus_one && tells_end (kind c)) h.size_allowed_lem (rw e) in
          body-told (kind c) c.body more (and_parts (eqb (size_field c) minus_one) (tells_end (kind c)) a).1 h.body-exact
      go false e = take_at c.body more (size_field c) (sym (size-told c h e))

  pub chunk-found : chunk_at (chunk_bytes c ++ more) ≡ c
  unfolding chunk_at
  chunk-found =
      rw (append_assoc c.head c.body more, take_at c.head (c.body ++ more) 20 h.header-whole, drop_at c.head (c.body ++ more) 20 h.header-whole)
      (rw body-found)

  pub length-here : length (chunk_bytes c ++ more) ≡ 20 + length c.body + length more
  length-here = omega (arith, length-append (chunk_bytes c) more, length-append c.head c.body, h.header-whole)

  step-good : (go : List Chunk → ℕ → List ℕ → Verdict) (seen : List Chunk) (o : ℕ) → (is_end (kind c) || owner_known seen c) ≡ true →
      step go seen o (chunk_bytes c ++ more) (chunk_at (chunk_bytes c ++ more)) ≡ go_on go seen o c more (is_end (kind c))
  step-good go seen o i =
      let n = length-here in
      let q : broken (chunk_conditions seen o (length (chunk_bytes c ++ more)) c) ≡ none =
      unbroken _ (
        le-leb 20 (length (chunk_bytes c ++ more)) (omega arith),
        (
          or_else (negative 4 (size_field c)) (leb (20 + size_field c) (length (chunk_bytes c ++ more)))
              (λ e. le-leb (20 + size_field c) (length (chunk_bytes c ++ more)) (omega (arith, size-told c h e))),
          (i, (h.size_allowed_lem, (h.body-exact, (h.numbers-finite, (h.holes_in_faces_lem, (h.indices-below, tt)))))),
        ),
      ) in
      let d : drop (size c) (chunk_bytes c ++ more) ≡ more = drop_at (chunk_bytes c) more (size c) (length-append c.head c.body) in
      rw (chunk-found, q, d)

-- ---- the walk

run-some : (k : ℕ) (seen : List Chunk) (o : ℕ) (s : List ℕ) → 1 ≤ length s → run (suc k) seen o s ≡ step (run k) seen o s (chunk_at s)
run-some k seen o [] l = absurd (omega arith)
run-some k seen o (b ∷ s) l = refl

end-good : (c : Chunk) (k : ℕ) (seen : List Chunk) (o : ℕ) → Lawful c → is_end (kind c) ≡ true → run (suc k) seen o (chunk_bytes c) ≡ accepted record { chunks = []; last = c }
unfolding broken
end-good c k seen o h e =
    let n = length-here c h [] in
    let a : chunk_bytes c ++ [] ≡ chunk_bytes c = append-nil (chunk_bytes c) in
    let r : run (suc k) seen o (chunk_bytes c ++ []) ≡ accepted record { chunks = []; last = c } =
    run-some k seen o (chunk_bytes c ++ []) (omega arith) ∙ step-good c h [] (run k) seen o (rw e) ∙ rw e in
    ap (run (suc k) seen o) (sym a) ∙ r

pub run_complete : (cs : List Chunk) (c : Chunk) (k : ℕ) (seen : List Chunk) (o : ℕ) → length (all_bytes cs ++ chunk_bytes c) < k → AllPlaced seen cs → Lawful c → is_end (kind c) ≡ true →
    run k seen o (all_bytes cs ++ chunk_bytes c) ≡ accepted record { chunks = cs; last = c }
run_complete cs c zero seen o l a h e = absurd (omega arith)
run_complete [] c (suc k) seen o l a h e = end-good c k seen o h e
run_complete (d ∷ cs) c (suc k) seen o l a h e =
    let p = a.0 in
    let left = all_bytes cs ++ chunk_bytes c in
    let w : chunk_bytes d ++ all_bytes cs ++ chunk_bytes c ≡ chunk_bytes d ++ left = append_assoc (chunk_bytes d) (all_bytes cs) (chunk_bytes c) in
    let n = length-here d p.lawful left in
    let m : length (chunk_bytes d ++ all_bytes cs ++ chunk_bytes c) ≡ length (chunk_bytes d ++ left) = ap length w in
    let ih = run_complete cs c k (d ∷ seen) (o + size d) (omega arith) a.1 h e in
    ap (run (suc k) seen o) w ∙ run-some k seen o (chunk_bytes d ++ left) (omega arith) ∙
    step-good d p.lawful left (run k) seen o (or_else (is_end (kind d)) (owner_known seen d) (λ q. p.owner_known_lem)) ∙
    rw (p.not_end, ih)
