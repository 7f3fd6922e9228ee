-- The file's own conditions, and what the walk's answer makes of a call's.
use Rattle.std.specs.Prelude.{Result, Ok, Err}
use mathlib.Core.Path.{◌≡◌, refl, sym, ap, subst, ◌∙◌}
use Prim.Native.Nat.{ℕ, ◌*◌, ◌<◌, ◌≤◌}
use native.Mathlib.Omega.{arith}
use mathlib.Core.Bool.{Bool, true, false, true≢false}
use mathlib.Core.List.{List, []}
use lib.Dec.{ltb}
use lib.ListN.{length, take, drop, replicate, length-replicate}
use borrow.Author.Tests.{le-leb, lt-leb, ltb-true, ltb-false}
use Rattle.shared_words.specs.declared.Refusal.{Refusal}
use Rattle.shared_words.specs.declared.Refusal.TheVariants.{TooLong, Header}
use Rattle.shared_words.specs.Lists.{same}
use Rattle.shared_words.specs.Conditions.{broken, refused, accepted}
use Rattle.shared_words.specs.Refusals.{limit}
use Rattle.cob_rules.specs.Layout.{Layout, file_header}
use Rattle.cob_rules.specs.Walk.{Verdict, walk, verdict}
use Rattle.cob_rules.specs.Calls.{check_of}
use Rattle.shared_tree.proofs.Search.{zeros}
use Rattle.cob_seen.proofs.Search.{starts}
use Rattle.cob_check.specs.declared.Walked.{Walked}
use Rattle.cob_check.specs.Walks.{Prepared, Accepted, WalkIs}
use Rattle.cob_check.proofs.Header.{too_short}

module _ (s : List ℕ) where
  pub too_long : limit < length s → verdict s ≡ refused TooLong
  unfolding verdict broken
  too_long l = rw (lt-leb (length s) limit l)

  module _ (l : length s ≤ limit) where
    pub headless : same (take 32 s) file_header ≡ false → verdict s ≡ refused Header
    unfolding verdict broken
    headless h = rw (le-leb (length s) limit l, h)

    pub headed : same (take 32 s) file_header ≡ true → verdict s ≡ walk [] 32 (drop 32 s)
    unfolding verdict broken
    headed h = rw (le-leb (length s) limit l, h)

  pub long_enough : same (take 32 s) file_header ≡ true → 32 ≤ length s
  long_enough h = go (ltb (length s) 32) refl
    where
      go : (b : Bool) → ltb (length s) 32 ≡ b → 32 ≤ length s
      go true e = absurd (true≢false (sym h ∙ too_short s (ltb-true (length s) 32 e)))
      go false e = ltb-false (length s) 32 e

-- rows of zeros
pub prepared : (s : List ℕ) (m n : ℕ) → length s ≤ limit → 1 ≤ m → 2 ≤ n → length s ≤ 20 * m → length s ≤ 10 * n → Prepared s (replicate m 0) (replicate n 0)
prepared s m n l a b p q = record {
  tree = starts m n a b;
  first = zeros m 0;
  short = l;
  nodes = omega (arith, length-replicate {A = ℕ} m 0);
  sides = omega (arith, length-replicate {A = ℕ} n 0);
}

-- ---- by what the walk came to

refused_as : (v : Verdict) (q : Refusal) (ids links : List ℕ) → WalkIs v (Err q) ids links → v ≡ refused q
refused_as (refused r) q ids links h = ap refused (sym h)
refused_as (accepted l) q ids links h = absurd h

-- a refusal of the walk is that of the file
pub walk_refused : (v : Verdict) (w : Result Walked Refusal) (ids links : List ℕ) → WalkIs v w ids links → {q : Refusal} → w ≡ Err q → v ≡ refused q
walk_refused v w ids links h {q} e = refused_as v q ids links (subst (λ (x : Result Walked Refusal). WalkIs v x ids links) e h)

good_as : (v : Verdict) (g : Walked) (ids links : List ℕ) → WalkIs v (Ok g) ids links → (l : Layout) × (v ≡ accepted l) × Accepted l g.nodes g.records ids links
good_as (refused r) g ids links h = absurd h
good_as (accepted l) g ids links h = (l, refl, h)

-- and a good walk is an accepted file
pub walk-good : (v : Verdict) (w : Result Walked Refusal) (ids links : List ℕ) → WalkIs v w ids links → {g : Walked} → w ≡ Ok g →
    (l : Layout) × (v ≡ accepted l) × Accepted l g.nodes g.records ids links
walk-good v w ids links h {g} e = good_as v g ids links (subst (λ (x : Result Walked Refusal). WalkIs v x ids links) e h)

pub answer-refused : (v : Verdict) {q : Refusal} → v ≡ refused q → Err q ≡ check_of v
answer-refused v e = rw e

pub answer-good : (v : Verdict) {l : Layout} {count records : ℕ} {ids links : List ℕ} → v ≡ accepted l → Accepted l count records ids links → Ok records ≡ check_of v
answer-good v e h = rw (e, h.records_are)
