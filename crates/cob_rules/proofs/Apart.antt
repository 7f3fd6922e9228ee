-- The chunks put in stand apart from those that stay: no chunk that stays has or names an identifier of theirs.
use mathlib.Core.Path.{◌≡◌, refl, sym, ap, ◌∙◌}
use Prim.Native.Nat.{ℕ}
use mathlib.Core.Bool.{Bool, true, false, ◌||◌, true≢false, false≢true}
use mathlib.Core.List.{List, [], ◌∷◌}
use lib.Dec.{eqb}
use borrow.Author.Tests.{eqb-true, eq-eqb, ne_eqb}
use Rattle.shared_words.specs.Lists.{All}
use Rattle.shared_words.proofs.Bools.{or_else, or_second}
use Rattle.shared_flat.specs.Put.{Mark, put, keep, without, with, puts}
use Rattle.cob_rules.specs.Kinds.{listed}
use Rattle.cob_rules.specs.Layout.{Chunk, kind, identifier, parent}
use Rattle.cob_rules.specs.Rules.{used, AllPlaced}
use Rattle.cob_rules.specs.PutIn.{Puttable, Different, MayPut, MayTake}
use Rattle.cob_rules.proofs.Owners.{new}

-- P tells the identifiers put in
abbrev pub Apart : (ℕ → Bool) → List (Mark Chunk) → Type 0
Apart P [] = Unit
Apart P (put c ∷ m) = (P (identifier c) ≡ true) × (listed (kind c) ≡ false) × Apart P m
Apart P (keep c ∷ m) = (P (identifier c) ≡ false) × (P (parent c) ≡ false) × Apart P m

-- ---- identifiers used

pub used-first : (c : Chunk) (cs : List Chunk) → used (identifier c) (c ∷ cs) ≡ true
used-first c cs = rw (eq-eqb (identifier c) (identifier c) refl)

pub used-later : (x : ℕ) (c : Chunk) (cs : List Chunk) → used x cs ≡ true → used x (c ∷ cs) ≡ true
used-later x c cs u = or_else (eqb (identifier c) x) (used x cs) (λ e. u)

-- unused by one more, which has another identifier
pub unused_more : (x : ℕ) (c : Chunk) (cs : List Chunk) → (identifier c ≡ x → ⊥) → used x cs ≡ false → used x (c ∷ cs) ≡ false
unused_more x c cs n u = rw (ne_eqb (identifier c) x n) u

-- used by one more or by the others
pub used-cases : (x : ℕ) (c : Chunk) (cs : List Chunk) (G : Type 0) → (identifier c ≡ x → G) → (used x cs ≡ true → G) → used x (c ∷ cs) ≡ true → G
used-cases x c cs G h k = go (eqb (identifier c) x) refl
  where
    go : (e : Bool) → eqb (identifier c) x ≡ e → (e || used x cs) ≡ true → G
    go true e u = h (eqb-true (identifier c) x e)
    go false e u = k u

-- where b has none of a, a has none of b
pub swap : (a b : Bool) → (a ≡ true → b ≡ false) → b ≡ true → a ≡ false
swap true b h u = absurd (true≢false (sym u ∙ h refl))
swap false b h u = refl

used-at : (x y : ℕ) (cs : List Chunk) → x ≡ y → used x cs ≡ used y cs
used-at x y cs e = ap (λ (z : ℕ). used z cs) e

-- one more on both sides
used_also : (x : ℕ) (c : Chunk) (cs ds : List Chunk) → (used x cs ≡ true → used x ds ≡ true) → used x (c ∷ cs) ≡ true → used x (c ∷ ds) ≡ true
used_also x c cs ds h =
    used-cases x c cs (used x (c ∷ ds) ≡ true) (λ e. used-at x (identifier c) (c ∷ ds) (sym e) ∙ used-first c ds) (λ k. used-later x c ds (h k))

-- ---- of the two files

puts-with : (x : ℕ) (m : List (Mark Chunk)) → used x (puts m) ≡ true → used x (with m) ≡ true
puts-with x [] u = u
puts-with x (put c ∷ m) u = used_also x c (puts m) (with m) (puts-with x m) u
puts-with x (keep c ∷ m) u = used-later x c (with m) (puts-with x m u)

kept-with : (x : ℕ) (m : List (Mark Chunk)) → used x (without m) ≡ true → used x (with m) ≡ true
kept-with x [] u = u
kept-with x (put c ∷ m) u = used-later x c (with m) (kept-with x m u)
kept-with x (keep c ∷ m) u = used_also x c (without m) (with m) (kept-with x m) u

-- an identifier seen is used by none to come
seen_unused : (x : ℕ) (cs seen : List Chunk) → AllPlaced seen cs → used x seen ≡ true → used x cs ≡ false
seen_unused x [] seen a u = refl
seen_unused x (c ∷ cs) seen a u =
    unused_more x c cs
    (λ e. true≢false (sym u ∙ (used-at x (identifier c) seen (sym e) ∙ (new seen c a.0.owner_known_lem).fresh)))
    (seen_unused x cs (c ∷ seen) a.1 (used-later x c seen u))

placed_different : (cs seen : List Chunk) → AllPlaced seen cs → Different cs
placed_different [] seen a = tt
placed_different (c ∷ cs) seen a = (seen_unused (identifier c) cs (c ∷ seen) a.1 (used-first c seen), placed_different cs (c ∷ seen) a.1)

-- where all differ, none that stays has an identifier of those put in
kept_unused : (x : ℕ) (m : List (Mark Chunk)) → Different (with m) → used x (without m) ≡ true → used x (puts m) ≡ false
kept_unused x [] d u = refl
kept_unused x (put c ∷ m) d u =
    unused_more x c (puts m)
    (λ e. true≢false (sym (kept-with x m u) ∙ (used-at x (identifier c) (with m) (sym e) ∙ d.0)))
    (kept_unused x m d.1 u)
kept_unused x (keep c ∷ m) d u =
    used-cases x c (without m) (used x (puts m) ≡ false)
    (λ e. swap (used x (puts m)) true (λ k. absurd (true≢false (sym (puts-with x m k) ∙ (used-at x (identifier c) (with m) (sym e) ∙ d.0)))) refl)
    (kept_unused x m d.1) u

-- ---- apart

-- by the identifiers that q has
apart_by : (q : List Chunk) (m : List (Mark Chunk)) → ((x : ℕ) → used x (puts m) ≡ true → used x q ≡ true) → All (λ c. listed (kind c) ≡ false) (puts m) →
    ((x : ℕ) → used x (without m) ≡ true → used x q ≡ false) → All (λ c. used (parent c) q ≡ false) (without m) → Apart (λ x. used x q) m
apart_by q [] i l k p = tt
apart_by q (put c ∷ m) i l k p =
    (i (identifier c) (used-first c (puts m)), l.0, apart_by q m (λ x u. i x (used-later x c (puts m) u)) l.1 k p)
apart_by q (keep c ∷ m) i l k p =
    (k (identifier c) (used-first c (without m)), p.0, apart_by q m i l (λ x u. k x (used-later x c (without m) u)) p.1)

-- parents are 0 or identifiers of the same file
parents_unused : (q cs seen : List Chunk) → AllPlaced seen cs → used 0 q ≡ false → ((x : ℕ) → used x seen ≡ true → used x q ≡ false) →
    ((x : ℕ) → used x cs ≡ true → used x q ≡ false) → All (λ c. used (parent c) q ≡ false) cs
parents_unused q [] seen a z s k = tt
parents_unused q (c ∷ cs) seen a z s k = (
  parent_unused (eqb (parent c) 0) refl,
  parents_unused q cs (c ∷ seen) a.1 z
      (λ x. used-cases x c seen (used x q ≡ false) (λ e. used-at x (identifier c) q (sym e) ∙ k (identifier c) (used-first c cs)) (s x))
      (λ x u. k x (used-later x c cs u)),
)
  where
    parent_unused : (e : Bool) → eqb (parent c) 0 ≡ e → used (parent c) q ≡ false
    parent_unused true e = used-at (parent c) 0 q (eqb-true (parent c) 0 e) ∙ z
    parent_unused false e = s (parent c) (or_second (eqb (parent c) 0) (used (parent c) seen) (new seen c a.0.owner_known_lem).known e)

zero_unused : (cs : List Chunk) → All Puttable cs → used 0 cs ≡ false
zero_unused [] h = refl
zero_unused (c ∷ cs) h = unused_more 0 c cs h.0.not-zero (zero_unused cs h.1)

all-unlisted : (cs : List Chunk) → All Puttable cs → All (λ c. listed (kind c) ≡ false) cs
all-unlisted [] h = tt
all-unlisted (c ∷ cs) h = (h.0.unlisted, all-unlisted cs h.1)

pub apart-put : (m : List (Mark Chunk)) → MayPut m → AllPlaced [] (without m) → Apart (λ x. used x (puts m)) m
apart-put m p a =
    let k : (x : ℕ) → used x (without m) ≡ true → used x (puts m) ≡ false = λ x. swap (used x (puts m)) (used x (without m)) (p.unused x) in
    apart_by (puts m) m (λ x u. u) (all-unlisted (puts m) p.each) k
    (parents_unused (puts m) (without m) [] a (zero_unused (puts m) p.each) (λ x u. absurd (false≢true u)) k)

pub apart-taken : (m : List (Mark Chunk)) → MayTake m → AllPlaced [] (with m) → Apart (λ x. used x (puts m)) m
apart-taken m t a =
    apart_by (puts m) m (λ x u. u) t.unlisted (λ x. kept_unused x m (placed_different (with m) [] a)) t.unnamed
