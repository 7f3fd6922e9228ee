-- The topmost owner is the end of the way up. By the chunks seen: a new one has its parent among them, and hides none of them, as its
-- identifier is new.
use mathlib.Core.Path.{◌≡◌, refl, sym, ap, ◌∙◌, subst}
use Prim.Native.Nat.{ℕ, ◌+◌}
use mathlib.Core.Bool.{Bool, true, false, not, ◌&&◌, ◌||◌, cond, true≢false, false≢true}
use mathlib.Core.List.{List, [], ◌∷◌, ◌++◌}
use lib.Dec.{eqb}
use borrow.Author.Tests.{eqb-true, eqb-false, eq-eqb, ne_eqb, not-true}
use Rattle.shared_words.specs.Lists.{All}
use Rattle.shared_words.proofs.Bools.{and_parts, or_else, or_second}
use Rattle.shared_flat.specs.Flat.{after_all, records}
use Rattle.cob_rules.specs.declared.Record.{Record}
use Rattle.cob_rules.specs.Kinds.{listed}
use Rattle.cob_rules.specs.Layout.{Chunk, kind, identifier, parent, size}
use Rattle.cob_rules.specs.Rules.{used, owner_known, remember, AllPlaced}
use Rattle.cob_rules.specs.Gives.{topmost, record_of, one_if, caligari}
use Rattle.cob_rules.specs.Owners.{parent_of, WayUp, top, up, Owned}
use Rattle.cob_rules.specs.Theorems.{OwnersFound, OneOwner}

pub one_owner : OneOwner
one_owner cs x t t' a b = go a b
  where
    go : {t t' x : ℕ} → WayUp cs t x → WayUp cs t' x → t ≡ t'
    go (top h) (top h') = refl
    go (top h) (up n w) = absurd (n h)
    go (up n w) (top h) = absurd (n h)
    go (up n w) (up n' w') = go w w'

-- ---- one chunk more

-- what a new chunk c says of itself
pub record New (seen : List Chunk) (c : Chunk) : Type 0 where
  pub fresh : used (identifier c) seen ≡ false
  pub known : (eqb (parent c) 0 || used (parent c) seen) ≡ true

pub new : (seen : List Chunk) (c : Chunk) → owner_known seen c ≡ true → New seen c
new seen c h =
    let p = and_parts (not (eqb (identifier c) 0) && not (used (identifier c) seen)) (eqb (parent c) 0 || used (parent c) seen) h in
    let q = and_parts (not (eqb (identifier c) 0)) (not (used (identifier c) seen)) p.0 in
    record { fresh = not-true (used (identifier c) seen) q.1; known = p.1 }

-- an identifier seen is not that of a new chunk
other : (seen : List Chunk) (c : Chunk) → New seen c → (x : ℕ) → used x seen ≡ true → eqb (identifier c) x ≡ false
other seen c n x u = ne_eqb (identifier c) x λ e. true≢false (sym u ∙ (ap (λ (y : ℕ). used y seen) (sym e) ∙ n.fresh))

-- the way up from an identifier that no chunk has
pub topmost_unused : (seen : List Chunk) (x : ℕ) → used x seen ≡ false → topmost seen x ≡ x
unfolding topmost
topmost_unused [] x u = refl
topmost_unused (c ∷ seen) x u = go (eqb (identifier c) x) (topmost_unused seen x) u
  where
    go : (e : Bool) → (used x seen ≡ false → topmost seen x ≡ x) → (e || used x seen) ≡ false → topmost seen (cond (e && not (eqb (parent c) 0)) (parent c) x) ≡ x
    go true ih u = absurd (true≢false u)
    go false ih u = ih u

-- ---- what holds of the chunks seen: parents are among them, and the topmost owner is the end of the way

pub record Good (seen : List Chunk) : Type 0 where
  pub closed : (x : ℕ) → used x seen ≡ true → (eqb (parent_of seen x) 0 || used (parent_of seen x) seen) ≡ true
  pub ways : (x : ℕ) → used x seen ≡ true → WayUp seen (topmost seen x) x

none_seen : Good []
none_seen = record { closed = λ x u. absurd (false≢true u); ways = λ x u. absurd (false≢true u) }

module _ (seen : List Chunk) (g : Good seen) (c : Chunk) (n : New seen c) where
  parent-same : (x : ℕ) → used x seen ≡ true → parent_of (c ∷ seen) x ≡ parent_of seen x
  parent-same x u = rw (other seen c n x u)

  used-more : (x : ℕ) → used x seen ≡ true → used x (c ∷ seen) ≡ true
  used-more x u = or_else (eqb (identifier c) x) (used x seen) (λ e. u)

  way_same : {t x : ℕ} → used x seen ≡ true → WayUp seen t x → WayUp (c ∷ seen) t x
  way_same u (top h) = top (parent-same _ u ∙ h)
  way_same {t} {x} u (up m w) =
      let k : used (parent_of seen x) seen ≡ true = or_second (eqb (parent_of seen x) 0) (used (parent_of seen x) seen) (g.closed x u) (ne_eqb (parent_of seen x) 0 m) in
      up (λ e. m (sym (parent-same x u) ∙ e)) (subst (WayUp (c ∷ seen) t) (sym (parent-same x u)) (way_same k w))

  known_more : (y : ℕ) → (eqb y 0 || used y seen) ≡ true → (eqb y 0 || used y (c ∷ seen)) ≡ true
  known_more y h = or_else (eqb y 0) (used y (c ∷ seen)) (λ e. used-more y (or_second (eqb y 0) (used y seen) h e))

  closed-more : (x : ℕ) → used x (c ∷ seen) ≡ true → (eqb (parent_of (c ∷ seen) x) 0 || used (parent_of (c ∷ seen) x) (c ∷ seen)) ≡ true
  closed-more x = go (eqb (identifier c) x)
    where
      go : (e : Bool) → (e || used x seen) ≡ true → (eqb (cond e (parent c) (parent_of seen x)) 0 || used (cond e (parent c) (parent_of seen x)) (c ∷ seen)) ≡ true
      go true u = known_more (parent c) n.known
      go false u = known_more (parent_of seen x) (g.closed x u)

  ways_more : (x : ℕ) → used x (c ∷ seen) ≡ true → WayUp (c ∷ seen) (topmost (c ∷ seen) x) x
  unfolding topmost
  ways_more x u = go (eqb (identifier c) x) refl (eqb (parent c) 0) refl
    where
      go : (e : Bool) → eqb (identifier c) x ≡ e → (z : Bool) → eqb (parent c) 0 ≡ z → WayUp (c ∷ seen) (topmost seen (cond (e && not z) (parent c) x)) x
      go true e true z =
          let p : parent_of (c ∷ seen) x ≡ parent c = rw e in
          rw (topmost_unused seen x (ap (λ (y : ℕ). used y seen) (sym (eqb-true (identifier c) x e)) ∙ n.fresh)) (top (p ∙ eqb-true (parent c) 0 z))
      go true e false z =
          let p : parent_of (c ∷ seen) x ≡ parent c = rw e in
          let k : used (parent c) seen ≡ true = or_second (eqb (parent c) 0) (used (parent c) seen) n.known z in
          up (λ q. eqb-false (parent c) 0 z (sym p ∙ q)) (subst (WayUp (c ∷ seen) (topmost seen (parent c))) (sym p) (way_same k (g.ways (parent c) k)))
      go false e z q = let k = or_second (eqb (identifier c) x) (used x seen) u e in way_same k (g.ways x k)

  pub good_more : Good (c ∷ seen)
  good_more = record { closed = closed-more; ways = ways_more }

-- ---- all chunks

-- what is told of an identifier seen does not change with the chunks to come
module _ (x : ℕ) where
  stays-parent : (cs seen : List Chunk) → Good seen → AllPlaced seen cs → used x seen ≡ true → parent_of (after_all remember seen cs) x ≡ parent_of seen x
  stays-parent [] seen g a u = refl
  stays-parent (c ∷ cs) seen g a u =
      let n = new seen c a.0.owner_known_lem in
      stays-parent cs (c ∷ seen) (good_more seen g c n) a.1 (used-more seen g c n x u) ∙ parent-same seen g c n x u

  stays-way : (cs seen : List Chunk) → Good seen → AllPlaced seen cs → used x seen ≡ true → {t : ℕ} → WayUp seen t x → WayUp (after_all remember seen cs) t x
  stays-way [] seen g a u w = w
  stays-way (c ∷ cs) seen g a u w =
      let n = new seen c a.0.owner_known_lem in
      stays-way cs (c ∷ seen) (good_more seen g c n) a.1 (used-more seen g c n x u) (way_same seen g c n u w)

if_all : (P : Record → Type 0) (b : Bool) (r : Record) (rs : List Record) → P r → All P rs → All P (one_if b r ++ rs)
if_all P true r rs h k = (h, k)
if_all P false r rs h k = k

owned-all : (cs seen : List Chunk) (o : ℕ) → Good seen → AllPlaced seen cs → All (Owned (after_all remember seen cs)) (records caligari seen o cs)
owned-all [] seen o g a = tt
owned-all (c ∷ cs) seen o g a =
    let n = new seen c a.0.owner_known_lem in
    let g₁ = good_more seen g c n in
    let here : eqb (identifier c) (identifier c) ≡ true = eq-eqb (identifier c) (identifier c) refl in
    let u : used (identifier c) (c ∷ seen) ≡ true = rw here in
    let p : parent_of (c ∷ seen) (identifier c) ≡ parent c = rw here in
    let q = stays-parent (identifier c) cs (c ∷ seen) g₁ a.1 u ∙ p in
    let w = stays-way (identifier c) cs (c ∷ seen) g₁ a.1 u (g₁.ways (identifier c) u) in
    if_all (Owned (after_all remember (c ∷ seen) cs)) (listed (kind c)) (record_of seen o c) (records caligari (c ∷ seen) (o + size c) cs)
    record {
      parent_is = q;
      owner_is = w;
      owns-itself = λ z. one_owner (after_all remember (c ∷ seen) cs) (identifier c) (topmost (c ∷ seen) (identifier c)) (identifier c) w (top (q ∙ z));
    }
    (owned-all cs (c ∷ seen) (o + size c) g₁ a.1)

pub owners_found : OwnersFound
owners_found s l m = owned-all l.chunks [] 32 none_seen m.chunks
