-- The way up from a chunk stays among the chunks, and so ends at one.
use mathlib.Core.Path.{◌≡◌, refl}
use mathlib.Core.Logic.{◌⊎◌, inl, inr}
use mathlib.Core.Bool.{Bool, true, false, ◌||◌, false≢true}
use mathlib.Core.List.{List, [], ◌∷◌, ◌++◌}
use Prim.Native.Nat.{ℕ, ◌+◌}
use lib.Dec.{eqb}
use borrow.Author.Tests.{eqb-true, eq-eqb, ne_eqb}
use Rattle.shared_words.specs.Lists.{All}
use Rattle.shared_words.proofs.Bools.{or_else, or_second}
use Rattle.shared_flat.specs.Flat.{records, after_all}
use Rattle.cob_rules.specs.declared.Record.{Record}
use Rattle.cob_rules.specs.Kinds.{listed}
use Rattle.cob_rules.specs.Layout.{Chunk, kind, identifier, parent, size}
use Rattle.cob_rules.specs.Rules.{used, remember, AllPlaced}
use Rattle.cob_rules.specs.Gives.{topmost, record_of, one_if, caligari}
use Rattle.cob_rules.specs.Owners.{parent_of, WayUp, top, up}
use Rattle.cob_rules.proofs.Owners.{new, Good, good_more}
use Rattle.claim_places.specs.Owners.{OwnerThere, OwnersThere}

-- the end of a way
end-used : (seen : List Chunk) → Good seen → {t x : ℕ} → used x seen ≡ true → WayUp seen t x → used t seen ≡ true
end-used seen g u (top h) = u
end-used seen g {t} {x} u (up m w) =
    end-used seen g (or_second (eqb (parent_of seen x) 0) (used (parent_of seen x) seen) (g.closed x u) (ne_eqb (parent_of seen x) 0 m)) w

-- what is used stays used
stays-used : (x : ℕ) (cs seen : List Chunk) → used x seen ≡ true → used x (after_all remember seen cs) ≡ true
stays-used x [] seen u = u
stays-used x (c ∷ cs) seen u = stays-used x cs (c ∷ seen) (or_else (eqb (identifier c) x) (used x seen) (λ e. u))

if_all : (P : Record → Type 0) (b : Bool) (r : Record) (rs : List Record) → P r → All P rs → All P (one_if b r ++ rs)
if_all P true r rs h k = (h, k)
if_all P false r rs h k = k

zero_or-used : (y : ℕ) (seen : List Chunk) → (eqb y 0 || used y seen) ≡ true → (y ≡ 0) ⊎ (used y seen ≡ true)
zero_or-used y seen h = go (eqb y 0) refl
  where
    go : (b : Bool) → eqb y 0 ≡ b → (y ≡ 0) ⊎ (used y seen ≡ true)
    go true e = inl (eqb-true y 0 e)
    go false e = inr (or_second (eqb y 0) (used y seen) h e)

owners_all : (cs seen : List Chunk) (o : ℕ) → Good seen → AllPlaced seen cs → All (OwnerThere (after_all remember seen cs)) (records caligari seen o cs)
owners_all [] seen o g a = tt
owners_all (c ∷ cs) seen o g a =
    let n = new seen c a.0.owner_known_lem in
    let g₁ = good_more seen g c n in
    let here : eqb (identifier c) (identifier c) ≡ true = eq-eqb (identifier c) (identifier c) refl in
    let u : used (identifier c) (c ∷ seen) ≡ true = rw here in
    let owner = end-used (c ∷ seen) g₁ u (g₁.ways (identifier c) u) in
    if_all (OwnerThere (after_all remember (c ∷ seen) cs)) (listed (kind c)) (record_of seen o c) (records caligari (c ∷ seen) (o + size c) cs)
    record {
      owner_there = stays-used (topmost (c ∷ seen) (identifier c)) cs (c ∷ seen) owner;
      parent-there = known (zero_or-used (parent c) seen n.known);
    }
    (owners_all cs (c ∷ seen) (o + size c) g₁ a.1)
  where
    known : (parent c ≡ 0) ⊎ (used (parent c) seen ≡ true) → (parent c ≡ 0) ⊎ (used (parent c) (after_all remember (c ∷ seen) cs) ≡ true)
    known (inl z) = inl z
    known (inr k) = inr (stays-used (parent c) cs (c ∷ seen) (or_else (eqb (identifier c) (parent c)) (used (parent c) seen) (λ e. k)))

pub owners_there : OwnersThere
owners_there s l m = owners_all l.chunks [] 32 record { closed = λ x k. absurd (false≢true k); ways = λ x k. absurd (false≢true k) } m.chunks
