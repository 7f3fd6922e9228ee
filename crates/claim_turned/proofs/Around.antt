-- Two layouts that are the same around a place, and there begin with chunks of which a reader gets the same but for the
-- length: of the whole layouts it gets the same, but for that length.
use mathlib.Core.Path.{◌≡◌, refl, sym, ◌∙◌}
use Prim.Native.Nat.{ℕ, zero, suc, ◌+◌, ◌-◌}
use native.Mathlib.Omega.{arith}
use mathlib.Core.List.{List, [], ◌∷◌, ◌++◌}
use mathlib.Core.Option.{some, some-ne-none}
use lib.ListN.{length, get_elem?, set}
use Rattle.studio_rules.specs.declared.Record.{Record}
use Rattle.studio_rules.specs.Layout.{Run, known, size, ◌then◌}
use Rattle.studio_rules.specs.Gives.{record_count, record_of, records_of, meshes_of}
use Rattle.studio_rules.proofs.Gaps.{record_count-same}
use Rattle.studio_rules.proofs.Jumps.{length-records}
use Rattle.claim_turned.specs.Turned.{resized}
use Rattle.claim_turned.proofs.Then.{records_then}
use Rattle.studio_rules.proofs.Then.{size_then, meshes_then}
use Rattle.claim_turned.proofs.Bare.{bare, same-of-bare, bare_then}
use Rattle.claim_turned.proofs.Context.{Context, behind, inner, plug}
use Rattle.claim_turned.proofs.Field.{offset_in}
use Rattle.claim_turned.proofs.Number.{number_in}
use Rattle.claim_turned.proofs.Exchange.{mesh-same, Same}

-- ---- one length changed in a list

-- number i of rs is r, and qs is rs with the length n there
abbrev Changed : ℕ → Record → ℕ → List Record → List Record → Type 0
Changed n r i rs qs = (get_elem? rs i ≡ some r) × (qs ≡ set rs i (resized n r))

changed_behind : (n : ℕ) (r : Record) (xs rs qs : List Record) (i j : ℕ) → j ≡ length xs + i → Changed n r i rs qs → Changed n r j (xs ++ rs) (xs ++ qs)
changed_behind n r [] rs qs i j e h = let e₀ : j ≡ i = omega arith in rw e₀ h
changed_behind n r (x ∷ xs) rs qs i zero e h = absurd (omega arith)
changed_behind n r (x ∷ xs) rs qs i (suc j) e h = let k = changed_behind n r xs rs qs i j (omega arith) h in (k.0, rw k.1)

changed_before : (n : ℕ) (r : Record) (rs qs ys : List Record) (i : ℕ) → Changed n r i rs qs → Changed n r i (rs ++ ys) (qs ++ ys)
changed_before n r [] qs ys i h = absurd (some-ne-none r (sym h.0))
changed_before n r (x ∷ rs) qs ys zero h = (h.0, rw h.1)
changed_before n r (x ∷ rs) qs ys (suc i) h = let k = changed_before n r rs (set rs i (resized n r)) ys i (h.0, refl) in (k.0, rw (h.1, ← k.1))

-- ---- around a place

pub size-plug : (c : Context) (t u : Run) → size u ≡ size t → size (plug c u) ≡ size (plug c t)
size-plug (behind a) t u e = omega (arith, size_then a t, size_then a u)
size-plug (inner a id own c rest) t u e =
    omega (arith, size_then a (known id own (plug c t) rest), size_then a (known id own (plug c u) rest), size-plug c t u e)

pub bare-plug : (c : Context) (t u : Run) → bare u ≡ bare t → bare (plug c u) ≡ bare (plug c t)
bare-plug (behind a) t u e = bare_then a u ∙ rw e (sym (bare_then a t))
bare-plug (inner a id own c rest) t u e =
    bare_then a (known id own (plug c u) rest) ∙ rw (bare-plug c t u e) (sym (bare_then a (known id own (plug c t) rest)))

pub meshes-plug : (c : Context) (t u : Run) → size u ≡ size t → bare u ≡ bare t → ((o at l : ℕ) → meshes_of o at l u ≡ meshes_of o at l t) →
    (o at l : ℕ) → meshes_of o at l (plug c u) ≡ meshes_of o at l (plug c t)
meshes-plug (behind a) t u z b h o at l = meshes_then o (o + size a) at l a u refl ∙ rw (h (o + size a) at l) (sym (meshes_then o (o + size a) at l a t refl))
meshes-plug (inner a id own c rest) t u z b h o at l =
    let o₁ : ℕ = o + size a in
    let k = meshes-plug c t u z b h (o₁ + (6 + length own)) (o₁ + 6) (length own - 1) in
    meshes_then o o₁ at l a (known id own (plug c u) rest) refl ∙
    rw (mesh-same at l (plug c t) (plug c u) (bare-plug c t u b), k, size-plug c t u z) (sym (meshes_then o o₁ at l a (known id own (plug c t) rest) refl))

-- Record number i of a layout t at o is `ahead` bytes from there and has the length `len`; with n as its length the list
-- is that of u.
pub record Listed (n len i ahead : ℕ) (o depth parent next : ℕ) (t u : Run) : Type 0 where
  pub r : Record
  pub at : r.offset ≡ o + ahead
  pub long : r.len ≡ len
  pub changed : Changed n r i (records_of o depth parent next t) (records_of o depth parent next u)

pub listed-first : (id : ℕ) (own : List ℕ) (kids rest kids' rest' : Run) (n : ℕ) → Same id own kids rest kids' rest' → n ≡ 6 + length own + size kids' → (o depth parent next : ℕ) →
    Listed n (6 + length own + size kids) 0 0 o depth parent next (known id own kids rest) (known id own kids' rest')
listed-first id own kids rest kids' rest' n h e o depth parent next = record {
  r = record_of o depth parent next id own kids;
  at = omega arith;
  long = refl;
  changed = (refl, rw (h.laters o depth parent next, ← e, h.counts));
}

listed-behind : (n len i j ahead far : ℕ) (o depth parent next : ℕ) (a t u : Run) → j ≡ record_count a + i → far ≡ size a + ahead →
    Listed n len i ahead (o + size a) depth parent (next + record_count a) t u → Listed n len j far o depth parent next (a then t) (a then u)
listed-behind n len i j ahead far o depth parent next a t u e w f =
    let ra = records_of o depth parent next a in
    record {
      r = f.r;
      at = omega (arith, f.at);
      long = f.long;
      changed =
          rw (records_then o (o + size a) depth parent next (next + record_count a) a t refl refl, records_then o (o + size a) depth parent next (next + record_count a) a u refl refl)
          (changed_behind n f.r ra _ _ i j (omega (arith, length-records o depth parent next a)) f.changed);
    }

listed-inner : (n len i ahead : ℕ) (o depth parent next : ℕ) (id : ℕ) (own : List ℕ) (t u rest : Run) → size u ≡ size t → record_count u ≡ record_count t →
    Listed n len i ahead (o + (6 + length own)) (suc depth) next (suc next) t u →
    Listed n len (suc i) (6 + length own + ahead) o depth parent next (known id own t rest) (known id own u rest)
listed-inner n len i ahead o depth parent next id own t u rest z m f =
    let o₁ : ℕ = o + (6 + length own) in
    let k = changed_before n f.r (records_of o₁ (suc depth) next (suc next) t) (records_of o₁ (suc depth) next (suc next) u) (records_of (o + (6 + length own + size t)) depth parent (suc (next + record_count t)) rest) i f.changed in
    record { r = f.r; at = omega (arith, f.at); long = f.long; changed = (k.0, rw (z, m, k.1)) }

pub listed-plug : (c : Context) (t u : Run) (n len : ℕ) → size u ≡ size t → bare u ≡ bare t → ((o depth parent next : ℕ) → Listed n len 0 0 o depth parent next t u) →
    (o depth parent next : ℕ) → Listed n len (number_in c) (offset_in c) o depth parent next (plug c t) (plug c u)
listed-plug (behind a) t u n len z b h o depth parent next = listed-behind n len 0 (record_count a) 0 (size a) o depth parent next a t u (omega arith) (omega arith) (h (o + size a) depth parent (next + record_count a))
listed-plug (inner a id own c rest) t u n len z b h o depth parent next =
    let m = same-of-bare record_count record_count-same (plug c t) (plug c u) (bare-plug c t u b) in
    let o₁ : ℕ = o + size a in
    let k : ℕ = next + record_count a in
    listed-behind n len (suc (number_in c)) (record_count a + suc (number_in c)) (6 + length own + offset_in c) (size a + (6 + length own + offset_in c)) o depth parent next a (known id own (plug c t) rest) (known id own (plug c u) rest) refl refl
    (listed-inner n len (number_in c) (offset_in c) o₁ depth parent k id own (plug c t) (plug c u) rest (size-plug c t u z) m (listed-plug c t u n len z b h (o₁ + (6 + length own)) (suc depth) k (suc k)))
