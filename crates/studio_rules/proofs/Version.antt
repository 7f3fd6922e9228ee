-- The version of a file by its bytes is that of its layout. By the layout: each chunk is told by its header, and the first
-- 0002 has length 10, since its row says so.
use mathlib.Core.Path.{◌≡◌, refl, sym, ap, ◌∙◌}
use Prim.Native.Nat.{ℕ, zero, suc, ◌+◌, ◌^◌, ◌<◌}
use native.Mathlib.Omega.{arith}
use mathlib.Core.Bool.{Bool, true, false, not, cond, true≢false}
use mathlib.Core.List.{List, [], ◌∷◌, ◌++◌, append_assoc}
use lib.ListN.{length, take, length-append}
use lib.Seq.{take_at}
use lib.Dec.{eqb, ltb}
use borrow.Author.Tests.{eqb-true, ltb-true, not-true}
use Rattle.shared_words.specs.Bytes.{value}
use Rattle.studio_rules.specs.Table.{listed, shape, plus, rows}
use Rattle.studio_rules.specs.Layout.{Run, end, skip, known, header, size, bytes, child}
use Rattle.studio_rules.specs.Rules.{Parent, inside, unlisted, children_in_plus, Own, Obeys, version}
use Rattle.shared_words.specs.Conditions.{broken}
use Rattle.studio_rules.specs.Walk.{version_run, version_in}
use Rattle.shared_words.proofs.Bools.{and_parts}
use Rattle.studio_rules.proofs.Rows.{under-listed, listed_small}
use Rattle.studio_rules.proofs.Sound.{length-bytes}
use Rattle.studio_rules.proofs.Complete.{no_bytes, Headed, headed}

-- a chunk that is no 0002 of length 10 is passed
passed : (k id n : ℕ) (body rest : List ℕ) → n ≡ 6 + length body → id < 0x1_0000 → n < 2 ^ 32 → eqb id 0x0002 ≡ false →
    version_run (suc k) (header id n ++ (body ++ rest)) ≡ version_run k rest
passed k id n body rest e h l z = go (header id n ++ (body ++ rest)) (headed 0 id n body rest e h l)
  where
    go : (s : List ℕ) → Headed 0 s id n body rest → version_run (suc k) s ≡ version_run k rest
    go s f = rw (f.length-is, f.good, f.id-is, z, f.rest-is)

none_told : (k : ℕ) → version_run (suc k) [] ≡ 0
unfolding broken
none_told k = refl

-- a 0002 of length 10 tells it
told : (k : ℕ) (own rest : List ℕ) → length own ≡ 4 → version_run (suc k) (header 0x0002 10 ++ (own ++ rest)) ≡ value own
told k own rest e = go (header 0x0002 10 ++ (own ++ rest)) (headed 0 0x0002 10 own rest (omega arith) (omega arith) (omega arith)) (take_at own rest 4 e)
  where
    go : (s : List ℕ) → Headed 0 s 0x0002 10 own rest → take 4 (own ++ rest) ≡ own → version_run (suc k) s ≡ value own
    go s f t = rw (f.length-is, f.good, f.id-is, f.body_is)

-- a 0002 has four bytes of own data and no children
four_bytes : (p : Parent) (seen own : List ℕ) (kids : Run) → Own p seen 0x0002 own → children_in_plus (inside p seen 0x0002 own) kids ≡ true → (length own ≡ 4) × (bytes kids ≡ [])
unfolding shape plus rows
four_bytes p seen own kids a i = (sym (eqb-true _ _ a.own_data_exact_lem), no_bytes kids i)

-- a skipped chunk is none
not_0002 : (id : ℕ) → unlisted id ≡ true → eqb id 0x0002 ≡ false
unfolding listed rows
not_0002 id u = go (eqb id 0x0002) refl
  where
    go : (b : Bool) → eqb id 0x0002 ≡ b → b ≡ false
    go false e = refl
    go true e = absurd (true≢false (not-true _ (and_parts (ltb 0x0002 0x1_0000) (not (listed 0x0002)) (rw (eqb-true id 0x0002 e) at u)).1))

known-told : (k : ℕ) (p : Parent) (seen : List ℕ) (id : ℕ) (own : List ℕ) (kids rest : Run) (b : Bool) → eqb id 0x0002 ≡ b → 6 + length own + size kids < 2 ^ 32 →
    Own p seen id own → children_in_plus (inside p seen id own) kids ≡ true → version_run k (bytes rest) ≡ version rest →
    version_run (suc k) (bytes (known id own kids rest)) ≡ value (cond b own (child 0x0002 rest))
known-told k p seen id own kids rest true e l a i ih =
    let is : id ≡ 0x0002 = eqb-true id 0x0002 e in
    let f = four_bytes p seen own kids (rw is at a) (rw is at i) in
    let n : 6 + length own + size kids ≡ 10 = omega (arith, length-bytes kids, ap length f.1, f.0) in
    let same : bytes (known id own kids rest) ≡ header 0x0002 10 ++ (own ++ bytes rest) = rw (is, n, f.1) in
    ap (version_run (suc k)) same ∙ told k own (bytes rest) f.0
known-told k p seen id own kids rest false e l a i ih =
    let n : ℕ = 6 + length own + size kids in
    let same : bytes (known id own kids rest) ≡ header id n ++ ((own ++ bytes kids) ++ bytes rest) = ap (λ (x : List ℕ). header id n ++ x) (sym (append_assoc own (bytes kids) (bytes rest))) in
    ap (version_run (suc k)) same ∙
    passed k id n (own ++ bytes kids) (bytes rest) (omega (arith, length-append own (bytes kids), length-bytes kids)) (ltb-true _ _ (listed_small id (under-listed p.id id a.in_place))) l e ∙ ih

pub version-is : (t : Run) (k : ℕ) (p : Parent) (seen : List ℕ) → size t < k → size t < 2 ^ 32 → Obeys p seen t → version_run k (bytes t) ≡ version t
version-is t zero p seen hk hs h = absurd (omega arith)
version-is end (suc k) p seen hk hs h = none_told k
version-is (skip id body rest) (suc k) p seen hk hs h =
    let small = ltb-true id 0x1_0000 (and_parts (ltb id 0x1_0000) (not (listed id)) h.0).0 in
    passed k id (6 + length body) body (bytes rest) refl small (omega arith) (not_0002 id h.0) ∙ version-is rest k p seen (omega arith) (omega arith) h.1
version-is (known id own kids rest) (suc k) p seen hk hs h =
    known-told k p seen id own kids rest (eqb id 0x0002) refl (omega arith) h.0 h.1.in_plus (version-is rest k p (id ∷ seen) (omega arith) (omega arith) h.3)

-- of the bytes of a whole run
pub version-of-bytes : (t : Run) (s : List ℕ) (p : Parent) → bytes t ≡ s → size t < 2 ^ 32 → Obeys p [] t → version_in s ≡ version t
unfolding version_in
version-of-bytes t s p e l h = rw (← e) (version-is t (suc (length (bytes t))) p [] (omega (arith, length-bytes t)) l h)
