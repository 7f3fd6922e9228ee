-- The same bytes, parted twice into the children of a chunk and what follows the chunk: the two ways differ by whole
-- unlisted chunks only. Nothing else may stand both in the chunk and behind it (studio_rules/specs/Apart).
use mathlib.Core.Path.{◌≡◌, refl, sym, ap, ◌∙◌}
use mathlib.Core.Logic.{◌⊎◌, inl, inr}
use Prim.Native.Nat.{ℕ, ◌+◌, ◌^◌, ◌<◌, ◌≤◌}
use native.Mathlib.Omega.{arith}
use mathlib.Core.Bool.{Bool, true, false, true≢false}
use mathlib.Core.List.{List, ◌++◌}
use lib.ListN.{length, take, drop, take-append-drop, length-append}
use lib.Seq.{take-append-le, drop-append-le, take_at, drop_at}
use lib.Dec.{leb}
use borrow.Author.Tests.{leb-true, leb-false}
use Rattle.studio_rules.specs.Table.{under}
use Rattle.studio_rules.specs.Layout.{Run, end, skip, known, size, bytes, ◌then◌}
use Rattle.studio_rules.specs.Gives.{record_count}
use Rattle.studio_rules.specs.Parses.{Place, Parses}
use Rattle.studio_rules.proofs.Sound.{length-bytes}
use Rattle.studio_rules.proofs.Then.{size_then}
use Rattle.claim_turned.proofs.First.{first_under}
use Rattle.claim_turned.proofs.Prefix.{skip_first, continues, one-run}

-- two ways to part a list, of which the second takes more to the front
part-again : (a b c d : List ℕ) → a ++ b ≡ c ++ d → length a ≤ length c → (x : List ℕ) × (c ≡ a ++ x) × (b ≡ x ++ d)
part-again a b c d e l =
    let front : take (length a) c ≡ a = sym (take-append-le (length a) c d l) ∙ ap (take (length a)) (sym e) ∙ take_at a b (length a) refl in (
      drop (length a) c,
      sym (take-append-drop (length a) c) ∙ ap (λ (s : List ℕ). s ++ drop (length a) c) front,
      sym (drop_at a b (length a) refl) ∙ ap (drop (length a)) e ∙ drop-append-le (length a) c d l,
    )

pub sizes-add : (t r u v : Run) → bytes t ++ bytes r ≡ bytes u ++ bytes v → size t + size r ≡ size u + size v
sizes-add t r u v e =
    omega (arith, ap length e, length-append (bytes t) (bytes r), length-append (bytes u) (bytes v), length-bytes t, length-bytes r, length-bytes u, length-bytes v)

-- a run without known chunks is one of any parent
pub unlisted-anywhere : (q p : Place) (w : Run) → record_count w ≡ 0 → Parses q w → Parses p w
unlisted-anywhere q p end n h = tt
unlisted-anywhere q p (skip id body w) n h = (h.0, unlisted-anywhere q p w n h.1)
unlisted-anywhere q p (known id own kids w) n h = absurd (omega arith)

-- u is t and then unlisted chunks w, with which r begins: behind them r goes on as v
pub record Takes (t r u v : Run) : Type 0 where
  pub w : Run
  pub none-known : record_count w ≡ 0
  pub more : u ≡ t then w
  pub fewer : r ≡ w then v

-- q is the chunk, p the chunk around it
module _ (q p : Place) (apart : (y : ℕ) → under q.id y ≡ true → under p.id y ≡ false) where
  none-known : (w r : Run) (x : List ℕ) → size r < 2 ^ 32 → Parses q w → Parses p r → bytes r ≡ bytes w ++ x → record_count w ≡ 0
  none-known end r x l h h' e = refl
  none-known (skip id body w) r x l h h' e =
      let f = skip_first p id body w r x l h.0 h' e in
      none-known w f.rest x (omega (arith, ap size f.is)) h.1 f.parses f.bytes_are
  none-known (known id own kids w) r x l h h' e =
      let n = ap length e in
      let here = first_under p q id (6 + length own + size kids) own ((own ++ (bytes kids ++ bytes w)) ++ x) kids r h.0
      (omega (arith, length-bytes r, length-append (own ++ (bytes kids ++ bytes w)) x, length-append own (bytes kids ++ bytes w), length-append (bytes kids) (bytes w), length-bytes kids)) l h' e in
      absurd (true≢false (sym here ∙ apart id h.0.in_place))

  begins-with : (w r v : Run) → size r < 2 ^ 32 → Parses q w → Parses p r → Parses p v → bytes r ≡ bytes w ++ bytes v → (record_count w ≡ 0) × (r ≡ w then v)
  begins-with w r v l hw hr hv e =
      let n = none-known w r (bytes v) l hw hr e in
      let d = continues p w r (bytes v) l (unlisted-anywhere q p w n hw) hr e in
      (n, d.is ∙ ap (λ (t : Run). w then t) (one-run p v d.rest (omega (arith, ap size d.is, size_then w d.rest)) hv d.parses d.bytes_are))

  takes : (t r u v : Run) → size u < 2 ^ 32 → size r < 2 ^ 32 → Parses q t → Parses p r → Parses q u → Parses p v → bytes t ++ bytes r ≡ bytes u ++ bytes v → size t ≤ size u → Takes t r u v
  takes t r u v l m ht hr hu hv e z =
      let x = part-again (bytes t) (bytes r) (bytes u) (bytes v) e (omega (arith, length-bytes t, length-bytes u)) in
      let c = continues q t u x.0 l ht hu x.1 in
      let b = begins-with c.rest r v m c.parses hr hv (rw (← c.bytes_are) at x.2) in
      record { w = c.rest; none-known = b.0; more = c.is; fewer = b.1 }

  pub two_ways : (t r u v : Run) → size t + size r < 2 ^ 32 → Parses q t → Parses p r → Parses q u → Parses p v → bytes t ++ bytes r ≡ bytes u ++ bytes v → Takes t r u v ⊎ Takes u v t r
  two_ways t r u v l ht hr hu hv e = go (sizes-add t r u v e) (leb (size t) (size u)) refl
    where
      go : size t + size r ≡ size u + size v → (b : Bool) → leb (size t) (size u) ≡ b → Takes t r u v ⊎ Takes u v t r
      go z true b = inl (takes t r u v (omega arith) (omega arith) ht hr hu hv e (leb-true _ _ b))
      go z false b = inr (takes u v t r (omega arith) (omega arith) hu hv ht hr (sym e) (omega (arith, leb-false (size t) (size u) b)))
