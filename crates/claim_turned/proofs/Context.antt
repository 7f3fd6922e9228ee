-- A layout around one place of it: what stands before, and the chunks that the place stands in. Its bytes tell it, so
-- that another reading differs from there on only.
use mathlib.Core.Path.{◌≡◌, ap, ◌∙◌}
use Prim.Native.Nat.{ℕ, ◌+◌, ◌^◌, ◌<◌}
use native.Mathlib.Omega.{arith}
use mathlib.Core.List.{List, ◌++◌}
use lib.ListN.{length}
use Rattle.studio_rules.specs.Layout.{Run, end, skip, known, header, size, bytes, ◌then◌}
use Rattle.studio_rules.specs.Parses.{Place, within, Parses}
use Rattle.studio_rules.proofs.Sound.{length-bytes}
use Rattle.claim_turned.proofs.First.{Parted, parted}
use Rattle.studio_rules.proofs.Then.{size_then, bytes_then}
use Rattle.claim_turned.proofs.Prefix.{Continues, continues, one-run}

-- The place stands behind the chunks of a run; or behind them, in a chunk of this identifier and own data, which the
-- rest of the run follows.
pub data Context : Type 0 where
  behind : Run → Context
  inner : Run → ℕ → List ℕ → Context → Run → Context

-- the layout with the run t from the place on, up to the end of the chunk around
abbrev pub plug : Context → Run → Run
plug (behind a) t = a then t
plug (inner a id own c rest) t = a then known id own (plug c t) rest

-- the bytes with x there
abbrev pub fill : Context → List ℕ → List ℕ
fill (behind a) x = bytes a ++ x
fill (inner a id own c rest) x = bytes a ++ (header id (6 + length own + length (fill c x)) ++ (own ++ (fill c x ++ bytes rest)))

-- the chunk around the place, in a layout of p
abbrev pub around : Place → Context → Place
around p (behind a) = p
around p (inner a id own c rest) = around (within id own) c

pub bytes-plug : (c : Context) (t : Run) → bytes (plug c t) ≡ fill c (bytes t)
bytes-plug (behind a) t = bytes_then a t
bytes-plug (inner a id own c rest) t =
    bytes_then a (known id own (plug c t) rest) ∙ rw (← (length-bytes (plug c t)), bytes-plug c t)

-- ---- what parses

pub parses_then : (p : Place) (a t : Run) → Parses p (a then t) → Parses p a × Parses p t
parses_then p end t h = (tt, h)
parses_then p (skip id body a) t h = let k = parses_then p a t h.1 in ((h.0, k.0), k.1)
parses_then p (known id own kids a) t h = let k = parses_then p a t h.2 in ((h.0, h.1, k.0), k.1)

pub parses-there : (p : Place) (c : Context) (t : Run) → Parses p (plug c t) → Parses (around p c) t
parses-there p (behind a) t h = (parses_then p a t h).1
parses-there p (inner a id own c rest) t h = parses-there (within id own) c t (parses_then p a (known id own (plug c t) rest) h).1.1

-- ---- another reading

-- the layout u of p is the same around the place, and has a run of the bytes x there
pub record Rereads (p : Place) (c : Context) (x : List ℕ) (u : Run) : Type 0 where
  pub there : Run
  pub is : u ≡ plug c there
  pub bytes_are : bytes there ≡ x
  pub parses : Parses (around p c) there

-- one chunk further in: v is the run from that chunk on, and f tells it
inner-rereads : (p : Place) (a : Run) (id : ℕ) (own : List ℕ) (c : Context) (rest : Run) (x : List ℕ) (u v : Run) → u ≡ a then v → (f : Parted p id own (fill c x) (bytes rest) v) →
    f.rest ≡ rest → Rereads (within id own) c x f.kids → Rereads p (inner a id own c rest) x u
inner-rereads p a id own c rest x u v e f r i =
    record { there = i.there; is = e ∙ ap (λ (v : Run). a then v) (f.is ∙ cc); bytes_are = i.bytes_are; parses = i.parses }

pub rereads : (p : Place) (c : Context) (t u : Run) (x : List ℕ) → size u < 2 ^ 32 → Parses p (plug c t) → Parses p u → bytes u ≡ fill c x → Rereads p c x u
rereads p (behind a) t u x l h h' e =
    let k = continues p a u x l (parses_then p a t h).0 h' e in
    record { there = k.rest; is = k.is; bytes_are = k.bytes_are; parses = k.parses }
rereads p (inner a id own c rest) t u x l h h' e =
    let o = parses_then p a (known id own (plug c t) rest) h in
    go o.1 (λ v m hv b. rereads (within id own) c t v x m o.1.1 hv b) (continues p a u _ l o.0 h' e)
  where
    go : Parses p (known id own (plug c t) rest) → ((v : Run) → size v < 2 ^ 32 → Parses (within id own) v → bytes v ≡ fill c x → Rereads (within id own) c x v) →
        Continues p a (header id (6 + length own + length (fill c x)) ++ (own ++ (fill c x ++ bytes rest))) u → Rereads p (inner a id own c rest) x u
    go o ih k =
        let z : size k.rest < 2 ^ 32 = omega (arith, ap size k.is, size_then a k.rest) in
        let f = parted p id own (fill c x) (bytes rest) (plug c t) k.rest o.0 z k.parses k.bytes_are in
        inner-rereads p a id own c rest x u k.rest k.is f
        (one-run p rest f.rest (omega (arith, ap size f.is)) o.2 f.parses-rest f.rest-bytes)
        (ih f.kids (omega (arith, ap size f.is)) f.parses_kids f.kids_bytes)
