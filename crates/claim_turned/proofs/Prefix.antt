-- Bytes that begin with those of a run of p have a layout in p that begins with that run.
-- By the run: each of its chunks is told by its bytes.
use mathlib.Core.Path.{◌≡◌, refl, sym, ap, ◌∙◌}
use Prim.Native.Nat.{ℕ, ◌+◌, ◌^◌, ◌<◌}
use native.Mathlib.Omega.{arith}
use mathlib.Core.Bool.{true}
use mathlib.Core.List.{List, [], ◌++◌, append_assoc, append-nil}
use lib.ListN.{length, length-append}
use Rattle.studio_rules.specs.Layout.{Run, end, skip, known, header, size, bytes, ◌then◌}
use Rattle.studio_rules.specs.Rules.{unlisted}
use Rattle.studio_rules.specs.Parses.{Place, within, Fits, Parses}
use Rattle.studio_rules.proofs.Sound.{length-bytes}
use Rattle.studio_rules.proofs.Then.{then_end}
use Rattle.claim_turned.proofs.First.{Skips, first-skip, Parted, parted}

-- the run u of p is t, and then a run whose bytes are x
pub record Continues (p : Place) (t : Run) (x : List ℕ) (u : Run) : Type 0 where
  pub rest : Run
  pub is : u ≡ t then rest
  pub bytes_are : bytes rest ≡ x
  pub parses : Parses p rest

no_chunk : (t : Run) → bytes t ≡ [] → t ≡ end
no_chunk end e = refl
no_chunk (skip id body t) e = absurd (omega (arith, ap length e))
no_chunk (known id own kids t) e = absurd (omega (arith, ap length e))

-- where nothing follows, u is t
whole : (p : Place) (t u : Run) → Continues p t [] u → u ≡ t
whole p t u c = c.is ∙ ap (λ (r : Run). t then r) (no_chunk c.rest c.bytes_are) ∙ then_end t

-- u begins with the first chunk of such a run: with a skipped one, which may be of any parent, or with a known one
pub skip_first : (p : Place) (id : ℕ) (body : List ℕ) (t u : Run) (x : List ℕ) → size u < 2 ^ 32 → unlisted id ≡ true → Parses p u → bytes u ≡ bytes (skip id body t) ++ x → Skips p id body (bytes t ++ x) u
skip_first p id body t u x l f h e =
    let n = ap length e in
    first-skip p id body (bytes t ++ x) u f l h (e ∙ ap (λ (s : List ℕ). header id (6 + length body) ++ s) (append_assoc body (bytes t) x))
    (omega (arith, length-bytes u, length-append (body ++ bytes t) x, length-append body (bytes t)))

known-first : (p : Place) (id : ℕ) (own : List ℕ) (kids t u : Run) (x : List ℕ) → size u < 2 ^ 32 → Fits p id own kids → Parses p u → bytes u ≡ bytes (known id own kids t) ++ x → Parted p id own (bytes kids) (bytes t ++ x) u
known-first p id own kids t u x l f h e =
    let a : (own ++ (bytes kids ++ bytes t)) ++ x ≡ own ++ (bytes kids ++ (bytes t ++ x)) = simp append_assoc in
    parted p id own (bytes kids) (bytes t ++ x) kids u f l h
    (e ∙ ap (λ (s : List ℕ). header id (6 + length own + size kids) ++ s) a ∙ ap (λ (k : ℕ). header id (6 + length own + k) ++ (own ++ (bytes kids ++ (bytes t ++ x)))) (sym (length-bytes kids)))

known-continues : (p : Place) (id : ℕ) (own : List ℕ) (kids t u : Run) (x : List ℕ) → (f : Parted p id own (bytes kids) (bytes t ++ x) u) → f.kids ≡ kids → Continues p t x f.rest →
    Continues p (known id own kids t) x u
known-continues p id own kids t u x f k c = record { rest = c.rest; is = f.is ∙ cc; bytes_are = c.bytes_are; parses = c.parses }

pub continues : (p : Place) (t u : Run) (x : List ℕ) → size u < 2 ^ 32 → Parses p t → Parses p u → bytes u ≡ bytes t ++ x → Continues p t x u
continues p end u x l h h' e = record { rest = u; is = refl; bytes_are = e; parses = h' }
continues p (skip id body t) u x l h h' e =
    let f = skip_first p id body t u x l h.0 h' e in
    let c = continues p t f.rest x (omega (arith, ap size f.is)) h.1 f.parses f.bytes_are in
    record { rest = c.rest; is = f.is ∙ ap (skip id body) c.is; bytes_are = c.bytes_are; parses = c.parses }
continues p (known id own kids t) u x l h h' e =
    let f = known-first p id own kids t u x l h.0 h' e in
    known-continues p id own kids t u x f
    (whole (within id own) kids f.kids
    (continues (within id own) kids f.kids [] (omega (arith, ap size f.is)) h.1 f.parses_kids (f.kids_bytes ∙ sym (append-nil (bytes kids)))))
    (continues p t f.rest x (omega (arith, ap size f.is)) h.2 f.parses-rest f.rest-bytes)

-- A RUN OF p HAS ONE LAYOUT
pub one-run : (p : Place) (t u : Run) → size u < 2 ^ 32 → Parses p t → Parses p u → bytes u ≡ bytes t → u ≡ t
one-run p t u l h h' e = whole p t u (continues p t u [] l h h' (e ∙ sym (append-nil (bytes t))))
