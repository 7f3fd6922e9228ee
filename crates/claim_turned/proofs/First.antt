-- The first chunk of a run is told by the run's bytes: its header, and by its row how many bytes its own data has.
use mathlib.Core.Path.{◌≡◌, refl, sym, ap, ◌∙◌}
use Prim.Native.Nat.{ℕ, ◌+◌, ◌^◌, ◌<◌}
use native.Mathlib.Omega.{arith}
use mathlib.Core.Bool.{true}
use mathlib.Core.List.{List, ◌++◌}
use lib.ListN.{length, take, drop, length-append}
use lib.Seq.{take_at, drop_at}
use borrow.Author.Tests.{eqb-true}
use Rattle.shared_words.specs.Bytes.{value}
use Rattle.studio_rules.specs.Table.{under, shape}
use Rattle.studio_rules.specs.OwnData.{own_size}
use Rattle.studio_rules.specs.Layout.{Run, end, skip, known, header, size, bytes}
use Rattle.studio_rules.specs.Rules.{unlisted}
use Rattle.studio_rules.specs.Walk.{length_field}
use Rattle.studio_rules.specs.Parses.{Place, within, Fits, Parses}
use Rattle.shared_words.proofs.Bytes.{value-le}
use Rattle.studio_rules.proofs.Sound.{length-bytes}
use Rattle.studio_rules.proofs.OwnSize.{own_size-more}
use Rattle.studio_rules.proofs.Parses.{fits-listed, fits_small, unlisted_small, not-both}

-- equal lists, parted at equal lengths
pub append_same : (a b x y : List ℕ) → a ++ x ≡ b ++ y → length a ≡ length b → (a ≡ b) × (x ≡ y)
append_same a b x y e l = (
  sym (take_at a x (length b) l) ∙ ap (take (length b)) e ∙ take_at b y (length b) refl,
  sym (drop_at a x (length b) l) ∙ ap (drop (length b)) e ∙ drop_at b y (length b) refl,
)

header-same : (id id' n n' : ℕ) (x y : List ℕ) → id < 0x1_0000 → id' < 0x1_0000 → n < 2 ^ 32 → n' < 2 ^ 32 → header id n ++ x ≡ header id' n' ++ y →
    (id ≡ id') × (n ≡ n') × (x ≡ y)
header-same id id' n n' x y h h' l l' e = (
  sym (value-le 2 id h) ∙ ap (λ (s : List ℕ). value (take 2 s)) e ∙ value-le 2 id' h',
  sym (value-le 4 n l) ∙ ap length_field e ∙ value-le 4 n' l',
  ap (λ (s : List ℕ). drop 6 s) e,
)

own_same : (p : Place) (id : ℕ) (own own' : List ℕ) (kids kids' : Run) (x y : List ℕ) → Fits p id own kids → Fits p id own' kids' → own ++ x ≡ own' ++ y → (own ≡ own') × (x ≡ y)
own_same p id own own' kids kids' x y a a' e =
    let s = own_size-more (shape id) p.own own x (eqb-true _ _ a.own_data_exact_lem) in
    let s' = own_size-more (shape id) p.own own' y (eqb-true _ _ a'.own_data_exact_lem) in
    append_same own own' x y e (sym s ∙ ap (own_size (shape id) p.own) e ∙ s')

-- ---- the first chunk

-- A run of p whose bytes are a header of id and n, and then x, begins with a chunk of that identifier and length.
pub data First (p : Place) (id n : ℕ) (x : List ℕ) : Run → Type 0 where
  skips : {body : List ℕ} {rest : Run} → unlisted id ≡ true → Parses p rest → n ≡ 6 + length body → body ++ bytes rest ≡ x → First p id n x (skip id body rest)
  enters : {own : List ℕ} {kids rest : Run} → Fits p id own kids → Parses (within id own) kids → Parses p rest → n ≡ 6 + length own + size kids →
      own ++ (bytes kids ++ bytes rest) ≡ x → First p id n x (known id own kids rest)

pub first : (p : Place) (id n : ℕ) (x : List ℕ) (u : Run) → id < 0x1_0000 → n < 2 ^ 32 → size u < 2 ^ 32 → Parses p u → bytes u ≡ header id n ++ x → First p id n x u
first p id n x end i l m h e = absurd (omega (arith, ap length e))
first p id n x (skip id' body rest) i l m h e =
    let q = header-same id' id (6 + length body) n (body ++ bytes rest) x (unlisted_small id' h.0) i (omega arith) l e in
    rw q.0 (skips (rw q.0 at h.0) h.1 (sym q.1) q.2)
first p id n x (known id' own kids rest) i l m h e =
    let q = header-same id' id (6 + length own + size kids) n (own ++ (bytes kids ++ bytes rest)) x (fits_small p id' own kids h.0) i (omega arith) l e in
    rw q.0 (enters (rw q.0 at h.0) (rw q.0 at h.1) h.2 (sym q.1) q.2)

-- it is skipped where the identifier is unlisted
pub record Skips (p : Place) (id : ℕ) (body x : List ℕ) (u : Run) : Type 0 where
  pub rest : Run
  pub is : u ≡ skip id body rest
  pub bytes_are : bytes rest ≡ x
  pub parses : Parses p rest

pub first-skip : (p : Place) (id : ℕ) (body x : List ℕ) (u : Run) → unlisted id ≡ true → size u < 2 ^ 32 → Parses p u → bytes u ≡ header id (6 + length body) ++ (body ++ x) → 6 + length body < 2 ^ 32 →
    Skips p id body x u
first-skip p id body x u f m h e l = go u (first p id (6 + length body) (body ++ x) u (unlisted_small id f) l m h e)
  where
    go : (u : Run) → First p id (6 + length body) (body ++ x) u → Skips p id body x u
    go _ (enters a k o n y) = absurd (not-both id f (fits-listed _ _ _ _ a))
    go _ (skips {body = body'} {rest = rest} a o n y) =
        let q = append_same body' body (bytes rest) x y (omega arith) in
        record { rest = rest; is = rw q.0; bytes_are = q.1; parses = o }

-- it is known where the identifier is that of a chunk of p, and has the same own data
pub record Enters (p : Place) (id n : ℕ) (own x : List ℕ) (u : Run) : Type 0 where
  pub kids : Run
  pub rest : Run
  pub is : u ≡ known id own kids rest
  pub len : n ≡ 6 + length own + size kids
  pub bytes_are : bytes kids ++ bytes rest ≡ x
  pub fits : Fits p id own kids
  pub parses_kids : Parses (within id own) kids
  pub parses-rest : Parses p rest

pub first-known : (p : Place) (id n : ℕ) (own x : List ℕ) (k u : Run) → Fits p id own k → n < 2 ^ 32 → size u < 2 ^ 32 → Parses p u → bytes u ≡ header id n ++ (own ++ x) → Enters p id n own x u
first-known p id n own x k u f l m h e = go u (first p id n (own ++ x) u (fits_small p id own k f) l m h e)
  where
    go : (u : Run) → First p id n (own ++ x) u → Enters p id n own x u
    go _ (skips a o n y) = absurd (not-both id a (fits-listed p id own k f))
    go _ (enters {own = own'} {kids = kids} {rest = rest} a c o n y) =
        let q = own_same p id own' own kids k (bytes kids ++ bytes rest) x a f y in
        record { kids = kids; rest = rest; is = rw q.0; len = rw (← q.0) n; bytes_are = q.1; fits = rw q.0 at a; parses_kids = rw q.0 at c; parses-rest = o }

-- where n counts the bytes k of the children, they are those of its children, and y are those of what follows it
pub record Parted (p : Place) (id : ℕ) (own k y : List ℕ) (u : Run) : Type 0 where
  pub kids : Run
  pub rest : Run
  pub is : u ≡ known id own kids rest
  pub kids_bytes : bytes kids ≡ k
  pub rest-bytes : bytes rest ≡ y
  pub parses_kids : Parses (within id own) kids
  pub parses-rest : Parses p rest

parted-by : (p : Place) (id : ℕ) (own k y : List ℕ) (u : Run) → Enters p id (6 + length own + length k) own (k ++ y) u → Parted p id own k y u
parted-by p id own k y u f =
    let b = append_same (bytes f.kids) k (bytes f.rest) y f.bytes_are (omega (arith, f.len, length-bytes f.kids)) in
    record { kids = f.kids; rest = f.rest; is = f.is; kids_bytes = b.0; rest-bytes = b.1; parses_kids = f.parses_kids; parses-rest = f.parses-rest }

pub parted : (p : Place) (id : ℕ) (own k y : List ℕ) (t u : Run) → Fits p id own t → size u < 2 ^ 32 → Parses p u → bytes u ≡ header id (6 + length own + length k) ++ (own ++ (k ++ y)) → Parted p id own k y u
parted p id own k y t u f m h e =
    let l : 6 + length own + length k < 2 ^ 32 = omega (arith, ap length e, length-bytes u, length-append own (k ++ y), length-append k y) in
    parted-by p id own k y u (first-known p id (6 + length own + length k) own (k ++ y) t u f l m h e)

-- a listed identifier at the start of a run of p may stand under p
pub first_under : (p q : Place) (id n : ℕ) (own x : List ℕ) (k u : Run) → Fits q id own k → n < 2 ^ 32 → size u < 2 ^ 32 → Parses p u → bytes u ≡ header id n ++ x → under p.id id ≡ true
first_under p q id n own x k u f l m h e = go u (first p id n x u (fits_small q id own k f) l m h e)
  where
    go : (u : Run) → First p id n x u → under p.id id ≡ true
    go _ (skips a o n y) = absurd (not-both id a (fits-listed q id own k f))
    go _ (enters a c o n y) = a.in_place
