-- The bound for what stands in a chunk, as each chunk that looks at it reads it: what a chunk may stand under tells which
-- bound it is.
use mathlib.Core.Path.{◌≡◌, refl, sym, ap, ◌∙◌, subst}
use mathlib.Core.Bool.{Bool, true, false, not, ◌||◌, false≢true}
use mathlib.Core.List.{List}
use Prim.Native.Nat.{ℕ, ◌*◌, ◌<◌, min}
use native.Mathlib.Omega.{arith}
use lib.Dec.{eqb, ltb}
use borrow.Author.Tests.{eqb-true, eqb-false, eq-eqb, ne_eqb, lt-ltb, le-ltb, ltb-true, ltb-false}
use Rattle.shared_words.specs.Bytes.{le}
use Rattle.shared_words.specs.Lists.{every}
use Rattle.shared_words.proofs.Bools.{or_second}
use Rattle.studio_rules.specs.Table.{Shape, fixed, name, counted, each, named_words, named, rows, listed, under, shape}
use Rattle.studio_rules.specs.OwnData.{count, own_size, root}
use Rattle.studio_rules.specs.Rules.{Parent}
use Rattle.studio_rules.proofs.Rows.{every_id, listed-every, under-listed}
use Rattle.studio_row.specs.Packed.{row_of, shape_in}
use Rattle.studio_row.proofs.Facts.{shape_is}
use Rattle.studio_own_size.specs.declared.Flaw.{Flaw}
use Rattle.studio_own_size.specs.Own.{FitIs, CountIs}
use Rattle.studio_own_data.specs.Bounds.{BoundIs}
use Rattle.studio_own_data.proofs.Conditions.{some-around}
use Rattle.std.specs.Prelude.{Result, Ok, Err}

-- only a B010 stands in a B002
in_part_test : every_id (λ x. not (under 0xB002 x) || eqb x 0xB010) rows ≡ true
unfolding rows every under
in_part_test = refl

in_part : (x : ℕ) → under 0xB002 x ≡ true → x ≡ 0xB010
in_part x u = eqb-true x 0xB010 (or_second (not (under 0xB002 x)) _ (listed-every (λ x. not (under 0xB002 x) || eqb x 0xB010) in_part_test x (under-listed 0xB002 x u)) (rw u))

-- and only there
part-only : (q : ℕ) → under q 0xB010 ≡ true → q ≡ 0xB002
unfolding rows under
part-only q u = go (eqb q 0xB002) refl u
  where
    go : (b : Bool) → eqb q 0xB002 ≡ b → (b || false) ≡ true → q ≡ 0xB002
    go true e h = eqb-true q 0xB002 e
    go false e h = absurd (false≢true h)

-- own data that takes as many bytes, whatever is around it
same_size : (sh : Shape) (a b body : List ℕ) → count a ≡ count b → own_size sh a body ≡ own_size sh b body
same_size (fixed k) a b body e = refl
same_size name a b body e = refl
same_size (counted k) a b body e = refl
same_size (each k) a b body e = ap (λ (n : ℕ). k * n) e
same_size named_words a b body e = refl
same_size (named k) a b body e = refl

own_with : (sh : Shape) (a b body : List ℕ) → own_size sh a body ≡ own_size sh b body → (r : Result ℕ Flaw) → FitIs sh a body r → FitIs sh b body r
own_with sh a b body e (Err Flaw.NoName) h = h
own_with sh a b body e (Err Flaw.Unfit) h = h
own_with sh a b body e (Err Flaw.TooLong) (f, h) = (f, record { named = h.named; beyond = omega (arith, e, h.beyond) })
own_with sh a b body e (Ok k) (f, h) = (f, record { named = h.named; is = h.is ∙ e; within = h.within })

-- a chunk in p, where it may stand
module _ (p : Parent) (id n : ℕ) (u : under p.id id ≡ true) (b : BoundIs p n) where
  -- but for a B010 the bound is the count word of the chunk around
  pub count-around : (id ≡ 0xB010 → ⊥) → n ≡ count p.own
  count-around ne = b.is ∙ rw (ne_eqb p.id 0xB002 (λ e. ne (in_part id (subst (λ (q : ℕ). under q id ≡ true) e u))))

  some_size : (body : List ℕ) → own_size (shape id) (le 2 n) body ≡ own_size (shape id) p.own body
  unfolding shape rows
  some_size body = go (eqb id 0xB010) refl
    where
      go : (e : Bool) → eqb id 0xB010 ≡ e → own_size (shape id) (le 2 n) body ≡ own_size (shape id) p.own body
      go true e = rw (eqb-true id 0xB010 e)
      go false e = same_size (shape id) (le 2 n) p.own body (sym (some-around n b.small).is ∙ count-around (eqb-false id 0xB010 e))

  -- so own data as it is told for some own data with that count word is as it is in p
  pub own_around : (row : ℕ) → listed id ≡ true → row ≡ row_of id → (body : List ℕ) (r : Result ℕ Flaw) → ((around : List ℕ) → CountIs around n → FitIs (shape_in row) around body r) → FitIs (shape_in row) p.own body r
  own_around row l e body r told =
      let sh : shape_in row ≡ shape id = ap shape_in e ∙ shape_is id l in
      rw sh (own_with (shape id) (le 2 n) p.own body (some_size body) r (rw sh at (told (le 2 n) (some-around n b.small))))

  -- of a B010 it is the order of the B002 around, as far as a father can tell
  pub below_order : id ≡ 0xB010 → (f : ℕ) → f < root → ltb f n ≡ ltb f p.order
  below_order i f l = go (ltb f p.order) refl
    where
      bound : n ≡ min p.order root
      bound = b.is ∙ rw (eq-eqb p.id 0xB002 (part-only p.id (subst (λ (x : ℕ). under p.id x ≡ true) i u)))

      go : (x : Bool) → ltb f p.order ≡ x → ltb f n ≡ x
      go true e = lt-ltb f n (omega (arith, bound, ltb-true f p.order e))
      go false e = le-ltb f n (omega (arith, bound, ltb-false f p.order e))
