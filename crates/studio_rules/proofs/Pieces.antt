-- Bytes put in, counted as the chunks stand in the file that has them: none of a run's lie before it, none after it, and
-- all within it.
use mathlib.Core.Path.{◌≡◌, refl, ◌∙◌}
use Prim.Native.Nat.{ℕ, ◌+◌, ◌<◌, ◌≤◌}
use native.Mathlib.Omega.{arith}
use mathlib.Core.Bool.{◌&&◌, cond, and-false}
use mathlib.Core.List.{List, [], ◌∷◌, ◌++◌}
use lib.ListN.{length}
use lib.Dec.{ltb, leb}
use borrow.Author.Tests.{lt-ltb, le-ltb, le-leb, lt-leb}
use Rattle.studio_rules.specs.Layout.{size}
use Rattle.studio_rules.specs.Gaps.{Marked, end, put, skip, known, with, Piece, pieces, bytes_put, before}
use Rattle.shared_words.proofs.Bools.{both}
use Rattle.studio_rules.proofs.Gaps.{added}

put_append : (x y : ℕ) (ps qs : List Piece) → bytes_put x y (ps ++ qs) ≡ bytes_put x y ps + bytes_put x y qs
put_append x y [] qs = omega arith
put_append x y (p ∷ ps) qs = omega (arith, put_append x y ps qs)

-- ---- one piece, at o

hit : (x y o n : ℕ) → x ≤ o → o < y → cond (leb x o && ltb o y) n 0 ≡ n
hit x y o n h l = rw (both (leb x o) (ltb o y) (le-leb x o h) (lt-ltb o y l))

miss-after : (x y o n : ℕ) → y ≤ o → cond (leb x o && ltb o y) n 0 ≡ 0
miss-after x y o n h = rw (le-ltb o y h, and-false (leb x o))

miss-before : (x y o n : ℕ) → o < x → cond (leb x o && ltb o y) n 0 ≡ 0
miss-before x y o n h = rw (lt-leb x o h)

-- ---- the pieces of a run that begins at o

module _ (x y : ℕ) where
  split : (o id : ℕ) (own : List ℕ) (kids rest : Marked) →
      bytes_put x y (pieces o (known id own kids rest)) ≡ bytes_put x y (pieces (o + (6 + length own)) kids) + bytes_put x y (pieces (o + (6 + length own + size (with kids))) rest)
  split o id own kids rest = put_append x y (pieces (o + (6 + length own)) kids) (pieces (o + (6 + length own + size (with kids))) rest)

  pub none_before : (o : ℕ) (m : Marked) → y ≤ o → bytes_put x y (pieces o m) ≡ 0
  none_before o end h = refl
  none_before o (put id body rest) h = omega (arith, miss-after x y o (6 + length body) h, none_before (o + (6 + length body)) rest (omega arith))
  none_before o (skip id body rest) h = none_before (o + (6 + length body)) rest (omega arith)
  none_before o (known id own kids rest) h =
      split o id own kids rest ∙ omega (arith, none_before (o + (6 + length own)) kids (omega arith), none_before (o + (6 + length own + size (with kids))) rest (omega arith))

  none_after : (o : ℕ) (m : Marked) → o + size (with m) ≤ x → bytes_put x y (pieces o m) ≡ 0
  none_after o end h = refl
  none_after o (put id body rest) h = omega (arith, miss-before x y o (6 + length body) (omega arith), none_after (o + (6 + length body)) rest (omega arith))
  none_after o (skip id body rest) h = none_after (o + (6 + length body)) rest (omega arith)
  none_after o (known id own kids rest) h =
      split o id own kids rest ∙ omega (arith, none_after (o + (6 + length own)) kids (omega arith), none_after (o + (6 + length own + size (with kids))) rest (omega arith))

  pub all-within : (o : ℕ) (m : Marked) → x ≤ o → o + size (with m) ≤ y → bytes_put x y (pieces o m) ≡ added m
  all-within o end h l = refl
  all-within o (put id body rest) h l = omega (arith, hit x y o (6 + length body) h (omega arith), all-within (o + (6 + length body)) rest (omega arith) (omega arith))
  all-within o (skip id body rest) h l = all-within (o + (6 + length body)) rest (omega arith) (omega arith)
  all-within o (known id own kids rest) h l =
      split o id own kids rest ∙ omega (arith, all-within (o + (6 + length own)) kids (omega arith) (omega arith), all-within (o + (6 + length own + size (with kids))) rest (omega arith) (omega arith))

-- ---- the pieces of the whole file, seen from one run of it

-- Within the run m that begins at o, ps has just the run's own pieces; before o it has a bytes.
abbrev pub Holds : List Piece → ℕ → ℕ → Marked → Type 0
Holds ps o a m = (x y : ℕ) → y ≤ o + size (with m) →
    (o ≤ x → bytes_put x y ps ≡ bytes_put x y (pieces o m)) × (o ≤ y → before y ps ≡ a + before y (pieces o m))

pub holds-all : (m : Marked) → Holds (pieces 0 m) 0 0 m
holds-all m x y h = (λ l. refl, λ l. omega arith)

module _ (ps : List Piece) (o a : ℕ) where
  pub holds-put : (id : ℕ) (body : List ℕ) (rest : Marked) → Holds ps o a (put id body rest) → Holds ps (o + (6 + length body)) (a + (6 + length body)) rest
  holds-put id body rest h x y l = let g = h x y (omega arith) in (
    λ k. g.0 (omega arith) ∙ omega (arith, miss-before x y o (6 + length body) (omega arith)),
    λ k. g.1 (omega arith) ∙ omega (arith, hit 0 y o (6 + length body) (omega arith) (omega arith)),
  )

  pub holds-skip : (id : ℕ) (body : List ℕ) (rest : Marked) → Holds ps o a (skip id body rest) → Holds ps (o + (6 + length body)) a rest
  holds-skip id body rest h x y l = let g = h x y (omega arith) in (λ k. g.0 (omega arith), λ k. g.1 (omega arith))

  module _ (id : ℕ) (own : List ℕ) (kids rest : Marked) (h : Holds ps o a (known id own kids rest)) where
    pub holds_kids : Holds ps (o + (6 + length own)) a kids
    holds_kids x y l = let g = h x y (omega arith) in let o₂ : ℕ = o + (6 + length own + size (with kids)) in (
      λ k. g.0 (omega arith) ∙ omega (arith, split x y o id own kids rest, none_before x y o₂ rest (omega arith)),
      λ k. g.1 (omega arith) ∙ omega (arith, split 0 y o id own kids rest, none_before 0 y o₂ rest (omega arith)),
    )

    pub holds-rest : Holds ps (o + (6 + length own + size (with kids))) (a + added kids) rest
    holds-rest x y l = let g = h x y (omega arith) in let o₁ : ℕ = o + (6 + length own) in (
      λ k. g.0 (omega arith) ∙ omega (arith, split x y o id own kids rest, none_after x y o₁ kids (omega arith)),
      λ k. g.1 (omega arith) ∙ omega (arith, split 0 y o id own kids rest, all-within 0 y o₁ kids (omega arith) (omega arith)),
    )

    -- before the chunk, and up to where its own data ends, stand a bytes
    pub before_here : (y : ℕ) → o ≤ y → y ≤ o + (6 + length own) → before y ps ≡ a
    before_here y l k =
        (h 0 y (omega arith)).1 l ∙
        omega (arith, split 0 y o id own kids rest, none_before 0 y (o + (6 + length own)) kids k, none_before 0 y (o + (6 + length own + size (with kids))) rest (omega arith))

    -- inside it stand those of its children
    pub inside-here : bytes_put o (o + (6 + length own + size (with kids))) ps ≡ added kids
    inside-here =
        let o₁ : ℕ = o + (6 + length own) in
        let o₂ : ℕ = o + (6 + length own + size (with kids)) in
        (h o o₂ (omega arith)).0 (omega arith) ∙
        omega (arith, split o o₂ o id own kids rest, all-within o o₂ o₁ kids (omega arith) (omega arith), none_before o o₂ o₂ rest (omega arith))
