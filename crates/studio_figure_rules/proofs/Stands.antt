-- A chunk that stands in a file at an offset: where its own data, its children and the rest of its run stand.
use mathlib.Core.Path.{◌≡◌, refl, sym, ap, ◌∙◌}
use Prim.Native.Nat.{ℕ, ◌+◌}
use native.Mathlib.Omega.{arith}
use mathlib.Core.List.{List, ◌++◌, append_assoc}
use lib.ListN.{length, drop}
use lib.Seq.{drop_at, drop-drop}
use Rattle.studio_rules.specs.Layout.{Run, skip, known, size, bytes}
use Rattle.studio_rules.proofs.Sound.{length-bytes}

-- the run t stands in the file s at an offset, and more may follow
abbrev pub Stands : List ℕ → ℕ → Run → List ℕ → Type 0
Stands s at t more = drop at s ≡ bytes t ++ more

-- behind what stands at `at`
behind : (s : List ℕ) (at n k : ℕ) (x y : List ℕ) → at + n ≡ k → drop at s ≡ x ++ y → length x ≡ n → drop k s ≡ y
behind s at n k x y e h l = ap (λ (i : ℕ). drop i s) (sym e) ∙ sym (drop-drop n at s) ∙ ap (drop n) h ∙ drop_at x y n l

pub skip-stands : (s : List ℕ) (at id : ℕ) (body : List ℕ) (rest : Run) (more : List ℕ) → Stands s at (skip id body rest) more → Stands s (at + (6 + length body)) rest more
skip-stands s at id body rest more h =
    behind s (at + 6) (length body) (at + (6 + length body)) body (bytes rest ++ more) (omega arith)
    (sym (drop-drop 6 at s) ∙ ap (drop 6) h ∙ append_assoc body (bytes rest) more) refl

module _ (s : List ℕ) (at id : ℕ) (own : List ℕ) (kids rest : Run) (more : List ℕ) (h : Stands s at (known id own kids rest) more) where
  pub own_stands : drop (at + 6) s ≡ own ++ (bytes kids ++ (bytes rest ++ more))
  own_stands =
      sym (drop-drop 6 at s) ∙ ap (drop 6) h ∙ append_assoc own (bytes kids ++ bytes rest) more ∙
      ap (λ (l : List ℕ). own ++ l) (append_assoc (bytes kids) (bytes rest) more)

  pub kids_stand : Stands s (at + (6 + length own)) kids (bytes rest ++ more)
  kids_stand = behind s (at + 6) (length own) (at + (6 + length own)) own (bytes kids ++ (bytes rest ++ more)) (omega arith) own_stands refl

  pub rest-stands : Stands s (at + (6 + length own + size kids)) rest more
  rest-stands =
      behind s (at + (6 + length own)) (size kids) (at + (6 + length own + size kids)) (bytes kids) (bytes rest ++ more) (omega arith) kids_stand (length-bytes kids)
