-- The contexts of a figure: the chunk there is the figure's 4D4D, which nothing follows, or stands in it.
use mathlib.Core.Path.{◌≡◌, refl, ap}
use Prim.Native.Nat.{ℕ}
use native.Mathlib.Omega.{arith}
use mathlib.Core.List.{List}
use Rattle.studio_rules.specs.Layout.{Run, end, skip, known, figure, size, ◌then◌}
use Rattle.studio_rules.proofs.Then.{size_then}
use Rattle.claim_turned.proofs.Context.{Context, behind, inner, plug}
use Rattle.claim_turned.proofs.Number.{number_in}

pub never : {A : Type 0} → ◌≡◌ {A = ℕ} 0 1 → A
never e = absurd (omega arith)

behind-end : (a : Run) (id : ℕ) (own : List ℕ) (kids rest : Run) → a then known id own kids rest ≡ end → ⊥
behind-end a id own kids rest e = omega (arith, ap size e, size_then a (known id own kids rest))

-- nothing follows the first known chunk of a figure
pub first_alone : (c : Context) (kids₀ : Run) (id : ℕ) (own : List ℕ) (kids rest : Run) → plug c (known id own kids rest) ≡ figure kids₀ → number_in c ≡ 0 → rest ≡ end
first_alone (behind end) kids₀ id own kids rest e h = cc
first_alone (behind (skip id₁ body a)) kids₀ id own kids rest e h = never (cc)
first_alone (behind (known id₁ own₁ kids₁ a)) kids₀ id own kids rest e h = absurd (omega arith)
first_alone (inner a id₁ own₁ c rest₁) kids₀ id own kids rest e h = absurd (omega arith)

-- with another chunk there, which nothing follows where it is the first, the layout is that of a figure again
pub figure-again : (c : Context) (kids₀ : Run) (id : ℕ) (own : List ℕ) (kids rest kids' rest' : Run) → plug c (known id own kids rest) ≡ figure kids₀ → (number_in c ≡ 0 → rest ≡ end → rest' ≡ end) →
    (kids₁ : Run) × (plug c (known id own kids' rest') ≡ figure kids₁)
figure-again (behind end) kids₀ id own kids rest kids' rest' e h = let r = h refl (cc) in (kids', cc)
figure-again (behind (skip id₁ body a)) kids₀ id own kids rest kids' rest' e h = never (cc)
figure-again (behind (known id₁ own₁ kids₁ a)) kids₀ id own kids rest kids' rest' e h = absurd (behind-end a id own kids rest (cc))
figure-again (inner end id₁ own₁ c rest₁) kids₀ id own kids rest kids' rest' e h = (plug c (known id own kids' rest'), cc)
figure-again (inner (skip id₂ body a) id₁ own₁ c rest₁) kids₀ id own kids rest kids' rest' e h = never (cc)
figure-again (inner (known id₂ own₂ kids₂ a) id₁ own₁ c rest₁) kids₀ id own kids rest kids' rest' e h = absurd (behind-end a id₁ own₁ (plug c (known id own kids rest)) rest₁ (cc))
