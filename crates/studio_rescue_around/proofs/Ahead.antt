-- The search for 3D3D: its equation, and what it says at a position of the file.
use mathlib.Core.Path.{◌≡◌, refl, sym, ap, ◌∙◌}
use mathlib.Core.Bool.{true, cond}
use mathlib.Core.List.{List}
use mathlib.Core.Option.{Option, none, some}
use Prim.Native.Nat.{ℕ, zero, suc, ◌+◌, ◌≤◌, ◌<◌}
use native.Mathlib.Omega.{arith}
use lib.Dec.{eqb, leb}
use lib.ListN.{length, take, drop, length-drop}
use lib.Seq.{drop-drop}
use borrow.Author.Tests.{le-leb, lt-leb, leb-true, ne_eqb}
use Rattle.shared_words.specs.declared.Refusal.{Refusal}
use Rattle.shared_words.specs.declared.Refusal.TheVariants.{Stray, Short, Overrun}
use Rattle.shared_words.specs.Bytes.{value}
use Rattle.shared_words.specs.Conditions.{broken}
use Rattle.shared_words.proofs.Conditions.{met, unbroken, broken-here, broken-later}
use Rattle.studio_rules.specs.Walk.{header_conditions, length_field}
use Rattle.shared_numbers.specs.Numbers.{word_at, long_at}
use Rattle.studio_rescue_around.specs.Around.{ahead_by, ahead_run, ahead}

-- ---- the equation

by-same : (go go' : ℕ → List ℕ → ℕ) (o : ℕ) (s : List ℕ) (n : ℕ) (r : Option Refusal) → broken (header_conditions o s n) ≡ r → ((o : ℕ) (t : List ℕ) → length t < length s → go o t ≡ go' o t) →
    ahead_by go o s n r ≡ ahead_by go' o s n r
by-same go go' o s n (some r) e h = refl
by-same go go' o s n none e h =
    let t = met _ e in
    let l₁ : 6 ≤ length s = leb-true _ _ t.0 in
    let l₂ : 6 ≤ n = leb-true _ _ t.1.0 in
    rw (h (o + n) (drop n s) (omega (arith, length-drop n s)))

run-same : (k k' o : ℕ) (s : List ℕ) → length s < k → length s < k' → ahead_run k o s ≡ ahead_run k' o s
run-same zero k' o s h h' = absurd (omega arith)
run-same (suc k) zero o s h h' = absurd (omega arith)
run-same (suc k) (suc k') o s h h' =
    by-same (ahead_run k) (ahead_run k') o s (length_field s) (broken (header_conditions o s (length_field s))) refl (λ o t l. run-same k k' o t (omega arith) (omega arith))

pub ahead-next : (o : ℕ) (s : List ℕ) → ahead o s ≡ ahead_by ahead o s (length_field s) (broken (header_conditions o s (length_field s)))
unfolding ahead
ahead-next o s =
    by-same (ahead_run (length s)) ahead o s (length_field s) (broken (header_conditions o s (length_field s))) refl (λ o t l. run-same (length s) (suc (length t)) o t l (omega arith))

-- ---- at a position of the file

module _ (s : List ℕ) (at : ℕ) (in_file_lem : at ≤ length s) where
  abbrev here : List ℕ
  here = drop at s

  abbrev conditions : ℕ → Option Refusal
  conditions n = broken (header_conditions at here n)

  bad : (r : Refusal) → conditions (length_field here) ≡ some r → length s ≡ at + ahead at (drop at s)
  bad r e =
      let q : ahead at here ≡ length here = ahead-next at here ∙ ap (ahead_by ahead at here (length_field here)) e in
      omega (arith, q, length-drop at s)

  pub stray : length s < at + 6 → length s ≡ at + ahead at (drop at s)
  stray h = bad (Stray at) (broken-here _ _ _ (lt-leb 6 (length here) (omega (arith, length-drop at s))))

  module _ (six : at + 6 ≤ length s) (n : ℕ) (n-is : n ≡ long_at s (at + 2)) where
    room : leb 6 (length here) ≡ true
    room = le-leb 6 (length here) (omega (arith, length-drop at s))

    field : length_field (drop at s) ≡ n
    unfolding long_at
    field = ap (λ (l : List ℕ). value (take 4 l)) (drop-drop 2 at s) ∙ sym n-is

    pub short : n < 6 → length s ≡ at + ahead at (drop at s)
    short h = bad (Short at) (broken-later _ _ _ room ∙ broken-here _ _ _ (rw field (lt-leb 6 n h)))

    module _ (long : 6 ≤ n) where
      pub overrun : length s < at + n → length s ≡ at + ahead at (drop at s)
      overrun h =
          bad (Overrun at) (broken-later _ _ _ room ∙ broken-later _ _ _ (rw field (le-leb 6 n long)) ∙ broken-here _ _ _ (rw field (lt-leb n (length here) (omega (arith, length-drop at s)))))

      module _ (ends : at + n ≤ length s) where
        good : ahead at (drop at s) ≡ cond (eqb (word_at s at) 0x3D3D) 0 (n + ahead (at + n) (drop (at + n) s))
        unfolding word_at
        good =
            let e : conditions n ≡ none = unbroken (header_conditions at here n) (room, (le-leb 6 n long, (le-leb n (length here) (omega (arith, length-drop at s)), tt))) in
            ahead-next at here ∙ rw (field, e, drop-drop n at s)

        pub found : word_at s at ≡ 0x3D3D → at ≡ at + ahead at (drop at s)
        found i = let z : ahead at (drop at s) ≡ 0 = good ∙ rw i in omega (arith, z)

        pub passes : (word_at s at ≡ 0x3D3D → ⊥) → at + ahead at (drop at s) ≡ at + n + ahead (at + n) (drop (at + n) s)
        passes other =
            let z : ahead at (drop at s) ≡ n + ahead (at + n) (drop (at + n) s) = good ∙ rw (ne_eqb (word_at s at) 0x3D3D other) in
            omega (arith, z)
