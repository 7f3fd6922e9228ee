-- No name at first; then one more, unless it is there.
use mathlib.Core.Path.{◌≡◌, refl, ap, ◌∙◌}
use Prim.Native.Nat.{ℕ, ◌+◌}
use mathlib.Core.Bool.{Bool, true, false, not, ◌||◌}
use mathlib.Core.List.{List, [], ◌∷◌, ◌++◌}
use Rattle.shared_words.specs.Lists.{same}
use Rattle.shared_name_tree.specs.Names.{held, Holds, Grown}
use Rattle.slip_rules.specs.Rules.{named_before}
use Rattle.slip_seen.specs.Seen.{Seen}

pub seen_none : (names nodes : List ℕ) → Holds names nodes 0 → Seen names nodes 0 []
unfolding held
seen_none names nodes h = record { holds = h; those = λ x. refl }

named_last : (x : List ℕ) (seen : List (List ℕ)) (y : List ℕ) → (same y x || named_before x seen) ≡ named_before x (seen ++ (y ∷ []))
named_last x [] y = refl
named_last x (z ∷ seen) y = go (same y x) (same z x) (named_last x seen y)
  where
    go : (a b : Bool) → (a || named_before x seen) ≡ named_before x (seen ++ (y ∷ [])) → (a || (b || named_before x seen)) ≡ (b || named_before x (seen ++ (y ∷ [])))
    go true true e = refl
    go true false e = e
    go false b e = ap (λ (c : Bool). b || c) e

module _ {names nodes : List ℕ} {n : ℕ} {seen : List (List ℕ)} {x : List ℕ} {nodes' : List ℕ} (s : Seen names nodes n seen) where
  pub seen-answer : {r : Bool} → Grown names nodes n x r nodes' → r ≡ not (named_before x seen)
  seen-answer g = g.answer ∙ ap not (s.those x)

  pub seen-on : Grown names nodes n x true nodes' → Seen names nodes' (n + 1) (seen ++ (x ∷ []))
  seen-on g = record { holds = g.new refl; those = λ y. g.those refl y ∙ ap (λ (b : Bool). same x y || b) (s.those y) ∙ named_last y seen x }
