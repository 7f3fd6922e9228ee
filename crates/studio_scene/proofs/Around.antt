-- The rules around 3D3D see only that it is there: the file with other lawful children in it obeys them too.
use mathlib.Core.Path.{◌≡◌, refl, sym, ap, ◌∙◌}
use Prim.Native.Nat.{ℕ}
use mathlib.Core.List.{List, [], ◌∷◌}
use Rattle.shared_words.specs.Bytes.{value}
use Rattle.studio_rules.specs.Table.{rows, plus}
use Rattle.studio_rules.specs.Layout.{Run, end, skip, known, figure, identifiers, child, held}
use Rattle.studio_rules.specs.Rules.{file, tally, Children, Obeys, version}
use Rattle.studio_rules.specs.Walk.{top}
use Rattle.studio_rules.specs.Gives.{fathers_in, parts_from, parts}
use Rattle.studio_rules.proofs.Gaps.{children_alike}
use Rattle.studio_scene.specs.Passed.{passed}
use Rattle.studio_scene.specs.Scene.{holding}
use Rattle.studio_scene.proofs.Then.{identifiers_then, obeys-join, obeys-parts}
use Rattle.studio_scene.proofs.Children.{scene, scene-children}

module _ (before t u after : Run) where
  identifiers-same : identifiers (holding before u after) ≡ identifiers (holding before t after)
  identifiers-same = identifiers_then before (known 0x3D3D [] u after) ∙ sym (identifiers_then before (known 0x3D3D [] t after))

child-same : (x : ℕ) (before t u after : Run) → child x (holding before u after) ≡ child x (holding before t after)
child-same x end t u after = refl
child-same x (skip id body rest) t u after = child-same x rest t u after
child-same x (known id own kids rest) t u after = rw (child-same x rest t u after)

held_same : (before t u after : Run) → held 0xB000 (holding before u after) ≡ held 0xB000 (holding before t after)
held_same end t u after = refl
held_same (skip id body rest) t u after = held_same rest t u after
held_same (known id own kids rest) t u after = rw (held_same rest t u after)

pub parts_same : (before t u after : Run) → parts (holding before u after) ≡ parts (holding before t after)
parts_same before t u after = ap (λ (x : Run). parts_from [] (fathers_in x)) (held_same before t u after)

pub version-same : (before t u after : Run) → version (holding before u after) ≡ version (holding before t after)
version-same before t u after = ap value (child-same 0x0002 before t u after)

module _ (v : ℕ) (before t u after : Run) where
  file-children : Children (top v) (holding before t after) → Children (top v) (holding before u after)
  unfolding plus rows
  file-children =
      children_alike (top v) (holding before t after) (holding before u after)
      record { ids = identifiers-same before t u after; owns = λ x. child-same x before t u after } refl

  pub obeys-holding : ((n : ℕ) → Obeys (scene n v) [] t → Obeys (scene n v) [] u) → Obeys (file v) [] (figure (holding before t after)) → Obeys (file v) [] (figure (holding before u after))
  obeys-holding f h =
      let seen : List ℕ = passed [] before in
      let n : ℕ = tally (0x3D3D ∷ []) seen in
      let k = obeys-parts (top v) [] before (known 0x3D3D [] t after) h.2 in
      let c = k.1 in
      (h.0, file-children h.1, obeys-join (top v) [] before (known 0x3D3D [] u after) k.0 (c.0, scene-children n v u, f n c.2, c.3), tt)
