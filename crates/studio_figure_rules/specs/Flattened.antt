-- Every figure can be given as rows: laid flat they fit, and taken apart they are that figure.
use Rattle.std.specs.Prelude.{◌≡◌, ℕ, true, List, [], ◌∷◌, ◌++◌, map, length}
use Rattle.std.proofs.Math.Option.{none}
use Rattle.shared_words.specs.Lists.{every}
use Rattle.shared_words.specs.Floats.{finite, float}
use Rattle.shared_words.specs.Conditions.{broken}
use Rattle.studio_figure_rules.specs.Given.{Group, Object, Material, Figure, over, colours, Bits32}
use Rattle.studio_figure_rules.specs.Described.{Flat, fit_conditions, described}

-- the face groups of all objects
abbrev pub groups_over : List Object → List Group
groups_over os = over (λ (o : Object). o.groups) os

abbrev pub object_numbers : Object → List ℕ
object_numbers o = length o.name ∷ length o.vertices ∷ length o.corners ∷ length o.smoothing ∷ length o.groups ∷ []

abbrev pub group_numbers : Group → List ℕ
group_numbers g = length g.name ∷ length g.faces ∷ []

abbrev pub flattened : Figure → Flat
flattened f = record {
  names =
      over (λ (o : Object). o.name) f.objects ++
      (over (λ (m : Material). m.name) f.materials ++ over (λ (g : Group). g.name) (groups_over f.objects));
  objects = over object_numbers f.objects;
  vertices = map float (over (λ (o : Object). o.vertices) f.objects);
  corners = over (λ (o : Object). o.corners) f.objects;
  smoothing = over (λ (o : Object). o.smoothing) f.objects;
  groups = over group_numbers (groups_over f.objects);
  faces = over (λ (g : Group). g.faces) (groups_over f.objects);
  materials = map (λ (m : Material). length m.name) f.materials;
  colours = over colours f.materials;
}

-- (Of a float that is not a number no bits are known.)
abbrev pub FiniteFloats : Figure → Type 0
FiniteFloats f = every finite (over (λ (o : Object). o.vertices) f.objects) ≡ true

pub record GivenFlat (f : Figure) : Type 0 where
  pub fits : broken (fit_conditions (flattened f)) ≡ none
  pub same : Bits32 f → FiniteFloats f → described (flattened f) ≡ f
