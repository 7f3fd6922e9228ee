-- A figure as it is given to the writer: objects and materials, names without their zeros.
use Rattle.std.specs.Prelude.{◌≡◌, ℕ, ◌^◌, true, List, [], ◌∷◌, ◌++◌, map}
use Rattle.shared_words.specs.Lists.{every}
use Rattle.studio_rules.specs.Rules.{all_below}

-- a face group: the name of its material, and the numbers of its faces
pub record Group : Type 0 where
  pub name : List ℕ
  pub faces : List ℕ

-- an object: three floats a vertex, each as its 32 bits; three corners a face; no smoothing words, or one a face
pub record Object : Type 0 where
  pub name : List ℕ
  pub vertices : List ℕ
  pub corners : List ℕ
  pub smoothing : List ℕ
  pub groups : List Group

pub record Colour : Type 0 where
  pub red : ℕ
  pub green : ℕ
  pub blue : ℕ

pub record Material : Type 0 where
  pub name : List ℕ
  pub ambient : Colour
  pub diffuse : Colour
  pub specular : Colour

pub record Figure : Type 0 where
  pub objects : List Object
  pub materials : List Material

-- a colour, and the three of a material, as bytes
abbrev pub rgb : Colour → List ℕ
rgb c = c.red ∷ c.green ∷ c.blue ∷ []

abbrev pub colours : Material → List ℕ
colours m = rgb m.ambient ++ (rgb m.diffuse ++ rgb m.specular)

-- ---- its parts, in order

-- what each element gives, one after another
abbrev pub over : {A B : Type 0} → (A → List B) → List A → List B
over give [] = []
over give (x ∷ xs) = give x ++ over give xs

abbrev pub object_names : Figure → List (List ℕ)
object_names f = map (λ (o : Object). o.name) f.objects

abbrev pub material_names : Figure → List (List ℕ)
material_names f = map (λ (m : Material). m.name) f.materials

abbrev pub all_names : Figure → List (List ℕ)
all_names f = object_names f ++ material_names f

-- the names of an object's face groups, and of the figure's, counted through
abbrev pub group_names : Object → List (List ℕ)
group_names o = map (λ (g : Group). g.name) o.groups

abbrev pub all_group_names : Figure → List (List ℕ)
all_group_names f = over group_names f.objects

-- EACH FLOAT HAS 32 BITS, and each part of a colour is a byte, as the elements of a lent row are. (The other numbers need
-- no such word: the conditions bound the bytes of names, corners and face numbers.)
abbrev pub Bits32 : Figure → Type 0
Bits32 f = every (λ (o : Object). all_below (256 ^ 4) o.vertices) f.objects ≡ true

abbrev pub Colours8 : Figure → Type 0
Colours8 f = every (λ m. all_below 256 (colours m)) f.materials ≡ true
