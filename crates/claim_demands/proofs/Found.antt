-- An answer z that no refusal gives: what was found on the way to it.
use mathlib.Core.Path.{◌≡◌, refl}
use mathlib.Core.Bool.{Bool, true, false, cond}
use mathlib.Core.Option.{Option, none, some}
use Prim.Native.Nat.{ℕ}
use Rattle.shared_words.specs.declared.Refusal.{Refusal}
use Rattle.shared_words.specs.declared.Refusal.TheVariants.{NoSuchMesh}
use Rattle.shared_words.specs.Picked.{pick_mesh}
use Rattle.shared_words.specs.Conditions.{Answer, refused, accepted}
use Rattle.shared_words.specs.Effects.{Effect}

-- the file's layout
pub layout-found : {L Z : Type 0} (fold : Answer L → Z) {z : Z} → ((r : Refusal) → fold (refused r) ≡ z → ⊥) → (a : Answer L) → fold a ≡ z →
    (l : L) × (a ≡ accepted l) × (fold (accepted l) ≡ z)
layout-found fold never (refused r) e = absurd (never r e)
layout-found fold never (accepted l) e = (l, refl, e)

-- the mesh, whatever a mesh is
pub mesh-found : {M A R : Type 0} {z : A} (refuse : Refusal → Effect A R) (use-it : M → Effect A R) (n : ℕ) →
    ((r : Refusal) → (refuse r).answer ≡ z → ⊥) → (o : Option M) →
    (pick_mesh refuse use-it n o).answer ≡ z → (m : M) × (o ≡ some m) × ((use-it m).answer ≡ z)
mesh-found refuse use-it n never none e = absurd (never (NoSuchMesh n) e)
mesh-found refuse use-it n never (some m) e = (m, refl, e)

-- room
pub room-found : {A R : Type 0} {z : A} (fits : Bool) (x y : Effect A R) → (y.answer ≡ z → ⊥) → (cond fits x y).answer ≡ z → (fits ≡ true) × (x.answer ≡ z)
room-found true x y never e = (refl, e)
room-found false x y never e = absurd (never e)
